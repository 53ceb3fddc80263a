-- The line of a verdict, piece by piece.
use Rattle.std.proofs.Common.{◌≡◌, ℕ, List, [], ◌∷◌, ◌++◌, refl, sym, ap, ◌∙◌, append_assoc, codes, Result, Ok, Err}
use Rattle.std.specs.Prelude.{OnOk}
use Rattle.std.proofs.lemmas.List.Concat.{flat_map-cons}
use Rattle.launch_graph.specs.LineParts.{words_behind}
use Rattle.text_core.specs.LineTexts.{Words, line_text}

-- a line is its first word, and each other one behind a space
line_begins : (w : List ℕ) (ws : Words) → line_text (w ∷ ws) ≡ w ++ (words_behind ws ++ codes "\n")
line_begins w [] = refl
line_begins w (v ∷ vs) =
    ap (λ t. w ++ (codes " " ++ t)) (line_begins v vs)
    ∙ ap (λ t. w ++ t)
    (sym (ap (λ t. t ++ codes "\n") (flat_map-cons (λ (u : List ℕ). codes " " ++ u) v vs)
    ∙ append_assoc (codes " " ++ v) (words_behind vs) (codes "\n")
    ∙ append_assoc (codes " ") v (words_behind vs ++ codes "\n")))

six : (a b c d e f : List ℕ) → ((((a ++ b) ++ c) ++ d) ++ e) ++ f ≡ a ++ (b ++ (c ++ (d ++ (e ++ f))))
six a b c d e f = simp append_assoc

two_words : (a b rest : List ℕ)
    → (codes " " ++ a) ++ ((codes " " ++ b) ++ rest) ≡ codes " " ++ (a ++ (codes " " ++ (b ++ rest)))
two_words a b rest =
    append_assoc (codes " ") a ((codes " " ++ b) ++ rest)
    ∙ ap (λ t. codes " " ++ (a ++ t)) (append_assoc (codes " ") b rest)

-- a word, two words behind it, others behind these, and the end of the line
pub line_is : (start first name second : List ℕ) (ws : Words) (t1 t2 t3 t4 t5 : List ℕ)
    → t1 ≡ start ++ first → t2 ≡ t1 ++ (codes " " ++ name) → t3 ≡ t2 ++ (codes " " ++ second)
    → t4 ≡ t3 ++ words_behind ws → t5 ≡ t4 ++ codes "\n" → t5 ≡ start ++ line_text (first ∷ name ∷ second ∷ ws)
line_is start first name second ws t1 t2 t3 t4 t5 e1 e2 e3 e4 e5 =
    e5
    ∙ ap (λ t. t ++ codes "\n") (e4 ∙ ap (λ t. t ++ words_behind ws)
    (e3 ∙ ap (λ t. t ++ (codes " " ++ second)) (e2 ∙ ap (λ t. t ++ (codes " " ++ name)) e1)))
    ∙ six start first (codes " " ++ name) (codes " " ++ second) (words_behind ws) (codes "\n")
    ∙ ap (λ t. start ++ (first ++ t)) (two_words name second (words_behind ws ++ codes "\n"))
    ∙ ap (λ t. start ++ (first ++ (codes " " ++ (name ++ (codes " " ++ t))))) (sym (line_begins second ws))

pub ok_weaker : {A E P Q : Type 0} (r : Result A E) → (P → Q) → OnOk r P → OnOk r Q
ok_weaker (Ok x) then h = then h
ok_weaker (Err e) then h = tt
