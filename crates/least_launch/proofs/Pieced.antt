-- The line of a goal, piece by piece.
use Rattle.std.proofs.Common.{◌≡◌, ℕ, ◌+◌, ◌<◌, ◌≤◌, List, [], ◌∷◌, ◌++◌, length, take, get_or, Option, refl, sym, ap, ◌∙◌, append_assoc, append-nil, codes, Result, Ok, Err}
use Rattle.std.specs.Prelude.{OnOk}
use Rattle.std.specs.List.{flat_map}
use Rattle.std.proofs.lemmas.List.{take_all, take_more}
use Rattle.std.proofs.lemmas.List.Concat.{flat_map-cons}
use Rattle.std.proofs.lemmas.Grind.{flat_map-append}
use Rattle.launch_graph.specs.LineParts.{words_behind}
use Rattle.text_core.specs.LineTexts.{Words, line_text, lines_text}
use Rattle.least_launch.specs.TailLines.{goal_tail_lines, tail_lines, tail_words}
use Rattle.least_launch.specs.declared.tails.Tail.{Tail}

-- a line is its first word, and each other one behind a space
pub line_begins : (w : List ℕ) (ws : Words) → line_text (w ∷ ws) ≡ w ++ (words_behind ws ++ codes "\n")
line_begins w [] = refl
line_begins w (v ∷ vs) =
    ap (λ t. w ++ (codes " " ++ t)) (line_begins v vs)
    ∙ ap (λ t. w ++ t)
    (sym (ap (λ t. t ++ codes "\n") (flat_map-cons (λ (u : List ℕ). codes " " ++ u) v vs)
    ∙ append_assoc (codes " " ++ v) (words_behind vs) (codes "\n")
    ∙ append_assoc (codes " ") v (words_behind vs ++ codes "\n")))

-- a first word, others behind it, and the end of the line
pub whole_line : (start first : List ℕ) (ws : Words) (t1 t2 t3 : List ℕ) → t1 ≡ start ++ first
    → t2 ≡ t1 ++ words_behind ws → t3 ≡ t2 ++ codes "\n" → t3 ≡ start ++ line_text (first ∷ ws)
whole_line start first ws t1 t2 t3 e1 e2 e3 =
    e3
    ∙ ap (λ t. t ++ codes "\n") (e2 ∙ ap (λ t. t ++ words_behind ws) e1)
    ∙ append_assoc (start ++ first) (words_behind ws) (codes "\n")
    ∙ append_assoc start first (words_behind ws ++ codes "\n")
    ∙ ap (λ t. start ++ t) (sym (line_begins first ws))

-- words behind others
pub then_words : (start : List ℕ) (ws vs : Words) (t1 t2 : List ℕ) → t1 ≡ start ++ words_behind ws
    → t2 ≡ t1 ++ words_behind vs → t2 ≡ start ++ words_behind (ws ++ vs)
then_words start ws vs t1 t2 e1 e2 =
    e2
    ∙ ap (λ t. t ++ words_behind vs) e1
    ∙ append_assoc start (words_behind ws) (words_behind vs)
    ∙ ap (λ t. start ++ t) (sym (flat_map-append (λ (u : List ℕ). codes " " ++ u) ws vs))

-- one word behind what is there
pub one_behind : (start w t : List ℕ) → t ≡ start ++ (codes " " ++ w) → t ≡ start ++ words_behind (w ∷ [])
one_behind start w t e =
    e
    ∙ ap (λ x. start ++ x)
    (sym (flat_map-cons (λ (u : List ℕ). codes " " ++ u) w [] ∙ append-nil (codes " " ++ w)))

pub two_behind : (start w v t1 t2 : List ℕ) → t1 ≡ start ++ (codes " " ++ w) → t2 ≡ t1 ++ (codes " " ++ v)
    → t2 ≡ start ++ words_behind (w ∷ v ∷ [])
two_behind start w v t1 t2 e1 e2 =
    then_words start (w ∷ []) (v ∷ []) t1 t2 (one_behind start w t1 e1) (one_behind t1 v t2 e2)

pub ok_weaker : {A E P Q : Type 0} (r : Result A E) → (P → Q) → OnOk r P → OnOk r Q
ok_weaker (Ok x) then h = then h
ok_weaker (Err e) then h = tt

-- ---- lines

pub line_first : (w : Words) (b : List Words) (start t1 t2 : List ℕ) → t1 ≡ start ++ line_text w
    → t2 ≡ t1 ++ lines_text b → t2 ≡ start ++ lines_text (w ∷ b)
line_first w b start t1 t2 e1 e2 =
    e2
    ∙ ap (λ t. t ++ lines_text b) e1
    ∙ append_assoc start (line_text w) (lines_text b)
    ∙ ap (λ t. start ++ t) (sym (flat_map-cons line_text w b))

-- what is said of the next goal, behind what is said of those before it
pub tails_more : (said : List (Option Tail)) (i : ℕ) (d : Option Tail) (start text new : List ℕ) → i < length said
    → text ≡ start ++ lines_text (flat_map goal_tail_lines (take i said))
    → new ≡ text ++ lines_text (goal_tail_lines (get_or said i d))
    → new ≡ start ++ lines_text (flat_map goal_tail_lines (take (i + 1) said))
tails_more said i d start text new lt so_far printed =
    printed
    ∙ ap (λ t. t ++ lines_text (goal_tail_lines (get_or said i d))) so_far
    ∙ append_assoc start (lines_text (flat_map goal_tail_lines (take i said)))
    (lines_text (goal_tail_lines (get_or said i d)))
    ∙ ap (λ t. start ++ t)
    (sym (flat_map-append line_text (flat_map goal_tail_lines (take i said)) (goal_tail_lines (get_or said i d))))
    ∙ ap (λ (ws : List Words). start ++ lines_text ws)
    (sym (ap (flat_map goal_tail_lines) (take_more said i d lt)
    ∙ flat_map-append goal_tail_lines (take i said) (get_or said i d ∷ [])
    ∙ ap (λ l. flat_map goal_tail_lines (take i said) ++ l) (append-nil (goal_tail_lines (get_or said i d)))))

-- `tail`, and then what is said of all goals
pub tail_whole : (said : List (Option Tail)) (i : ℕ) (start text new : List ℕ) → length said ≤ i
    → text ≡ start ++ line_text tail_words → new ≡ text ++ lines_text (flat_map goal_tail_lines (take i said))
    → new ≡ start ++ lines_text (tail_lines said)
tail_whole said i start text new end first rest =
    line_first tail_words (flat_map goal_tail_lines said) start text new first
    (rest ∙ ap (λ (ts : List (Option Tail)). text ++ lines_text (flat_map goal_tail_lines ts)) (take_all i said end))
