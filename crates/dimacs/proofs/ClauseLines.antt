-- The text of a clause is that of its literals, each with a space behind it, and of 0.
use Rattle.std.proofs.Common.{◌≡◌, ℕ, zero, suc, ◌+◌, ◌-◌, List, [], ◌∷◌, ◌++◌, map, take, Some, slice_get, refl, sym, ap, subst, ◌∙◌, append_assoc, arith}
use Rattle.std.specs.Prelude.{codes, flat_map}
use Rattle.std.proofs.lemmas.List.{append-nil}
use Rattle.std.proofs.lemmas.List.Concat.{flat_map-cons}
use Rattle.cnf_core.specs.declared.literal.Lit.{Lit}
use Rattle.refutation_check.specs.LineWords.{literal_word}
use Rattle.text_core.specs.LineTexts.{line_text, lines_text}
use Rattle.dimacs.specs.Dimacs.{clause_words}

-- the word of a literal, and a space behind it
abbrev pub literal_front : Lit → List ℕ
literal_front l = literal_word l ++ codes " "

one_more : (l : Lit) (ls : List Lit) → flat_map literal_front ls ++ codes "0\n" ≡ line_text (clause_words ls)
    → flat_map literal_front (l ∷ ls) ++ codes "0\n" ≡ literal_word l ++ (codes " " ++ line_text (clause_words ls))
one_more l ls e =
    ap (λ (xs : List ℕ). xs ++ codes "0\n") (flat_map-cons literal_front l ls)
    ∙ append_assoc (literal_front l) (flat_map literal_front ls) (codes "0\n")
    ∙ append_assoc (literal_word l) (codes " ") (flat_map literal_front ls ++ codes "0\n")
    ∙ ap (λ (xs : List ℕ). literal_word l ++ (codes " " ++ xs)) e

pub clause_text : (ls : List Lit) → flat_map literal_front ls ++ codes "0\n" ≡ line_text (clause_words ls)
clause_text [] = refl
clause_text (l ∷ []) = one_more l [] refl
clause_text (l ∷ m ∷ ls) = one_more l (m ∷ ls) (clause_text (m ∷ ls))

-- ---- one clause more

taken : (cs : List (List Lit)) (i : ℕ) (c : List Lit) → slice_get cs i ≡ Some c → take (suc i) cs ≡ take i cs ++ c ∷ []
taken [] i c g = cc
taken (x ∷ xs) zero c g = (let same : x ≡ c = cc in ap (λ (y : List Lit). y ∷ []) same)
taken (x ∷ xs) (suc i) c g = ap (λ ys. x ∷ ys) (taken xs i c g)

lines_more : (cs : List (List Lit)) (c : List Lit)
    → lines_text (map clause_words (cs ++ c ∷ [])) ≡ lines_text (map clause_words cs) ++ line_text (clause_words c)
lines_more [] c = append-nil (line_text (clause_words c))
lines_more (x ∷ xs) c =
    ap (λ (r : List ℕ). line_text (clause_words x) ++ r) (lines_more xs c)
    ∙ sym (append_assoc (line_text (clause_words x)) (lines_text (map clause_words xs)) (line_text (clause_words c)))

pub next_clause : (front : List ℕ) (cs : List (List Lit)) (i : ℕ) (c : List Lit) → slice_get cs (i + 1 - 1) ≡ Some c
    → (front ++ lines_text (map clause_words (take i cs))) ++ line_text (clause_words c)
    ≡ front ++ lines_text (map clause_words (take (i + 1) cs))
next_clause front cs i c there =
    let at : i + 1 - 1 ≡ i = omega arith in
    let more : i + 1 ≡ suc i = omega arith in
    let here = subst (λ n. slice_get cs n ≡ Some c) at there in
    append_assoc front (lines_text (map clause_words (take i cs))) (line_text (clause_words c))
    ∙ ap (λ (r : List ℕ). front ++ r)
    (sym (ap (λ n. lines_text (map clause_words (take n cs))) more
    ∙ ap (λ ys. lines_text (map clause_words ys)) (taken cs i c here) ∙ lines_more (take i cs) c))
