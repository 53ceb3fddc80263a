-- Constants of classes, place by place.
use Rattle.std.proofs.Common.{◌≡◌, ℕ, zero, suc, ◌+◌, ◌<◌, List, [], ◌∷◌, ◌++◌, length, get_or, take, drop, Option, Some, None, MatchOption, refl, sym, subst, arith}
use Rattle.std.specs.List.{AllZip}
use Rattle.word_ops.specs.declared.sorts.Op.{Op}
use Rattle.word_terms.specs.Keys.{op_signature}
use Rattle.egraph.specs.Graph.{Graph, IsGraph, HasConstant, LacksConstant}
use Rattle.std.proofs.lemmas.List.{get_or_default}
use Rattle.std.proofs.lemmas.List.Elements.{all_zip_more}
use Rattle.axiom_base.specs.Conditions.{IsCalc}
use Rattle.axiom_base.specs.declared.kinds.Given.{Given}
use Rattle.axiom_base.specs.Computed.{first_constant}
use Rattle.axiom_base.specs.declared.kinds.Calc.{Calc}
use Rattle.pattern_match.specs.Matches.{HaveConstants, AreGiven}

pub zip_length : (R : ℕ → ℕ → Type 0) (xs ys : List ℕ) → AllZip R xs ys → length ys ≡ length xs
zip_length R [] [] h = refl
zip_length R [] (y ∷ ys) h = absurd h
zip_length R (x ∷ xs) [] h = absurd h
zip_length R (x ∷ xs) (y ∷ ys) h = let e = zip_length R xs ys h.1 in omega (arith, e)

pub zip_at : (R : ℕ → ℕ → Type 0) (xs ys : List ℕ) → AllZip R xs ys → (i : ℕ) → i < length xs → R (get_or xs i 0) (get_or ys i 0)
zip_at R [] ys h i l = absurd (omega (arith, l))
zip_at R (x ∷ xs) [] h i l = absurd h
zip_at R (x ∷ xs) (y ∷ ys) h zero l = h.0
zip_at R (x ∷ xs) (y ∷ ys) h (suc i) l = zip_at R xs ys h.1 i (omega (arith, l))

pub zip_from : (R : ℕ → ℕ → Type 0) (xs ys : List ℕ) → length ys ≡ length xs → ((i : ℕ) → i < length xs → R (get_or xs i 0) (get_or ys i 0)) → AllZip R xs ys
zip_from R [] [] e h = tt
zip_from R [] (y ∷ ys) e h = absurd (omega (arith, e))
zip_from R (x ∷ xs) [] e h = absurd (omega (arith, e))
zip_from R (x ∷ xs) (y ∷ ys) e h = (h 0 (omega arith), zip_from R xs ys (omega (arith, e)) (λ i l. h (suc i) (omega (arith, l))))

zip_once : (R : ℕ → ℕ → Type 0) → ((x y z : ℕ) → R x y → R x z → y ≡ z) → (xs ys zs : List ℕ) → AllZip R xs ys → AllZip R xs zs → ys ≡ zs
zip_once R one [] [] [] h k = refl
zip_once R one [] (y ∷ ys) zs h k = absurd h
zip_once R one [] [] (z ∷ zs) h k = absurd k
zip_once R one (x ∷ xs) [] zs h k = absurd h
zip_once R one (x ∷ xs) (y ∷ ys) [] h k = absurd k
zip_once R one (x ∷ xs) (y ∷ ys) (z ∷ zs) h k = let e = one x y z h.0 k.0 in let f = zip_once R one xs ys zs h.1 k.1 in cc

pub one_list : (g : Graph Op) → IsGraph op_signature g → (classes ws vs : List ℕ) → HaveConstants g classes ws → HaveConstants g classes vs → ws ≡ vs
one_list g is = zip_once (λ class word. HasConstant op_signature g.rows class word) (λ x y z h k. is.constants x y z h k)

pub no_list : (g : Graph Op) (classes words : List ℕ) (i class : ℕ) → i < length classes → class ≡ get_or classes i 0 → LacksConstant op_signature g.rows class → HaveConstants g classes words → ⊥
no_list g classes words i class l e lacks h = lacks (get_or words i 0) (subst (λ c. HasConstant op_signature g.rows c (get_or words i 0)) (sym e) (zip_at (λ c w. HasConstant op_signature g.rows c w) classes words h i l))

pub constants_more : (g : Graph Op) (classes words : List ℕ) (i word : ℕ) → i < length classes → HaveConstants g (take i classes) words → HasConstant op_signature g.rows (get_or classes i 0) word → HaveConstants g (take (i + 1) classes) (words ++ word ∷ [])
constants_more g classes words i word l h k = all_zip_more (λ c w. HasConstant op_signature g.rows c w) classes words i (get_or classes i 0) word l (get_or_default classes i 0 (get_or classes i 0) l) h k

pub given_exactly : (g : Graph Op) → IsGraph op_signature g → (kind : Calc) (classes words : List ℕ) (r : Option Given) → HaveConstants g (drop (first_constant kind) classes) words →
    MatchOption r ((given : Given) → IsCalc kind words given → ⊥) (IsCalc kind words) → MatchOption r ((given : Given) → AreGiven g kind classes given → ⊥) (AreGiven g kind classes)
given_exactly g is kind classes words None h none = λ given a. none given (subst (λ ws. IsCalc kind ws given) (one_list g is (drop (first_constant kind) classes) a.words words a.constants h) a.calc)
given_exactly g is kind classes words (Some given) h some = record { words = words; constants = h; calc = some }
