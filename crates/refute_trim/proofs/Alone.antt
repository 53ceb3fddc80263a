-- Lines are trimmed in one way.
use Rattle.std.proofs.Common.{◌≡◌, ℕ, zero, suc, ◌<◌, List, [], ◌∷◌, map, refl, sym, ◌∙◌, ap, subst, ◌⊎◌, inl, inr, arith}
use Rattle.std.specs.Prelude.{AllPairs, Contains}
use Rattle.std.specs.List.{AllZip}
use Rattle.std.proofs.lemmas.List.Elements.{All-contains}
use Rattle.std.proofs.lemmas.Option.{same_Some}
use Rattle.cnf_core.specs.declared.line.Line.{Line}
use Rattle.refute_trim.specs.Trimmed.{AreTrimmed, IsLineFrom, new_number}
use Rattle.refute_trim.proofs.Places.{head_below, tail_pairs}

-- ---- rising lists with the same members

abbrev IsRising : List ℕ → Type 0
IsRising ps = AllPairs (λ a b. a < b) ps

cons_cases : (q : ℕ) (qs : List ℕ) (k : ℕ) → Contains (q ∷ qs) k → (q ≡ k) ⊎ Contains qs k
cons_cases q qs k (zero, l, e) = inl e
cons_cases q qs k (suc i, l, e) = inr (i, omega (arith, l), e)

cons_behind : (q : ℕ) (qs : List ℕ) (k : ℕ) → Contains qs k → Contains (q ∷ qs) k
cons_behind q qs k (i, l, e) = (suc i, omega (arith, l), e)

above : (q : ℕ) (qs : List ℕ) (k : ℕ) → IsRising (q ∷ qs) → Contains qs k → q < k
above q qs k rising c = All-contains (λ r. q < r) qs k (head_below q qs rising) c

-- of two rising lists, the members of one are members of the other
abbrev AreAmong : List ℕ → List ℕ → Type 0
AreAmong ps qs = (k : ℕ) → Contains ps k → Contains qs k

first_same : (p q : ℕ) (ps qs : List ℕ) → IsRising (p ∷ ps) → IsRising (q ∷ qs) → AreAmong (p ∷ ps) (q ∷ qs) → AreAmong (q ∷ qs) (p ∷ ps) → p ≡ q
first_same p q ps qs rp rq f g = elim (cons_cases q qs p (f p (0, omega arith, refl))) [
  | inl same ↦ sym same
  | inr later ↦ elim (cons_cases p ps q (g q (0, omega arith, refl))) [
    | inl same ↦ same
    | inr other ↦ absurd (let a = above q qs p rq later in let b = above p ps q rp other in omega (arith, a, b))
  ]
]

rest_among : (p q : ℕ) (ps qs : List ℕ) → p ≡ q → IsRising (p ∷ ps) → AreAmong (p ∷ ps) (q ∷ qs) → AreAmong ps qs
rest_among p q ps qs same rp f k c = elim (cons_cases q qs k (f k (cons_behind p ps k c))) [
  | inl first ↦ absurd (let a = above p ps k rp c in omega (arith, a, same, first))
  | inr rest ↦ rest
]

same_rising : (ps qs : List ℕ) → IsRising ps → IsRising qs → AreAmong ps qs → AreAmong qs ps → ps ≡ qs
same_rising [] [] rp rq f g = refl
same_rising [] (q ∷ qs) rp rq f g = absurd (let l = (g q (0, omega arith, refl)).1 in omega (arith, l))
same_rising (p ∷ ps) [] rp rq f g = absurd (let l = (f p (0, omega arith, refl)).1 in omega (arith, l))
same_rising (p ∷ ps) (q ∷ qs) rp rq f g =
    let same = first_same p q ps qs rp rq f g in
    let rest = same_rising ps qs (tail_pairs p ps rp) (tail_pairs q qs rq) (rest_among p q ps qs same rp f) (rest_among q p qs ps (sym same) rq g) in
    λ i. same i ∷ rest i

-- ---- lines from the same places

same_line : (n : ℕ) (all : List ℕ) (lines : List Line) (p : ℕ) (x y : Line) → IsLineFrom n all lines p x → IsLineFrom n all lines p y → x ≡ y
same_line n all lines p x y a b =
    let old : a.old ≡ b.old = same_Some a.old b.old (sym a.there ∙ b.there) in
    let same_id : x.id ≡ y.id = a.renumbered.id ∙ ap (λ (l : Line). new_number n all l.id) old ∙ sym b.renumbered.id in
    let same_lits : x.lits ≡ y.lits = a.renumbered.lemma ∙ ap (λ (l : Line). l.lits) old ∙ sym b.renumbered.lemma in
    let same_hints : x.hints ≡ y.hints = a.renumbered.hints ∙ ap (λ (l : Line). map (new_number n all) l.hints) old ∙ sym b.renumbered.hints in
    λ i. record { id = same_id i; lits = same_lits i; hints = same_hints i }

same_lines : (n : ℕ) (all : List ℕ) (lines : List Line) (ps : List ℕ) (new other : List Line) → AllZip (IsLineFrom n all lines) ps new → AllZip (IsLineFrom n all lines) ps other → new ≡ other
same_lines n all lines [] [] [] a b = refl
same_lines n all lines [] [] (y ∷ other) a b = absurd b
same_lines n all lines [] (x ∷ new) other a b = absurd a
same_lines n all lines (p ∷ ps) [] other a b = absurd a
same_lines n all lines (p ∷ ps) (x ∷ new) [] a b = absurd b
same_lines n all lines (p ∷ ps) (x ∷ new) (y ∷ other) a b =
    let first = same_line n all lines p x y a.0 b.0 in
    let rest = same_lines n all lines ps new other a.1 b.1 in
    λ i. first i ∷ rest i

pub one_way : (n : ℕ) (lines new other : List Line) → AreTrimmed n lines new → AreTrimmed n lines other → new ≡ other
one_way n lines new other a b =
    let places : b.places ≡ a.places = same_rising b.places a.places b.rising a.rising
    (λ k c. (a.exactly k).1 ((b.exactly k).0 c))
    (λ k c. (b.exactly k).1 ((a.exactly k).0 c)) in
    same_lines n a.places lines a.places new other a.from (subst (λ ps. AllZip (IsLineFrom n ps lines) ps other) places b.from)
