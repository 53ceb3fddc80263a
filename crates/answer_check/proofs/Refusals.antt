-- The first refused line and its least reason are one, and lines that are right have none.
use Rattle.std.proofs.Common.{◌≡◌, ℕ, zero, suc, ◌-◌, ◌<◌, ◌≤◌, inl, inr, List, [], ◌∷◌, length, take, sym, subst, ◌∙◌, arith, refl}
use Rattle.std.specs.List.{slice_index_or}
use Rattle.cnf_core.specs.Formula.{Formula}
use Rattle.cnf_core.specs.Refutation.{IsAccepted, IsRefusedFor, IsRefusedAt, IsFirstRefusal, AreRight}
use Rattle.cnf_core.specs.declared.line.Line.{Line}

module _ (f : Formula) (earlier : List Line) (line : Line) where
  not_accepted : (why : ℕ) → IsRefusedFor f earlier line why → IsAccepted f earlier line → ⊥
  not_accepted zero r a = absurd (omega (arith, r.least))
  not_accepted (suc zero) r a = r.number refl a.numbered
  not_accepted (suc (suc zero)) r a = r.name refl a.named
  not_accepted (suc (suc (suc zero))) r a = r.unit refl (a.ends.0, a.ends.1)
  not_accepted (suc (suc (suc (suc zero)))) r a = r.end refl a.ends
  not_accepted (suc (suc (suc (suc (suc n))))) r a = absurd (omega (arith, r.most))

  not_less : (why other : ℕ) → IsRefusedFor f earlier line why → IsRefusedFor f earlier line other → why < other → ⊥
  not_less zero other r s lt = absurd (omega (arith, r.least))
  not_less (suc zero) other r s lt = r.number refl (s.numbered lt)
  not_less (suc (suc zero)) other r s lt = r.name refl (s.named lt)
  not_less (suc (suc (suc zero))) other r s lt = r.unit refl (s.units lt)
  not_less (suc (suc (suc (suc zero)))) other r s lt = absurd (omega (arith, s.most, lt))
  not_less (suc (suc (suc (suc (suc n))))) other r s lt = absurd (omega (arith, r.most))

  one_reason : (why other : ℕ) → IsRefusedFor f earlier line why → IsRefusedFor f earlier line other → why ≡ other
  one_reason why other r s =
      let a : ¬ (why < other) = not_less why other r s in
      let b : ¬ (other < why) = not_less other why s r in
      omega (arith, a, b)

module _ (Placed : ℕ → Line → Type 0) (f : Formula) (lines : List Line) where
  one_refusal : (k : ℕ) (line : Line) (a b : ℕ) → IsRefusedAt Placed f lines k line a
      → IsRefusedAt Placed f lines k line b → a ≡ b
  one_refusal k line a b (inl r) (inl s) = one_reason f (take k lines) line a b r s
  one_refusal k line a b (inl r) (inr t) = absurd (not_accepted f (take k lines) line a r t.1)
  one_refusal k line a b (inr t) (inl s) = absurd (not_accepted f (take k lines) line b s t.1)
  one_refusal k line a b (inr t) (inr u) = t.0 ∙ sym u.0

  not_right : (k : ℕ) (line : Line) (why : ℕ) → IsRefusedAt Placed f lines k line why → IsAccepted f (take k lines) line
      → Placed k line → ⊥
  not_right k line why (inl r) a p = not_accepted f (take k lines) line why r a
  not_right k line why (inr t) a p = t.2 p

  -- where there is a line, the refused one is among them
  among : (n why : ℕ) → 1 ≤ length lines → IsFirstRefusal Placed f lines n why → n ≤ length lines
  among n why some r =
      let inside : ¬ (length lines < n) =
      λ lt. (let e : n ≡ 1 = (r.none lt).0 in absurd (omega (arith, e, lt, some))) in
      omega (arith, inside)

  not_before : (d : Line) (n m a b : ℕ) → n ≤ length lines → IsFirstRefusal Placed f lines n a
      → IsFirstRefusal Placed f lines m b → n < m → ⊥
  not_before d n m a b few r s lt =
      let first : 1 ≤ n = r.from_one in
      let right = s.before (n - 1) d (omega (arith, first, lt)) in
      not_right (n - 1) (slice_index_or lines (n - 1) d) a (r.refused d few) right.0 right.1

  one_first : (d : Line) (n m a b : ℕ) → 1 ≤ length lines → IsFirstRefusal Placed f lines n a
      → IsFirstRefusal Placed f lines m b → (n ≡ m) × (a ≡ b)
  one_first d n m a b some r s =
      let x : ¬ (n < m) = not_before d n m a b (among n a some r) r s in
      let y : ¬ (m < n) = not_before d m n b a (among m b some s) s r in
      let e : n ≡ m = omega (arith, x, y) in (
        e,
        one_refusal (m - 1) (slice_index_or lines (m - 1) d) a b
            (subst (λ i. IsRefusedAt Placed f lines (i - 1) (slice_index_or lines (i - 1) d) a) e
            (r.refused d (among n a some r)))
            (s.refused d (among m b some s)),
      )

  none_right : (d : Line) (n why : ℕ) → AreRight Placed f lines → IsFirstRefusal Placed f lines n why → ⊥
  none_right d n why right r =
      let few : n ≤ length lines = among n why right.some r in
      let first : 1 ≤ n = r.from_one in
      let lt : n - 1 < length lines = omega (arith, few, first) in
      not_right (n - 1) (slice_index_or lines (n - 1) d) why (r.refused d few) (right.accepted (n - 1) d lt)
      (right.placed (n - 1) d lt)

pub first_refusal_once : (Placed : ℕ → Line → Type 0) (f : Formula) (lines : List Line) (n m a b : ℕ)
    → IsFirstRefusal Placed f lines n a → IsFirstRefusal Placed f lines m b → (n ≡ m) × (a ≡ b)
first_refusal_once Placed f [] n m a b r s =
    let x = r.none (let h : 1 ≤ n = r.from_one in omega (arith, h)) in
    let y = s.none (let h : 1 ≤ m = s.from_one in omega (arith, h)) in
    (x.0 ∙ sym y.0, x.1 ∙ sym y.1)
first_refusal_once Placed f (l ∷ ls) n m a b r s = one_first Placed f (l ∷ ls) l n m a b (omega arith) r s

pub right_not_refused : (Placed : ℕ → Line → Type 0) (f : Formula) (lines : List Line) (n why : ℕ)
    → AreRight Placed f lines → IsFirstRefusal Placed f lines n why → ⊥
right_not_refused Placed f [] n why right r = absurd (let h : 1 ≤ 0 = right.some in omega (arith, h))
right_not_refused Placed f (l ∷ ls) n why right r = none_right Placed f (l ∷ ls) l n why right r
