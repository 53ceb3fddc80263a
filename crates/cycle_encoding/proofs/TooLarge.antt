-- When one of two counts passes its limit.
use Rattle.std.proofs.Common.{◌≡◌, ℕ, ◌≤◌, Bool, true, false, length, refl, sym, ◌∙◌, arith, inl, inr}
use Rattle.std.specs.Prelude.{◌||◌, nat_lt}
use Rattle.std.proofs.lemmas.Bool.{cases_lt, lt-ltb, ltb-true, false≢true}
use Rattle.cycle_encoding.specs.Limits.{most_vars, most_clauses}
use Rattle.cnf_core.specs.Formula.{Formula}
use Rattle.cycle_encoding.specs.Plans.{IsTooLarge, PassesLimit}

not_more : (n m : ℕ) → nat_lt n m ≡ false → m ≤ n
not_more n m e =
    elim (cases_lt n m) [
      | inl lt ↦ absurd (false≢true (sym e ∙ lt-ltb n m lt))
      | inr le ↦ le
    ]

left_false : (a b : Bool) → (a || b) ≡ false → a ≡ false
left_false true b h = absurd (false≢true (sym h))
left_false false b h = refl

right_false : (a b : Bool) → (a || b) ≡ false → b ≡ false
right_false true b h = absurd (false≢true (sym h))
right_false false b h = h

module _ (v c : ℕ) where
  pub few_vars : (nat_lt most_vars v || nat_lt most_clauses c) ≡ false → v ≤ most_vars
  few_vars h = not_more 262144 v (left_false (nat_lt most_vars v) (nat_lt most_clauses c) h)

  pub few_clauses : (nat_lt most_vars v || nat_lt most_clauses c) ≡ false → c ≤ most_clauses
  few_clauses h = not_more 2000000 c (right_false (nat_lt most_vars v) (nat_lt most_clauses c) h)

  module _ (f : Formula) (ev : v ≡ f.vars) (ec : c ≡ length f.clauses) where
    one_passes : (a b : Bool) → nat_lt most_vars v ≡ a → nat_lt most_clauses c ≡ b → (a || b) ≡ true → IsTooLarge f
    one_passes true b p q h = inl (let l = ltb-true 262144 v p in omega arith)
    one_passes false true p q h = inr (let l = ltb-true 2000000 c q in omega arith)
    one_passes false false p q h = absurd (false≢true h)

    pub limit_passed : (nat_lt most_vars v || nat_lt most_clauses c) ≡ true → PassesLimit f v c
    limit_passed h = (one_passes (nat_lt most_vars v) (nat_lt most_clauses c) refl refl h, ev, ec)

    pub keeps_within : v ≤ most_vars → c ≤ most_clauses → IsTooLarge f → ⊥
    keeps_within lv lc (inl lt) = omega arith
    keeps_within lv lc (inr lt) = omega arith
