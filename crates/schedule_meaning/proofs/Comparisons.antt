-- What a conjunction, a disjunction and a comparison say.
use Rattle.std.proofs.Common.{◌≡◌, ℕ, ◌<◌, ◌≤◌, refl, sym, ◌∙◌, inl, inr, ◌⊎◌, arith, Bool, true, false, ◌&&◌}
use Rattle.std.specs.Prelude.{◌||◌, nat_le, nat_lt}
use Rattle.std.proofs.lemmas.Bool.{false≢true}
use Rattle.std.proofs.lemmas.Bool.Decides.{leb_tells, Decides-ltb}

pub and_left : (a b : Bool) → (a && b) ≡ true → a ≡ true
and_left true b e = refl
and_left false b e = absurd (false≢true e)

pub and_right : (a b : Bool) → (a && b) ≡ true → b ≡ true
and_right true b e = e
and_right false b e = absurd (false≢true e)

pub and_both : (a b : Bool) → a ≡ true → b ≡ true → (a && b) ≡ true
and_both true b h e = e
and_both false b h e = absurd (false≢true h)

pub or_cases : (a b : Bool) → (a || b) ≡ true → (a ≡ true) ⊎ (b ≡ true)
or_cases true b e = inl refl
or_cases false b e = inr e

pub or_left : (a b : Bool) → a ≡ true → (a || b) ≡ true
or_left true b e = refl
or_left false b e = absurd (false≢true e)

pub or_right : (a b : Bool) → b ≡ true → (a || b) ≡ true
or_right true b e = refl
or_right false b e = e

pub lt_true : (a b : ℕ) → a < b → nat_lt a b ≡ true
lt_true a b h = (Decides-ltb a b).1 h

pub true_lt : (a b : ℕ) → nat_lt a b ≡ true → a < b
true_lt a b h = (Decides-ltb a b).0 h

pub le_true : (a b : ℕ) → a ≤ b → nat_le a b ≡ true
le_true a b h = elim (leb_tells a b) [ inl t ↦ t.0 | inr t ↦ (let l : b < a = t.1 in absurd (omega arith)) ]

pub true_le : (a b : ℕ) → nat_le a b ≡ true → a ≤ b
true_le a b h = elim (leb_tells a b) [ inl t ↦ t.1 | inr t ↦ absurd (false≢true (sym t.0 ∙ h)) ]
