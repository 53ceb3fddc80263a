-- The latest launch, one more at a time.
use Rattle.std.proofs.Common.{◌≡◌, ℕ, ◌+◌, ◌<◌, ◌≤◌, List, [], ◌∷◌, ◌++◌, length, take, get_or, refl, sym, ◌∙◌, ap, inl, inr, ◌⊎◌, arith, Bool, true, false, cond, Option, Some, None}
use Rattle.std.specs.Prelude.{nat_lt, if◌then◌else◌}
use Rattle.std.proofs.lemmas.Bool.Decides.{Decides-ltb}
use Rattle.std.specs.Prelude.{Decides}
use Rattle.std.proofs.lemmas.List.{take_more}
use Rattle.schedule_meaning.specs.Launches.{latest, later}
use Rattle.schedule_meaning.specs.Readers.{later_of}
use Rattle.schedule_meaning.specs.declared.schedules.Launch.{Launch}

tells : (a b : ℕ) (t : Bool) → Decides t (a < b) → ((t ≡ true) × (a < b)) ⊎ ((t ≡ false) × (b ≤ a))
tells a b true d = inl (refl, d.0 refl)
tells a b false d = inr (refl, (let n : ¬ (a < b) = λ h. absurd (cc_false (d.1 h)) in omega arith))
  where
    cc_false : false ≡ true → ⊥
    cc_false e = cc

ltb_tells : (a b : ℕ) → ((nat_lt a b ≡ true) × (a < b)) ⊎ ((nat_lt a b ≡ false) × (b ≤ a))
ltb_tells a b = tells a b (nat_lt a b) (Decides-ltb a b)

lt_true : (a b : ℕ) → a < b → nat_lt a b ≡ true
lt_true a b h = elim (ltb_tells a b) [ inl t ↦ t.0 | inr t ↦ (let l : b ≤ a = t.1 in absurd (omega arith)) ]

lt_false : (a b : ℕ) → b ≤ a → nat_lt a b ≡ false
lt_false a b h = elim (ltb_tells a b) [ inl t ↦ (let l : a < b = t.1 in absurd (omega arith)) | inr t ↦ t.0 ]

later_more : (x m l : Launch) → later x (later_of (Some m) l) ≡ later_of (later x (Some m)) l
later_more x m l =
    elim (ltb_tells m.cycle l.cycle) [
      | inl a ↦ elim (ltb_tells x.cycle m.cycle) [
        | inl b ↦ (
            let p : m.cycle < l.cycle = a.1 in
            let q : x.cycle < m.cycle = b.1 in
            ap (λ t. later x (if t then Some l else Some m)) a.0
            ∙ ap (λ t. if t then Some l else Some x) (lt_true x.cycle l.cycle (omega arith))
            ∙ sym (ap (λ t. later_of (if t then Some m else Some x) l) b.0 ∙ ap (λ t. if t then Some l else Some m) a.0))
        | inr b ↦ (
            ap (λ t. later x (if t then Some l else Some m)) a.0
            ∙ sym (ap (λ t. later_of (if t then Some m else Some x) l) b.0))
      ]
      | inr a ↦ elim (ltb_tells x.cycle m.cycle) [
        | inl b ↦ (
            ap (λ t. later x (if t then Some l else Some m)) a.0
            ∙ ap (λ t. if t then Some m else Some x) b.0
            ∙ sym (ap (λ t. later_of (if t then Some m else Some x) l) b.0 ∙ ap (λ t. if t then Some l else Some m) a.0))
        | inr b ↦ (
            let p : l.cycle ≤ m.cycle = a.1 in
            let q : m.cycle ≤ x.cycle = b.1 in
            ap (λ t. later x (if t then Some l else Some m)) a.0
            ∙ ap (λ t. if t then Some m else Some x) b.0
            ∙ sym (ap (λ t. later_of (if t then Some m else Some x) l) b.0 ∙ ap (λ t. if t then Some l else Some x) (lt_false x.cycle l.cycle (omega arith))))
      ]
    ]

later_push : (x : Launch) (o : Option Launch) (l : Launch) → later x (later_of o l) ≡ later_of (later x o) l
later_push x None l = refl
later_push x (Some m) l = later_more x m l

module _ (test : Launch → Bool) where
  yes_step : (x l : Launch) (o : Option Launch) (b : Bool) → cond b (later x (later_of o l)) (later_of o l) ≡ later_of (cond b (later x o) o) l
  yes_step x l o true = later_push x o l
  yes_step x l o false = refl

  push_yes : (xs : List Launch) (l : Launch) → test l ≡ true → latest test (xs ++ l ∷ []) ≡ later_of (latest test xs) l
  push_yes [] l e = ap (λ b. cond b (Some l) None) e
  push_yes (x ∷ xs) l e = ap (λ o. cond (test x) (later x o) o) (push_yes xs l e) ∙ yes_step x l (latest test xs) (test x)

  push_no : (xs : List Launch) (l : Launch) → test l ≡ false → latest test (xs ++ l ∷ []) ≡ latest test xs
  push_no [] l e = ap (λ b. cond b (Some l) None) e
  push_no (x ∷ xs) l e = ap (λ o. cond (test x) (later x o) o) (push_no xs l e)

  pub latest_more_yes : (xs : List Launch) (i : ℕ) (d : Launch) → i < length xs → test (get_or xs i d) ≡ true → latest test (take (i + 1) xs) ≡ later_of (latest test (take i xs)) (get_or xs i d)
  latest_more_yes xs i d lt e = ap (latest test) (take_more xs i d lt) ∙ push_yes (take i xs) (get_or xs i d) e

  pub latest_more_no : (xs : List Launch) (i : ℕ) (d : Launch) → i < length xs → test (get_or xs i d) ≡ false → latest test (take (i + 1) xs) ≡ latest test (take i xs)
  latest_more_no xs i d lt e = ap (latest test) (take_more xs i d lt) ∙ push_no (take i xs) (get_or xs i d) e
