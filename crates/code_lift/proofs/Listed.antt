-- The first numbers, those of which something is said, and the values that registers have at the start.
use Rattle.std.proofs.Common.{◌≡◌, ℕ, zero, suc, ◌+◌, ◌-◌, ◌<◌, [], ◌∷◌, ◌++◌, length, map, refl, sym, ◌∙◌, ap, arith, Bool, true, false, set}
use Rattle.std.specs.Prelude.{cond, filter, replicate}
use Rattle.std.proofs.Math.Numerals.{add-one}
use Rattle.std.proofs.lemmas.List.{append-nil, append_assoc, length-append, length-map, map-append, set_at}
use Rattle.std.proofs.lemmas.List.Elements.{filter-append}
use Rattle.code_lift.specs.Lifted.{first_numbers}
use Rattle.code_lift.specs.declared.lifting.Value.TheVariants.{Entry, Zero}

pub first_more : (k : ℕ) → first_numbers (k + 1) ≡ first_numbers k ++ k ∷ []
first_more k = ap first_numbers (add-one k)

pub length_first : (n : ℕ) → length (first_numbers n) ≡ n
length_first zero = refl
length_first (suc n) = length-append (first_numbers n) (n ∷ []) ∙ (let h = length_first n in omega (arith, h))

-- one register more has its own value
pub entry_more : (k : ℕ) → k < 32 → set (map Entry (first_numbers k) ++ replicate (32 - k) Zero) k (Entry k) ≡ map Entry (first_numbers (k + 1)) ++ replicate (32 - (k + 1)) Zero
entry_more k lt =
    let rest = replicate (32 - (k + 1)) Zero in
    let more : 32 - k ≡ suc (32 - (k + 1)) = omega (arith, lt) in
    let count : length (map Entry (first_numbers k)) ≡ k = length-map (first_numbers k) Entry ∙ length_first k in
    ap (λ n. set (map Entry (first_numbers k) ++ replicate n Zero) k (Entry k)) more
    ∙ set_at (map Entry (first_numbers k)) Zero rest (Entry k) k count
    ∙ sym (ap (λ ns. map Entry ns ++ rest) (first_more k) ∙ ap (λ vs. vs ++ rest) (map-append Entry (first_numbers k) (k ∷ [])) ∙ append_assoc (map Entry (first_numbers k)) (Entry k ∷ []) rest)

pub where_more : (f : ℕ → Bool) (k : ℕ) → f k ≡ true → filter f (first_numbers (k + 1)) ≡ filter f (first_numbers k) ++ k ∷ []
where_more f k e =
    ap (filter f) (first_more k) ∙ filter-append f (first_numbers k) (k ∷ [])
    ∙ ap (λ b. filter f (first_numbers k) ++ cond b (k ∷ []) []) e

pub where_none : (f : ℕ → Bool) (k : ℕ) → f k ≡ false → filter f (first_numbers (k + 1)) ≡ filter f (first_numbers k)
where_none f k e =
    ap (filter f) (first_more k) ∙ filter-append f (first_numbers k) (k ∷ [])
    ∙ ap (λ b. filter f (first_numbers k) ++ cond b (k ∷ []) []) e ∙ append-nil (filter f (first_numbers k))

-- the same with what is made of each
pub mapped_more : {X : Type 0} (g : ℕ → X) (f : ℕ → Bool) (k : ℕ) → f k ≡ true → map g (filter f (first_numbers (k + 1))) ≡ map g (filter f (first_numbers k)) ++ g k ∷ []
mapped_more g f k e = ap (map g) (where_more f k e) ∙ map-append g (filter f (first_numbers k)) (k ∷ [])

pub mapped_none : {X : Type 0} (g : ℕ → X) (f : ℕ → Bool) (k : ℕ) → f k ≡ false → map g (filter f (first_numbers (k + 1))) ≡ map g (filter f (first_numbers k))
mapped_none g f k e = ap (map g) (where_none f k e)
