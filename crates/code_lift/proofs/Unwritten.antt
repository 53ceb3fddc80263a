-- A register that no word writes has the value that it had at entry.
use Rattle.std.proofs.Common.{◌≡◌, ℕ, zero, suc, ◌+◌, ◌<◌, ◌⊎◌, List, [], ◌∷◌, refl, sym, ◌∙◌, ap, inl, inr, Bool, true, false, Option, Some, None}
use Rattle.std.specs.Prelude.{filter_map, set, slice_index_or, if◌then◌else◌}
use Rattle.alpha_encode.specs.Decoded.{decoded}
use Rattle.alpha_encode.specs.declared.instructions.Instr.{Instr}
use Rattle.code_lift.specs.Lifted.{Lifting, at_start, counts, has_let, is_let, latest_of, latest_with, lift_step, lifted, lifted_by, lifted_from, register_written}
use Rattle.code_lift.specs.declared.lifting.Value.{Value}
use Rattle.code_lift.specs.declared.lifting.Value.TheVariants.{Entry, Let, Zero}
use Rattle.code_lift.proofs.LiftedRuns.{start_value}

-- what stands in a list in which one place was set is that value, or what stood there
set_or_kept : (xs : List Value) (q r : ℕ) (v d : Value)
    → (slice_index_or (set xs q v) r d ≡ v) ⊎ (slice_index_or (set xs q v) r d ≡ slice_index_or xs r d)
set_or_kept [] q r v d = inr refl
set_or_kept (x ∷ xs) zero zero v d = inl refl
set_or_kept (x ∷ xs) zero (suc r) v d = inr refl
set_or_kept (x ∷ xs) (suc q) zero v d = inr refl
set_or_kept (x ∷ xs) (suc q) (suc r) v d = set_or_kept xs q r v d

-- the value is the register's own at entry, or a let's
abbrev IsOwn : ℕ → Value → Type 0
IsOwn r v = (v ≡ Entry r) ⊎ (is_let v ≡ true)

own_in_list : (xs : List Value) (n : ℕ) (o : Option ℕ) (r : ℕ) → IsOwn r (slice_index_or xs r Zero)
    → IsOwn r (slice_index_or (latest_with xs (Let n) o) r Zero)
own_in_list xs n None r own = own
own_in_list xs n (Some q) r own =
    elim (set_or_kept xs q r (Let n) Zero) [
      | inl e ↦ inr (ap is_let e)
      | inr e ↦ elim own [ inl f ↦ inl (e ∙ f) | inr f ↦ inr (ap is_let e ∙ f) ]
    ]

own_if : (b : Bool) (at : ℕ) (i : Instr) (s : Lifting) (r : ℕ) → IsOwn r (latest_of s r)
    → IsOwn r (latest_of (if b then lifted_by at i s else s) r)
own_if false at i s r own = own
own_if true at i s r own = own_in_list s.latest _ (register_written i) r own

own_from : (at : ℕ) (is : List Instr) (s : Lifting) (r : ℕ) → IsOwn r (latest_of s r) → IsOwn r (latest_of (lifted_from at is s) r)
own_from at [] s r own = own
own_from at (i ∷ is) s r own = own_from (at + 1) is (lift_step at i s) r (own_if (counts i) at i s r own)

pub unwritten : (words : List ℕ) (r : ℕ) → r < 31 → has_let (lifted words) r ≡ false → latest_of (lifted words) r ≡ Entry r
unwritten words r low no_let =
    elim (own_from 0 (filter_map decoded words) at_start r (inl (start_value r low))) [
      | inl e ↦ e
      | inr e ↦ (let wrong : true ≡ false = sym e ∙ no_let in absurd cc)
    ]
