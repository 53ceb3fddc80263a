-- The fault of a part is that of what it is part of.
use Rattle.std.proofs.Common.{ℕ, Result, Ok, Err}
use Rattle.std.specs.Prelude.{IfErr}
use Rattle.text_core.specs.Faults.{IsFaultBy}
use Rattle.text_core.specs.declared.faults.Kind.{Kind}
use Rattle.text_core.specs.declared.faults.TextFault.{TextFault}
use Rattle.text_core.specs.declared.faults.TextFault.TheVariants as faults
use Rattle.answer_texts.specs.LineParts.{LeadsFault, in_first, in_second}

pub fault_by : (IsAt IsOther : ℕ → Kind → Type 0) → ((place : ℕ) (kind : Kind) → IsAt place kind → IsOther place kind)
    → (f : TextFault) → IsFaultBy IsAt f → IsFaultBy IsOther f
fault_by IsAt IsOther step (faults.Fault f) h = step f.place f.kind h
fault_by IsAt IsOther step faults.Memory h = tt

pub fault_of : {X : Type 0} (IsAt IsOther : ℕ → Kind → Type 0)
    → ((place : ℕ) (kind : Kind) → IsAt place kind → IsOther place kind) → (r : Result X TextFault)
    → IfErr r (IsFaultBy IsAt) → IfErr r (IsFaultBy IsOther)
fault_of IsAt IsOther step (Ok x) h = tt
fault_of IsAt IsOther step (Err f) h = fault_by IsAt IsOther step f h

module _ {X : Type 0} (First : ℕ → ℕ → X → Type 0) (FirstFault : ℕ → ℕ → Kind → Type 0)
    (SecondFault : X → ℕ → ℕ → Kind → Type 0) (from : ℕ) where
  -- the fault of what stands first
  pub sooner : (f : TextFault) → IsFaultBy (FirstFault from) f
      → IsFaultBy (LeadsFault First FirstFault SecondFault from) f
  sooner = fault_by (FirstFault from) (LeadsFault First FirstFault SecondFault from) (λ place kind h. in_first h)

  -- the fault of what stands behind
  pub later : (middle : ℕ) (x : X) → First from middle x → (f : TextFault) → IsFaultBy (SecondFault x middle) f
      → IsFaultBy (LeadsFault First FirstFault SecondFault from) f
  later middle x is =
      fault_by (SecondFault x middle) (LeadsFault First FirstFault SecondFault from) (λ place kind h. in_second is h)

  pub later_of : {Y : Type 0} (middle : ℕ) (x : X) → First from middle x → (r : Result Y TextFault)
      → IfErr r (IsFaultBy (SecondFault x middle)) → IfErr r (IsFaultBy (LeadsFault First FirstFault SecondFault from))
  later_of middle x is =
      fault_of (SecondFault x middle) (LeadsFault First FirstFault SecondFault from) (λ place kind h. in_second is h)
