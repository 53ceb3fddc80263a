-- When a text has no report. Source: this project.
use Rattle.std.specs.Prelude.{ℕ}
use Rattle.text_core.specs.Faults.{IsFaultBy}
use Rattle.text_core.specs.declared.faults.Kind.{Kind}
use Rattle.text_core.specs.declared.faults.TextFault.{TextFault}
use Rattle.text_core.specs.declared.faults.TextFault.TheVariants as faults
use Rattle.reports.specs.declared.reports.TextError.{TextError}
use Rattle.reports.specs.declared.reports.TextError.TheVariants.{Read, Memory}

-- the same, as what a pass over the text gave
abbrev pub fault_of : TextError → TextFault
fault_of (Read fault) = faults.Fault fault
fault_of Memory = faults.Memory

-- The text has a fault as stated. Out of memory says nothing of the text.
abbrev pub IsErrorBy : (ℕ → Kind → Type 0) → TextError → Type 0
IsErrorBy IsAt error = IsFaultBy IsAt (fault_of error)
