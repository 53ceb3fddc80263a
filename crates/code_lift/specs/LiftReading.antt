-- What the readers of the parts of a lift promise; no public clause rests on these alone. Source: this project.
use Rattle.std.specs.Prelude.{ℕ, ◌≡◌, ◌≤◌, true, false, List, All, codes, length, slice_get, Option, Some, None}
use Rattle.text_core.specs.Faults.{IsFirst}
use Rattle.text_core.specs.Limits.{most_inputs, most_assumes, most_sets}
use Rattle.text_core.specs.declared.faults.Kind.{Kind}
use Rattle.forms.specs.Forms.{Form}
use Rattle.machine_table.specs.Grammar.{Each, IsNumberOf, WritesTable}
use Rattle.machine_table.specs.Roles.{IsMachineFault}
use Rattle.machine_table.specs.declared.tables.Table.{Table}
use Rattle.goal_meaning.specs.Rules.{has_register}
use Rattle.code_lift.specs.Lifted.{Lifting, inputs_read, lifted, sets_of}
use Rattle.code_lift.specs.LiftGrammar.{WritesNumbers, WritesRegisters}
use Rattle.code_lift.specs.LiftRoles.{LiftRole, IsLiftFaultAs, is_machine, lift_pool_role, wrong}
use Rattle.code_lift.specs.Limits.{most_lift_words}
use Rattle.code_lift.specs.WellFormed.{AreDistinctRegisters, IsPlainWord}

-- the first fault that the form has in the role
abbrev pub IsFirstInLift : LiftRole → Form → ℕ → Kind → Type 0
IsFirstInLift role form = IsFirst (IsLiftFaultAs role form)

-- the form has no fault in the role
abbrev pub IsClearInLift : LiftRole → Form → Type 0
IsClearInLift role form = (place : ℕ) (kind : Kind) → IsLiftFaultAs role form place kind → ⊥

-- the forms are the numbers of words that are instructions and no branches
pub record ArePlainWords (forms : List Form) (words : List ℕ) : Type 0 where
  pub each : Each (λ f n. IsNumberOf n f) forms words
  pub plain : All IsPlainWord words

-- there are no more inputs and assumptions than a goal may have
pub record KeepsGoalLimits (s : Lifting) : Type 0 where
  pub inputs : length (inputs_read s) ≤ most_inputs
  pub assumes : length s.addresses ≤ most_assumes

-- the form is the list of a lift's words
pub record AreLiftWords (form : Form) (words : List ℕ) : Type 0 where
  pub writes : WritesNumbers form words
  pub plain : All IsPlainWord words
  pub few : length words ≤ most_lift_words
  pub within : KeepsGoalLimits (lifted words)

-- the form is the list of the registers that count behind words of which this is known
pub record AreOutRegisters (s : Lifting) (form : Form) (out : List ℕ) : Type 0 where
  pub writes : WritesRegisters (codes "out") form out
  pub are : AreDistinctRegisters out
  pub few : length (sets_of s out) ≤ most_sets

-- registers, each once, none of which is taken
pub record ArePoolRegisters (taken registers : List ℕ) : Type 0 where
  pub are : AreDistinctRegisters registers
  pub apart : All (λ r. has_register taken r ≡ false) registers

-- the first fault of the parts of a lift behind `out`: of the first one, which may be a pool, or the second one
pub data IsFirstBehindOut (taken : List ℕ) (parts : List Form) (place : ℕ) (kind : Kind) : Type 0 where
  in_pool : (form : Form) → slice_get parts 0 ≡ Some form → IsFirstInLift (lift_pool_role taken form) form place kind
      → IsFirstBehindOut taken parts place kind
  in_next : (form other : Form) → slice_get parts 0 ≡ Some form → IsClearInLift (lift_pool_role taken form) form
      → slice_get parts 1 ≡ Some other → IsFirstInLift wrong other place kind → IsFirstBehindOut taken parts place kind

-- the table of a text, where its first form is a machine form
pub data IsTableHere (forms : List Form) : Option Table → Type 0 where
  no_machine : ((form : Form) → slice_get forms 0 ≡ Some form → is_machine form ≡ false) → IsTableHere forms None
  one_machine : {table : Table} (form : Form) → slice_get forms 0 ≡ Some form → is_machine form ≡ true
      → WritesTable form table → IsTableHere forms (Some table)

pub record IsTableWrong (forms : List Form) (place : ℕ) (kind : Kind) : Type 0 where
  pub form : Form
  pub there : slice_get forms 0 ≡ Some form
  pub is : is_machine form ≡ true
  pub first : IsFirst (IsMachineFault form) place kind
