-- Well-formed lifts: what holds of every lift that was read. Source: this project.
use Rattle.std.specs.Prelude.{ℕ, ◌≡◌, ◌≢◌, ◌<◌, ◌≤◌, ◌^◌, true, false, List, ◌++◌, length, Option, Some, None, All, AllPairs}
use Rattle.text_core.specs.Limits.{most_inputs, most_assumes, most_sets}
use Rattle.text_core.specs.Names.{IsName}
use Rattle.machine_table.specs.Tables.{IsTable, ev6}
use Rattle.machine_table.specs.declared.tables.Slot.{Slot}
use Rattle.goal_meaning.specs.Rules.{has_register}
use Rattle.alpha_encode.specs.Decoded.{decoded}
use Rattle.alpha_encode.specs.declared.instructions.Instr.{Instr}
use Rattle.code_check.specs.Compared.{branch_of}
use Rattle.code_lift.specs.Lifted.{inputs_read, lifted, sets_of}
use Rattle.code_lift.specs.Limits.{most_lifts, most_lift_words}
use Rattle.code_lift.specs.Views.{LiftTree, LiftsTree}

-- a word of an instruction that is no branch
pub record IsPlainWord (n : ℕ) : Type 0 where
  pub low : n < 2 ^ 32
  pub instr : Instr
  pub is : decoded n ≡ Some instr
  pub plain : branch_of (decoded n) ≡ None

-- registers 0 to 30, each once
pub record AreDistinctRegisters (registers : List ℕ) : Type 0 where
  pub low : All (λ r. r < 31) registers
  pub differ : AllPairs (λ q r. q ≢ r) registers

-- the registers of the inputs of a lift, and those of `out`
abbrev pub taken_by : LiftTree → List ℕ
taken_by lift = inputs_read (lifted lift.words) ++ lift.out

-- registers none of which is taken
pub record IsPoolOf (lift : LiftTree) (registers : List ℕ) : Type 0 where
  pub are : AreDistinctRegisters registers
  pub apart : All (λ r. has_register (taken_by lift) r ≡ false) registers

abbrev pub HasPool : LiftTree → Option (List ℕ) → Type 0
HasPool lift None = Unit {0}
HasPool lift (Some registers) = IsPoolOf lift registers

-- the words and registers of a lift, and how many of everything there may be
pub record KeepsLiftRules (lift : LiftTree) : Type 0 where
  pub words : All IsPlainWord lift.words
  pub few_words : length lift.words ≤ most_lift_words
  pub out : AreDistinctRegisters lift.out
  pub pool : HasPool lift lift.pool
  pub few_inputs : length (inputs_read (lifted lift.words)) ≤ most_inputs
  pub few_assumes : length (lifted lift.words).addresses ≤ most_assumes
  pub few_sets : length (sets_of (lifted lift.words) lift.out) ≤ most_sets

pub record IsLift (lift : LiftTree) : Type 0 where
  pub named : IsName lift.name
  pub rules : KeepsLiftRules lift

pub record AreLifts (lifts : LiftsTree) : Type 0 where
  pub table : IsTable lifts.table
  pub slots : All (λ (s : Slot). IsName s.name) lifts.table.slots
  pub builtin : lifts.builtin ≡ true → lifts.table ≡ ev6
  pub each : All IsLift lifts.lifts
  pub differ : AllPairs (λ (a b : LiftTree). a.name ≢ b.name) lifts.lifts
  pub some : 0 < length lifts.lifts
  pub few : length lifts.lifts ≤ most_lifts
