-- Lifts as contracts see them. Source: this project.
use Rattle.std.specs.Prelude.{ℕ, Bool, List, map, Option}
use Rattle.machine_table.specs.declared.tables.Table.{Table}
use Rattle.code_lift.specs.declared.lifts.Lift.{Lift}
use Rattle.code_lift.specs.declared.lifts.Lifts.{Lifts}

-- words, the registers that count afterwards, and those that may be written, where they are given
pub record LiftTree : Type 0 where
  pub name : List ℕ
  pub words : List ℕ
  pub out : List ℕ
  pub pool : Option (List ℕ)

pub record LiftsTree : Type 0 where
  pub table : Table
  pub builtin : Bool
  pub lifts : List LiftTree

abbrev pub lift_view : Lift → LiftTree
lift_view l = record { name = l.name; words = l.words; out = l.out; pool = l.pool }

abbrev pub lifts_view : Lifts → LiftsTree
lifts_view l = record { table = l.table; builtin = l.builtin; lifts = map lift_view l.lifts }

abbrev pub names_of_lifts : List LiftTree → List (List ℕ)
names_of_lifts lifts = map (λ (l : LiftTree). l.name) lifts
