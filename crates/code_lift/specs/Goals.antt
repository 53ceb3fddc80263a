-- The goals of lifts, one for each. Source: this project.
use Rattle.std.specs.Prelude.{[], map}
use Rattle.goal_meaning.specs.Views.{InputTree}
use Rattle.code_lift.specs.Lifted.{goal_of_lift}
use Rattle.code_lift.specs.Views.{LiftsTree}

abbrev pub input_of_lifts : LiftsTree → InputTree
input_of_lifts lifts = record {
  table = lifts.table;
  builtin = lifts.builtin;
  ops = [];
  axioms = [];
  goals = map goal_of_lift lifts.lifts;
}
