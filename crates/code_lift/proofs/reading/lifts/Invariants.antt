use Rattle.std.proofs.Common.{◌≡◌, ◌≢◌, ◌≤◌, length, map, take}
use Rattle.std.specs.Prelude.{AllPairs}
use Rattle.forms.specs.Forms.{sexp_forms}
use Rattle.machine_table.specs.Grammar.{Each}
use Rattle.code_lift.specs.LiftGrammar.{WritesLift}
use Rattle.code_lift.specs.Views.{LiftTree, lift_view}
use Rattle.code_lift.proofs.reading.lifts.Given as goal

abbrev pub invariant-loop-index : goal.invariant-loop-index
invariant-loop-index l = record {
  count : length l.lifts ≡ l.index;
  few : length l.lifts ≤ 64;
  each : Each WritesLift (take l.index (sexp_forms l.text l.forms)) (map lift_view l.lifts);
  differ : AllPairs (λ (a b : LiftTree). a.name ≢ b.name) (map lift_view l.lifts);
}
