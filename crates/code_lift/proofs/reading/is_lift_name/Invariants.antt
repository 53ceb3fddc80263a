use Rattle.std.proofs.Common.{◌≡◌, drop, map}
use Rattle.text_core.specs.Names.{is_among}
use Rattle.code_lift.specs.Views.{lift_view, names_of_lifts}
use Rattle.code_lift.proofs.reading.is_lift_name.Given as goal

abbrev pub invariant-loop-lift : goal.invariant-loop-lift
invariant-loop-lift l = is_among (names_of_lifts (map lift_view l.lifts)) l.name ≡ is_among (names_of_lifts (map lift_view (drop l.lift-index l.lifts))) l.name
