use Rattle.pick_rule.specs.Busiest.{IsBusiest}
use Rattle.pick_rule.proofs.places.busiest_place.Given as goal

abbrev pub invariant-loop-place : goal.invariant-loop-place
invariant-loop-place l = IsBusiest l.scores l.place l.best
