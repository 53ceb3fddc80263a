use Rattle.std.proofs.Common.{◌≡◌, ◌-◌, length}
use Rattle.sat_core.specs.Steps.{IsTrailState, Propagates, AreClosedBefore, var_count}
use Rattle.sat_core.specs.Watches.{AreWatched}
use Rattle.sat_core.proofs.propagation.attach_new.Given as goal

abbrev pub invariant-loop-trail : goal.invariant-loop-trail
invariant-loop-trail l = record {
  state : IsTrailState l.clauses (var_count l.initial.trail) l.trail;
  adds : Propagates l.initial.trail.steps.items l.trail.steps.items;
  size : var_count l.trail ≡ var_count l.initial.trail;
  before : AreClosedBefore l.clauses l.trail.steps.items;
  watched : AreWatched l.clauses (var_count l.initial.trail) l.trail.steps.items l.watches;
}

abbrev pub decreases-loop-trail : goal.decreases-loop-trail
decreases-loop-trail l = length l.clauses - length l.watches.pairs.items
