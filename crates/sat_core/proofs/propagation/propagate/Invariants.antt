use Rattle.std.proofs.Common.{◌≡◌, ◌-◌, length}
use Rattle.sat_core.specs.Steps.{IsTrailState, Propagates, var_count}
use Rattle.sat_core.specs.Watches.{AreWatched}
use Rattle.sat_core.proofs.propagation.propagate.Given as goal

abbrev pub invariant-loop-watches : goal.invariant-loop-watches
invariant-loop-watches l = record {
  state : IsTrailState l.clauses (var_count l.fn.trail) l.trail;
  adds : Propagates l.fn.trail.steps.items l.trail.steps.items;
  size : var_count l.trail ≡ var_count l.fn.trail;
  watched : AreWatched l.clauses (var_count l.fn.trail) l.trail.steps.items l.watches;
  attached : length l.watches.pairs.items ≡ length l.clauses;
}

abbrev pub decreases-loop-watches : goal.decreases-loop-watches
decreases-loop-watches l = var_count l.trail - l.watches.qhead
