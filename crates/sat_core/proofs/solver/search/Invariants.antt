use Rattle.std.proofs.Common.{◌≡◌, ◌-◌, length}
use Rattle.sat_core.specs.Picks.{Offers}
use Rattle.sat_core.specs.Steps.{IsTrailState, AreClosedBefore, var_count}
use Rattle.sat_core.specs.Watches.{AreWatched}
use Rattle.sat_core.proofs.solver.search.Given as goal

abbrev pub invariant-loop-id : goal.invariant-loop-id
invariant-loop-id l = record {
  state : IsTrailState l.clauses (var_count l.initial.trail) l.trail;
  before : AreClosedBefore l.clauses l.trail.steps.items;
  size : var_count l.trail ≡ var_count l.initial.trail;
  watched : AreWatched l.clauses (var_count l.initial.trail) l.trail.steps.items l.watches;
  offers : Offers l.trail.values.items l.decider;
  pick : l.decider.pick ≡ l.initial.decider.pick;
  scores : l.decider.scores ≡ l.initial.decider.scores;
}

abbrev pub decreases-loop-id : goal.decreases-loop-id
decreases-loop-id l = var_count l.trail - length l.trail.steps.items
