use Rattle.std.proofs.Common.{◌≡◌, ◌-◌, length}
use Rattle.sat_core.specs.Steps.{IsTrailState, Propagates, var_count}
use Rattle.sat_core.specs.Watches.{list_of, watchers, AreWatched, ArePassed, IsFalsifiedAt}
use Rattle.sat_core.proofs.propagation.visit_list.Given as goal

abbrev pub invariant-loop-place : goal.invariant-loop-place
invariant-loop-place l = record {
  state : IsTrailState l.clauses (var_count l.initial.trail) l.trail;
  adds : Propagates l.initial.trail.steps.items l.trail.steps.items;
  size : var_count l.trail ≡ var_count l.initial.trail;
  watched : AreWatched l.clauses (var_count l.initial.trail) l.trail.steps.items l.watches;
  attached : length l.watches.pairs.items ≡ length l.initial.watches.pairs.items;
  qhead : l.watches.qhead ≡ l.initial.watches.qhead;
  at : IsFalsifiedAt l.trail.steps.items l.watches.qhead l.lit;
  passed : ArePassed l.clauses l.trail.steps.items l.watches l.lit l.place;
}

abbrev pub decreases-loop-place : goal.decreases-loop-place
decreases-loop-place l = length (watchers l.watches.lists.items (list_of l.lit)) - l.place
