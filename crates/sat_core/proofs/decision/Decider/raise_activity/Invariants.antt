use Rattle.std.proofs.Common.{◌≡◌, List, length}
use Rattle.sat_core.specs.declared.trail.Value.{Value}
use Rattle.sat_core.specs.Picks.{Offers}
use Rattle.sat_core.proofs.decision.Decider.raise_activity.Given as goal

abbrev pub invariant-loop-var : goal.invariant-loop-var
invariant-loop-var l = record {
  pick : l.self.pick ≡ l.initial.self.pick;
  size : length l.self.scores.items ≡ length l.initial.self.scores.items;
  players : length l.self.tournament ≡ length l.initial.self.scores.items;
  offers : (values : List Value) → Offers values l.initial.self → Offers values l.self;
}
