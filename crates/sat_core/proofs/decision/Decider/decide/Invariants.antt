use Rattle.std.proofs.Common.{◌≡◌}
use Rattle.sat_core.specs.Picks.{Offers}
use Rattle.sat_core.proofs.Choices.{player_count}
use Rattle.sat_core.proofs.decision.Decider.decide.Given as goal

-- only variables with a value were passed over
abbrev pub invariant-loop-var : goal.invariant-loop-var
invariant-loop-var l = record {
  trail : l.trail ≡ l.initial.trail;
  pick : l.self.pick ≡ l.initial.self.pick;
  scores : l.self.scores ≡ l.initial.self.scores;
  phases : l.self.phases ≡ l.initial.self.phases;
  offers : Offers l.trail.values.items l.self;
}

abbrev pub decreases-loop-var : goal.decreases-loop-var
decreases-loop-var l = player_count l.self.tournament
