use Rattle.std.proofs.Common.{◌≡◌, ℕ, ◌-◌, ◌<◌, ◌≤◌, List, length, get_or}
use Rattle.sat_core.specs.declared.trail.Step.{Step}
use Rattle.sat_core.specs.declared.trail.Value.{Value}
use Rattle.sat_core.specs.Picks.{Offers, own_player}
use Rattle.sat_core.specs.Tournament.{player_at}
use Rattle.sat_core.proofs.decision.Decider.offer_all.Given as goal

-- the variables of the steps up to the index play
abbrev pub invariant-loop-index : goal.invariant-loop-index
invariant-loop-index l = record {
  pick : l.self.pick ≡ l.initial.self.pick;
  scores : l.self.scores ≡ l.initial.self.scores;
  players : length l.self.tournament ≡ length l.self.scores.items;
  phases : length l.self.phases.items ≡ length l.self.scores.items;
  offers : (old : List Value) → Offers old l.initial.self → Offers old l.self;
  those : (old : List Value) → Offers old l.initial.self → (k : ℕ) (d : Step) → l.from ≤ k → k < l.index
      → player_at l.self.tournament ((get_or l.steps k d).lit.var - 1) ≡ own_player l.self.scores.items (get_or l.steps k d).lit.var;
}
