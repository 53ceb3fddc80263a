use Rattle.std.proofs.Common.{◌≡◌, ℕ, ◌-◌, ◌≤◌, List, length, get_or, take}
use Rattle.sat_core.specs.declared.trail.Value.{Value}
use Rattle.sat_core.specs.Picks.{has_var, next_score, Offers}
use Rattle.sat_core.proofs.decision.Decider.count_lemma.Given as goal

-- the literals up to the index are counted
abbrev pub invariant-loop-lit : goal.invariant-loop-lit
invariant-loop-lit l = record {
  pick : l.self.pick ≡ l.initial.self.pick;
  size : length l.self.scores.items ≡ length l.initial.self.scores.items;
  players : length l.self.tournament ≡ length l.initial.self.scores.items;
  offers : (values : List Value) → Offers values l.initial.self → Offers values l.self;
  counts : (x : ℕ) → 1 ≤ x → x ≤ length l.initial.self.scores.items
      → get_or l.self.scores.items (x - 1) 0 ≡ next_score (has_var (take l.lit-index l.lemma) x) (get_or l.initial.self.scores.items (x - 1) 0);
}
