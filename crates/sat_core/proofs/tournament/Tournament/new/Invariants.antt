use Rattle.std.proofs.Common.{◌≡◌, ℕ, ◌+◌, ◌<◌, length, get_or}
use Rattle.sat_core.specs.Tournament.{player_at}
use Rattle.sat_core.proofs.tournament.Tournament.new.Given as goal

-- the leaves so far
abbrev pub invariant-loop-place : goal.invariant-loop-place
invariant-loop-place l = record {
  size : length l.nodes.items ≡ l.leaves + l.place;
  own : (k : ℕ) → k < l.place → player_at l.nodes.items (l.leaves + k) ≡ record { score = get_or l.scores k 0; var = k + 1 };
}
