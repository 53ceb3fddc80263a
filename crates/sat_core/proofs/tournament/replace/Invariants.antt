use Rattle.std.proofs.Common.{◌≡◌, ◌*◌, ◌/◌, ◌≤◌, ◌<◌, length, drop, set}
use Rattle.sat_core.specs.Tournament.{ArePlayed}
use Rattle.sat_core.proofs.tournament.replace.Given as goal

-- all nodes are played but the one above this one
abbrev pub invariant-loop-node : goal.invariant-loop-node
invariant-loop-node l = record {
  size : length l.nodes ≡ 2 * l.leaves;
  above : 1 ≤ l.node;
  within : l.node < 2 * l.leaves;
  played : ArePlayed 1 (l.node / 2) l.leaves l.nodes;
  leaves : drop l.leaves l.nodes ≡ set (drop l.leaves l.fn.nodes) l.place l.fn.player;
}

abbrev pub decreases-loop-node : goal.decreases-loop-node
decreases-loop-node l = l.node
