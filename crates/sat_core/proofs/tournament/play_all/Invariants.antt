use Rattle.std.proofs.Common.{◌≡◌, ◌*◌, ◌≤◌, length, drop}
use Rattle.sat_core.specs.Tournament.{ArePlayed}
use Rattle.sat_core.proofs.tournament.play_all.Given as goal

-- the nodes from this one on are played
abbrev pub invariant-loop-node : goal.invariant-loop-node
invariant-loop-node l = record {
  size : length l.nodes ≡ 2 * l.leaves;
  within : l.node ≤ l.leaves;
  played : ArePlayed l.node 0 l.leaves l.nodes;
  leaves : drop l.leaves l.nodes ≡ drop l.leaves l.initial.nodes;
}

abbrev pub decreases-loop-node : goal.decreases-loop-node
decreases-loop-node l = l.node
