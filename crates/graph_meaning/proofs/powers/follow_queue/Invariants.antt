use Rattle.std.proofs.Common.{◌≡◌, length}
use Rattle.std.specs.Prelude.{All}
use Rattle.graph_meaning.specs.Raising.{IsSeen, IsState}
use Rattle.graph_meaning.proofs.powers.follow_queue.Given as goal

abbrev pub invariant-loop-at : goal.invariant-loop-at
invariant-loop-at l = record {
  size : length l.powers.items ≡ length l.initial.powers.items;
  state : IsState l.rows l.powers.items l.queue.items;
  seen : All (IsSeen l.rows l.powers.items l.queue.items l.at) l.rows;
}
