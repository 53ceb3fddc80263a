use Rattle.std.proofs.Common.{length, take}
use Rattle.graph_meaning.specs.Raising.{AreFollowed, AreRaises, IsState}
use Rattle.graph_meaning.proofs.powers.follow_uses.Given as goal

abbrev pub invariant-loop-at : goal.invariant-loop-at
invariant-loop-at l = record {
  state : IsState l.rows l.powers.items l.queue.items;
  raises : AreRaises l.initial.powers.items l.initial.queue.items l.powers.items l.queue.items;
  followed : AreFollowed l.rows l.powers.items l.queue.items (length l.initial.queue.items) (take l.at-index l.places);
}
