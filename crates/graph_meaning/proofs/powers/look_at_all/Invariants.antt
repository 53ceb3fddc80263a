use Rattle.std.proofs.Common.{◌≡◌, ◌<◌, ℕ, length, get_or}
use Rattle.graph_meaning.specs.Raising.{IsSeen, IsState}
use Rattle.graph_meaning.specs.declared.graphs.LaunchRow.{LaunchRow}
use Rattle.graph_meaning.proofs.powers.look_at_all.Given as goal

abbrev pub invariant-loop-row : goal.invariant-loop-row
invariant-loop-row l = record {
  size : length l.powers.items ≡ length l.initial.powers.items;
  state : IsState l.rows l.powers.items l.queue.items;
  seen : (k : ℕ) (d : LaunchRow) → k < l.row-index → IsSeen l.rows l.powers.items l.queue.items 0 (get_or l.rows k d);
}
