use Rattle.std.proofs.Common.{ℕ, ◌≡◌, ◌<◌, length}
use Rattle.graph_meaning.specs.WellFormed.{next_class}
use Rattle.cycle_encoding.specs.Coming.{AreSound, IsPassed}
use Rattle.cycle_encoding.proofs.coming.earliest_cycles.Given as goal

abbrev pub invariant-loop-cycle : goal.invariant-loop-cycle
invariant-loop-cycle l = record {
  long : length l.come.items ≡ next_class l.rows.facts.now.rows;
  sound : AreSound l.rows.facts.now l.rows.table.now l.rows.allocation l.come.items;
  passed : (cycle row : ℕ) → cycle < l.cycle → IsPassed l.rows.facts.now l.rows.table.now l.rows.allocation l.come.items cycle row;
}
