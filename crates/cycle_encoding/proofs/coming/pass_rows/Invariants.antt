use Rattle.std.proofs.Common.{ℕ, ◌≡◌, ◌<◌, length}
use Rattle.cycle_encoding.specs.Coming.{AreSound, IsPassed, StillCome}
use Rattle.cycle_encoding.proofs.coming.pass_rows.Given as goal

abbrev pub invariant-loop-row : goal.invariant-loop-row
invariant-loop-row l = record {
  long : length l.come.items ≡ length l.initial.come.items;
  sound : AreSound l.rows.facts.now l.rows.table.now l.rows.allocation l.come.items;
  still : StillCome l.initial.come.items l.come.items;
  passed : (row : ℕ) → row < l.row → IsPassed l.rows.facts.now l.rows.table.now l.rows.allocation l.come.items l.cycle row;
}
