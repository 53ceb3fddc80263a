use Rattle.std.proofs.Common.{◌≡◌, take, get_or}
use Rattle.run_texts.specs.Reports.{start_registers}
use Rattle.run_texts.proofs.reporting.registers.Given as goal

-- The registers hold what was given so far.
abbrev pub invariant-loop-r : goal.invariant-loop-r
invariant-loop-r l = record {
  registers : l.registers ≡ start_registers (take l.r-index l.given);
  zero : get_or l.registers 31 0 ≡ 0;
}
