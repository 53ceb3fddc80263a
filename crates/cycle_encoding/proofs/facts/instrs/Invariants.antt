use Rattle.std.proofs.Common.{◌≡◌, map}
use Rattle.std.specs.List.{range_with_len}
use Rattle.schedule_meaning.specs.Launches.{instr_at}
use Rattle.cycle_encoding.proofs.facts.instrs.Given as goal

abbrev pub invariant-loop-row : goal.invariant-loop-row
invariant-loop-row l = l.table.items ≡ map (instr_at l.graph) (range_with_len 0 l.row)
