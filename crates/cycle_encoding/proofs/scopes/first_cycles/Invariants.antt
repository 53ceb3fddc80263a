use Rattle.std.proofs.Common.{◌≡◌, map}
use Rattle.std.specs.List.{range_with_len}
use Rattle.cycle_encoding.specs.Scoped.{first_cycle}
use Rattle.cycle_encoding.proofs.scopes.first_cycles.Given as goal

abbrev pub invariant-loop-row : goal.invariant-loop-row
invariant-loop-row l = l.firsts.items ≡ map (first_cycle l.rows.facts.now l.rows.allocation l.come l.marks) (range_with_len 0 l.row)
