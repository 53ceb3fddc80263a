use Rattle.std.proofs.Common.{◌≡◌, drop}
use Rattle.text_core.specs.Names.{is_among}
use Rattle.proc_goal.proofs.targets.block_number.Given as goal

abbrev pub invariant-loop-number : goal.invariant-loop-number
invariant-loop-number l = is_among l.names l.bytes ≡ is_among (drop l.number l.names) l.bytes
