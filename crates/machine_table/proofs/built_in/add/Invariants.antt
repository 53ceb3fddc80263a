use Rattle.std.proofs.Common.{◌≡◌, ◌++◌, take}
use Rattle.machine_table.specs.Tables.{uses_of}
use Rattle.machine_table.proofs.built_in.add.Given as goal

abbrev pub invariant-loop-instr : goal.invariant-loop-instr
invariant-loop-instr l = l.uses ≡ l.initial.uses ++ uses_of l.latency l.slots (take l.instr-index l.instrs)
