use Rattle.std.proofs.Common.{◌≡◌, take, false}
use Rattle.std.specs.List.{list_any}
use Rattle.schedule_meaning.specs.Launches.{operands_at}
use Rattle.schedule_meaning.specs.Lifetimes.{is_operand_of}
use Rattle.schedule_meaning.proofs.lifetimes.reads_class.Given as goal

-- No operand so far is of the class and needs a register.
abbrev pub invariant-loop-at : goal.invariant-loop-at
invariant-loop-at l = list_any (is_operand_of l.graph l.class) (take l.at (operands_at l.graph l.launch.row)) ≡ false
