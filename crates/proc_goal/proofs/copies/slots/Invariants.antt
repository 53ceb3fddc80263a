use Rattle.std.proofs.Common.{◌≡◌, take}
use Rattle.proc_goal.proofs.copies.slots.Given as goal

abbrev pub invariant-loop-slot : goal.invariant-loop-slot
invariant-loop-slot l = l.copies ≡ take l.slot-index l.slots
