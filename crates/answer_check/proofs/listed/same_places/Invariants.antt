use Rattle.std.proofs.Common.{◌≡◌, take, length}
use Rattle.answer_check.proofs.listed.same_places.Given as goal

-- so far they are the same
abbrev pub invariant-loop-at : goal.invariant-loop-at
invariant-loop-at l = (length l.ones ≡ length l.others) × (take l.at l.ones ≡ take l.at l.others)
