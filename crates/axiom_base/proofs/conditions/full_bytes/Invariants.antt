use Rattle.axiom_base.proofs.ByteMasks.{MasksBelow}
use Rattle.axiom_base.proofs.conditions.full_bytes.Given as goal

abbrev pub invariant-loop-i : goal.invariant-loop-i
invariant-loop-i l = MasksBelow l.c l.e l.i
