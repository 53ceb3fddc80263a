use Rattle.std.proofs.Common.{◌≡◌, take}
use Rattle.proc_goal.proofs.copies.variables.Given as goal

abbrev pub invariant-loop-var : goal.invariant-loop-var
invariant-loop-var l = l.copies ≡ take l.var-index l.vars
