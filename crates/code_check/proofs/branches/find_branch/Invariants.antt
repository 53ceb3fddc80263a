use Rattle.code_check.proofs.Branching.{NoneBefore}
use Rattle.code_check.proofs.branches.find_branch.Given as goal

abbrev pub invariant-loop-at : goal.invariant-loop-at
invariant-loop-at l = NoneBefore l.words l.at
