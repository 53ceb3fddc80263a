use Rattle.std.proofs.Common.{◌≤◌, take}
use Rattle.std.specs.Prelude.{All, IsTrue}
use Rattle.schedule_meaning.specs.Launches.{launches, is_branch}
use Rattle.schedule_meaning.proofs.testing.no_later_branch.Given as goal

abbrev pub invariant-loop-other : goal.invariant-loop-other
invariant-loop-other l = All (λ b. IsTrue (launches l.graph is_branch b) → b.cycle ≤ l.launch.cycle) (take l.other-index l.list)
