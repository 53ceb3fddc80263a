use Rattle.std.proofs.Common.{◌≡◌, take}
use Rattle.std.specs.Prelude.{count_by}
use Rattle.schedule_meaning.specs.Launches.{launches, is_branch}
use Rattle.schedule_meaning.proofs.testing.has_one_branch.Given as goal

abbrev pub invariant-loop-launch : goal.invariant-loop-launch
invariant-loop-launch l = l.count ≡ count_by (launches l.graph is_branch) (take l.launch-index l.list)
