use Rattle.std.proofs.Common.{◌≡◌, take}
use Rattle.denali_run.specs.TextAnswers.{greatest_status}
use Rattle.denali_run.proofs.statuses.greatest_status.Given as goal

abbrev pub invariant-loop-answered : goal.invariant-loop-answered
invariant-loop-answered l = l.greatest ≡ greatest_status (take l.answered-index l.results)
