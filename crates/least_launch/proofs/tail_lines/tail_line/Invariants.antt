use Rattle.std.proofs.Common.{ℕ, ◌<◌}
use Rattle.least_launch.specs.TailedAnswers.{IsTailWord}
use Rattle.least_launch.proofs.tail_lines.tail_line.Given as goal

abbrev pub invariant-loop-line : goal.invariant-loop-line
invariant-loop-line l = (at : ℕ) → at < l.line → ¬ IsTailWord l.text at
