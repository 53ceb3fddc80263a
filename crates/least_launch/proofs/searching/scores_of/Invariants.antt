use Rattle.std.proofs.Common.{◌≡◌, length}
use Rattle.least_launch.proofs.searching.scores_of.Given as goal

abbrev pub invariant-loop-place : goal.invariant-loop-place
invariant-loop-place l = length l.scores.items ≡ l.encoded.cnf.vars
