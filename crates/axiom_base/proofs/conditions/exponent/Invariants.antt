use Rattle.std.proofs.Common.{◌≢◌, ◌<◌, ◌≤◌, ◌^◌, ℕ}
use Rattle.axiom_base.proofs.conditions.exponent.Given as goal

abbrev pub invariant-loop-e : goal.invariant-loop-e
invariant-loop-e l = (k : ℕ) → l.least ≤ k → k < l.e → l.n ≢ 2 ^ k
