use Rattle.std.proofs.Common.{◌≡◌, ℕ, ◌+◌, ◌-◌, length}
use Rattle.egraph.specs.Keys.{constant_at}
use Rattle.egraph.proofs.class_constants.put_constant.Given as goal

abbrev pub invariant-loop-constants : goal.invariant-loop-constants
invariant-loop-constants l = (class : ℕ) → constant_at l.constants.items class ≡ constant_at l.initial.constants.items class

abbrev pub decreases-loop-constants : goal.decreases-loop-constants
decreases-loop-constants l = l.class + 1 - length l.constants.items
