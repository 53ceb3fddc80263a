use Rattle.std.proofs.Common.{◌≡◌, ℕ, ◌+◌, ◌-◌, length}
use Rattle.egraph.specs.Keys.{listed_at}
use Rattle.egraph.proofs.class_lists.cover.Given as goal

abbrev pub invariant-loop-alloc : goal.invariant-loop-alloc
invariant-loop-alloc l = (class : ℕ) → listed_at l.lists.items class ≡ listed_at l.initial.lists.items class

abbrev pub decreases-loop-alloc : goal.decreases-loop-alloc
decreases-loop-alloc l = l.at + 1 - length l.lists.items
