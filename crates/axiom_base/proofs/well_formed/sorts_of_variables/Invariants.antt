use Rattle.std.proofs.Common.{ℕ, ◌-◌, ◌^◌, ◌<◌, length}
use Rattle.word_terms.specs.View.{tree_of}
use Rattle.word_terms.specs.Sorting.{sort_at}
use Rattle.axiom_base.specs.Steps.{IsSortOf}
use Rattle.axiom_base.proofs.well_formed.sorts_of_variables.Given as goal

abbrev pub invariant-loop-found : goal.invariant-loop-found
invariant-loop-found l = (n : ℕ) → n < length l.sorts → IsSortOf (tree_of l.term) l.sort n (sort_at l.sorts n)

abbrev pub decreases-loop-found : goal.decreases-loop-found
decreases-loop-found l = 2 ^ 32 - length l.sorts
