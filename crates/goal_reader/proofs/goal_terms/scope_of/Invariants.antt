use Rattle.std.proofs.Common.{◌≡◌, take}
use Rattle.goal_reader.specs.GoalTerms.{term_scope}
use Rattle.goal_reader.proofs.goal_terms.scope_of.Given as goal

abbrev pub invariant-loop-input : goal.invariant-loop-input
invariant-loop-input l = l.leaves ≡ (term_scope (take l.input-index l.inputs)).leaves
