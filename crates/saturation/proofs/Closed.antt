-- The terms of a goal without lets, as the law of goals gives them.
use Rattle.std.proofs.Common.{List, [], ◌∷◌, All, arith}
use Rattle.std.specs.Prelude.{IfSome}
use Rattle.std.specs.List.{AllZip}
use Rattle.std.proofs.lemmas.List.Elements.{All-cons}
use Rattle.word_ops.specs.declared.sorts.Op.{Op}
use Rattle.word_ops.specs.declared.sorts.Sort.{Sort}
use Rattle.word_ops.specs.declared.sorts.Sort.TheVariants as sorts
use Rattle.word_terms.specs.Tree.{Tree}
use Rattle.goal_meaning.specs.Expanded.{expanded, let_terms}
use Rattle.goal_meaning.specs.Views.{GoalTree}
use Rattle.goal_meaning.specs.WellFormed.{IsAssume, IsTarget, IsTermOver, let_sorts}
use Rattle.goal_meaning.specs.declared.goals.DeclaredOp.{DeclaredOp}

pub record Closed (declared : List DeclaredOp) (goal : GoalTree) : Type 0 where
  pub lets : AllZip (IsTermOver declared goal.inputs []) (let_sorts goal) (let_terms goal)
  pub assumes : All (IsAssume declared (expanded goal)) (expanded goal).assumes
  pub guard : IfSome (expanded goal).guard (IsTermOver declared goal.inputs [] sorts.Word)
  pub sets : All (IsTarget declared (expanded goal)) (expanded goal).sets

-- a term of some sort
pub record IsClosed (declared : List DeclaredOp) (goal : GoalTree) (t : Tree Op) : Type 0 where
  pub sort : Sort
  pub is : IsTermOver declared goal.inputs [] sort t

pub closed_lets : (declared : List DeclaredOp) (goal : GoalTree) (ss : List Sort) (ts : List (Tree Op)) → AllZip (IsTermOver declared goal.inputs []) ss ts → All (IsClosed declared goal) ts
closed_lets declared goal ss [] z = λ n d l. absurd (omega arith)
closed_lets declared goal [] (t ∷ ts) z = absurd z
closed_lets declared goal (s ∷ ss) (t ∷ ts) z = All-cons (IsClosed declared goal) t ts (record { sort = s; is = z.0 }) (closed_lets declared goal ss ts z.1)
