-- When the axioms of an input, and the assumptions of a goal, hold in a world. From Denali (PLDI 2002): a declared
-- operator has no meaning but what its axioms say, and a world gives it one by its name.
use Rattle.std.specs.Prelude.{◌≡◌, ℕ, All, List, [], length, map, slice_index_or}
use Rattle.goal_meaning.specs.Expanded.{expanded}
use Rattle.goal_meaning.specs.Names.{declared_name}
use Rattle.goal_meaning.specs.Views.{AxiomTree, GoalTree, InputTree, TwoTrees}
use Rattle.goal_meaning.specs.declared.goals.DeclaredOp.{DeclaredOp}
use Rattle.word_ops.specs.Meanings.{meaning}
use Rattle.word_ops.specs.Words.{IsWord}
use Rattle.word_ops.specs.Worlds.{Value, World, word}
use Rattle.word_ops.specs.declared.sorts.Op.{Op}
use Rattle.word_terms.specs.Tree.{Tree, value}

-- the value of a term in a world, where the variables have these words
abbrev pub value_in_world : List DeclaredOp → World → List ℕ → Tree Op → Value
value_in_world declared world words t =
    value (meaning world (declared_name declared)) (λ n. slice_index_or (map word words) n (word 0)) t

-- the value of a term of a goal without lets, which has no variables
abbrev pub goal_value : List DeclaredOp → World → Tree Op → Value
goal_value declared world t = value_in_world declared world [] t

-- for all words of its variables, also of those that its left side lacks, both sides have one value
abbrev pub HoldsOfAll : List DeclaredOp → World → AxiomTree → Type 0
HoldsOfAll declared world a = (words : List ℕ) → All IsWord words → length words ≡ length a.variables
    → value_in_world declared world words a.left ≡ value_in_world declared world words a.right

-- the axioms of the input hold
abbrev pub Holds : InputTree → World → Type 0
Holds input world = All (HoldsOfAll input.ops world) input.axioms

abbrev pub IsMet : List DeclaredOp → World → TwoTrees → Type 0
IsMet declared world a = goal_value declared world a.left ≡ goal_value declared world a.right

-- and so do the assumptions of one of its goals
pub record HoldsFor (input : InputTree) (goal : GoalTree) (world : World) : Type 0 where
  pub axioms : Holds input world
  pub assumes : All (IsMet input.ops world) (expanded goal).assumes
