-- A goal without its lets: in each term the name of a let is replaced by the let's own term, without lets. Source: this
-- project.
use Rattle.std.specs.Prelude.{ℕ, List, [], ◌∷◌, ◌++◌, map, option_map}
use Rattle.word_ops.specs.declared.sorts.Op.{Op}
use Rattle.word_terms.specs.Tree.{Tree, substituted}
use Rattle.goal_meaning.specs.Views.{LetTree, TwoTrees, TargetTree, GoalTree}

-- terms in whose place each variable stands for an earlier one, behind those that are without lets already
abbrev pub expanded_terms : List (Tree Op) → List (Tree Op) → List (Tree Op)
expanded_terms before [] = before
expanded_terms before (t ∷ ts) = expanded_terms (before ++ substituted before t ∷ []) ts

abbrev pub let_values : List LetTree → List (Tree Op)
let_values lets = map (λ (l : LetTree). l.value) lets

abbrev pub let_names : List LetTree → List (List ℕ)
let_names lets = map (λ (l : LetTree). l.name) lets

-- what the name of each let stands for
abbrev pub let_terms : GoalTree → List (Tree Op)
let_terms goal = expanded_terms [] (let_values goal.lets)

abbrev pub expanded_sides : List (Tree Op) → TwoTrees → TwoTrees
expanded_sides terms a = record { left = substituted terms a.left; right = substituted terms a.right }

abbrev pub expanded_target : List (Tree Op) → TargetTree → TargetTree
expanded_target terms t = record { name = t.name; value = substituted terms t.value; pin = t.pin }

abbrev pub expanded : GoalTree → GoalTree
expanded goal = record {
  name = goal.name;
  inputs = goal.inputs;
  pool = goal.pool;
  lets = [];
  assumes = map (expanded_sides (let_terms goal)) goal.assumes;
  guard = option_map (substituted (let_terms goal)) goal.guard;
  sets = map (expanded_target (let_terms goal)) goal.sets;
}
