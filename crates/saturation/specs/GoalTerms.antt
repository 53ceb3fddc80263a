-- The terms of a goal, the equalities that it assumes of them, and the rules that an input's axioms and a library give.
-- Source: this project.
use Rattle.std.specs.Prelude.{ℕ, Bool, false, ◌||◌, ◌==◌, Option, Some, None, List, [], ◌∷◌, ◌++◌, map, length, replicate}
use Rattle.std.specs.List.{filter, flat_map, range_with_len}
use Rattle.word_ops.specs.declared.sorts.Op.{Op}
use Rattle.word_ops.specs.declared.sorts.Op.TheVariants.{Entry, Input}
use Rattle.word_ops.specs.declared.sorts.Sort.TheVariants as sorts
use Rattle.word_terms.specs.Tree.{Tree, Trees, variable, application, none, more, substituted}
use Rattle.axiom_base.specs.Rewrites.{Rewrite, rewrite}
use Rattle.axiom_base.specs.Schemes.{AddedRules}
use Rattle.axiom_library.specs.Asked.{asked_axioms, asked_equations, asked_kinds}
use Rattle.axiom_library.specs.declared.libraries.Library.{Library}
use Rattle.goal_meaning.specs.Expanded.{expanded, let_terms}
use Rattle.goal_meaning.specs.declared.goals.InputReg.{InputReg}
use Rattle.goal_meaning.specs.Views.{TwoTrees, TargetTree, GoalTree, AxiomTree, InputTree}
use Rattle.saturation.specs.Derives.{Pair}

-- ---- the terms of a goal

-- the memory at entry
abbrev pub entry_term : Tree Op
entry_term = application Entry none

-- the word of a register at entry
abbrev pub input_term : ℕ → Tree Op
input_term register = application (Input register) none

abbrev pub input_terms : List InputReg → List (Tree Op)
input_terms inputs = map (λ (i : InputReg). input_term i.reg) inputs

abbrev pub guard_terms : Option (Tree Op) → List (Tree Op)
guard_terms None = []
guard_terms (Some t) = t ∷ []

abbrev pub set_terms : List TargetTree → List (Tree Op)
set_terms sets = map (λ (s : TargetTree). s.value) sets

abbrev pub sides_of : TwoTrees → List (Tree Op)
sides_of a = a.left ∷ a.right ∷ []

abbrev pub assume_terms : List TwoTrees → List (Tree Op)
assume_terms assumes = flat_map sides_of assumes

-- the memory at entry, the inputs, what the lets stand for, the guard and the new values; none has a let in it
abbrev pub kept_terms : GoalTree → List (Tree Op)
kept_terms goal =
    (entry_term ∷ input_terms goal.inputs)
    ++ let_terms goal
    ++ guard_terms (expanded goal).guard
    ++ set_terms (expanded goal).sets

-- what is present before the first round, in the order in which it is made: these, and both sides of each assumption
abbrev pub present_terms : GoalTree → List (Tree Op)
present_terms goal =
    (entry_term ∷ input_terms goal.inputs)
    ++ let_terms goal
    ++ assume_terms (expanded goal).assumes
    ++ guard_terms (expanded goal).guard
    ++ set_terms (expanded goal).sets

-- what is equal before the first round
abbrev pub assumed_pair : TwoTrees → Pair
assumed_pair a = (a.left, a.right)

abbrev pub assumed_pairs : GoalTree → List Pair
assumed_pairs goal = map assumed_pair (expanded goal).assumes

-- ---- axioms as rules

abbrev mutual
  pub has_variable : ℕ → Tree Op → Bool
  has_variable n (variable m) = m == n
  has_variable n (application op ts) = have_variable n ts

  pub have_variable : ℕ → Trees Op → Bool
  have_variable n none = false
  have_variable n (more t ts) = has_variable n t || have_variable n ts

-- the numbers below n of the variables that the left side has
abbrev pub variables_below : AxiomTree → ℕ → List ℕ
variables_below a n = filter (λ m. has_variable m a.left) (range_with_len 0 n)

-- the numbers of the left side's variables, of all variables
abbrev pub left_variables : AxiomTree → List ℕ
left_variables a = variables_below a (length a.variables)

-- variables that the left side lacks are left out, and the others are numbered from 0 in their old order: each by how
-- many of the left side's come before it
abbrev pub renumbered : AxiomTree → Tree Op → Tree Op
renumbered a t =
    substituted (map (λ n. variable (length (variables_below a n))) (range_with_len 0 (length a.variables))) t

-- all variables are words
abbrev pub rule_of : AxiomTree → Rewrite
rule_of a = rewrite (replicate (length (left_variables a)) sorts.Word) (renumbered a a.left) (renumbered a a.right)

-- the rules that join those of every saturation: the axioms of the text and behind them what the library asks for
abbrev pub rules_of : Library → InputTree → AddedRules
rules_of library input = record {
  axioms = map rule_of (input.axioms ++ asked_axioms library) ++ asked_equations library;
  kinds = asked_kinds library;
}
