-- Well-formed inputs: what holds of every input that was read. Source: this project.
use Rattle.std.specs.Prelude.{true, false, ℕ, ◌≡◌, ◌≢◌, ◌+◌, ◌^◌, ◌<◌, ◌≤◌, if◌then◌else◌, List, [], ◌∷◌, ◌++◌, length, map, replicate, slice_get, bytes_eq, codes, None, Some, IfSome, All, AllPairs, Contains}
use Rattle.std.specs.Option.{option_map_or}
use Rattle.text_core.specs.Limits.{most_nesting, most_declared, most_axioms, most_goals, most_variables}
use Rattle.text_core.specs.Names.{IsName, is_among}
use Rattle.word_ops.specs.Meanings.{constant_in, sort_of}
use Rattle.word_ops.specs.declared.sorts.Arity.{Arity}
use Rattle.word_ops.specs.declared.sorts.Op.{Op}
use Rattle.word_ops.specs.declared.sorts.Op.TheVariants.{Entry, Input, Word, Load, Put, Declared}
use Rattle.word_ops.specs.declared.sorts.Sort.{Sort}
use Rattle.word_ops.specs.declared.sorts.Sort.TheVariants as sorts
use Rattle.word_terms.specs.Keys.{op_signature}
use Rattle.word_terms.specs.OperatorsIn.{operators_in, EachOperator}
use Rattle.word_terms.specs.Sorting.{HasSort, Occurs, IsApplication, sort_at}
use Rattle.word_terms.specs.Tree.{Tree, variable, application}
use Rattle.forms.specs.Printing.{most_levels, plains_from}
use Rattle.machine_table.specs.Tables.{IsTable, ev6}
use Rattle.machine_table.specs.declared.tables.Slot.{Slot}
use Rattle.goal_meaning.specs.Expanded.{let_values}
use Rattle.goal_meaning.specs.Rules.{KeepsRules}
use Rattle.goal_meaning.specs.Names.{IsNamedGoal, is_reserved, names_of_declared, is_written}
use Rattle.goal_meaning.specs.InputForms.{input_plains}
use Rattle.goal_meaning.specs.Views.{TwoTrees, TargetTree, GoalTree, AxiomTree, InputTree}
use Rattle.goal_meaning.specs.declared.goals.InputReg.{InputReg}
use Rattle.goal_meaning.specs.declared.goals.DeclaredOp.{DeclaredOp}

-- the sum over a list
abbrev pub sum_over : {A : Type 0} → (A → ℕ) → List A → ℕ
sum_over f [] = 0
sum_over f (x ∷ xs) = f x + sum_over f xs

-- ---- the operators of terms

-- the operator of this number, with so many operands
pub record IsDeclared (declared : List DeclaredOp) (index : ℕ) (arity : Arity) : Type 0 where
  pub below : index < length declared
  pub operator : DeclaredOp
  pub found : slice_get declared index ≡ Some operator
  pub takes : operator.arity ≡ arity

-- what a text can write: lda, ldah, load and put are made by rules alone, and a declared operator is declared
abbrev pub CanBeWritten : List DeclaredOp → Op → Type 0
CanBeWritten declared (Word op) = is_written op ≡ true
CanBeWritten declared (Load access) = ⊥
CanBeWritten declared (Put access) = ⊥
CanBeWritten declared (Declared index arity) = IsDeclared declared index arity
CanBeWritten declared _ = Unit {0}

-- an axiom has no inputs and no memory at entry
abbrev pub IsOfAxiom : List DeclaredOp → Op → Type 0
IsOfAxiom declared Entry = ⊥
IsOfAxiom declared (Input register) = ⊥
IsOfAxiom declared op = CanBeWritten declared op

abbrev pub input_registers : List InputReg → List ℕ
input_registers inputs = map (λ (i : InputReg). i.reg) inputs

-- the inputs of a goal's terms are the goal's
abbrev pub IsOfGoal : List DeclaredOp → List InputReg → Op → Type 0
IsOfGoal declared inputs (Input register) = Contains (input_registers inputs) register
IsOfGoal declared inputs op = CanBeWritten declared op

-- ---- axioms

-- the variables of an axiom are words
abbrev pub axiom_sorts : AxiomTree → List Sort
axiom_sorts a = replicate (length a.variables) sorts.Word

-- no variable and no constant
abbrev pub IsOperation : Tree Op → Type 0
IsOperation (variable n) = ⊥
IsOperation (application op ts) = constant_in op ≡ None

-- One to eight variables with names of their own, and two words, of which the left one is an operator's and has all
-- variables of the right one.
pub record IsAxiom (declared : List DeclaredOp) (a : AxiomTree) : Type 0 where
  pub named : All IsName a.variables
  pub some : (0 < length a.variables) × (length a.variables ≤ most_variables)
  pub differ : AllPairs (λ m n. m ≢ n) a.variables
  pub own : All (λ n. (is_reserved n ≡ false) × (is_among (names_of_declared declared) n ≡ false)) a.variables
  pub left : HasSort op_signature (axiom_sorts a) sorts.Word a.left
  pub right : HasSort op_signature (axiom_sorts a) sorts.Word a.right
  pub left_operators : EachOperator (IsOfAxiom declared) a.left
  pub right_operators : EachOperator (IsOfAxiom declared) a.right
  pub application : IsApplication a.left
  pub operation : IsOperation a.left
  pub bound : (n : ℕ) → Occurs n a.right → Occurs n a.left
  pub few : operators_in a.left + operators_in a.right < 2 ^ 29

-- ---- goals

-- the sort of a tree, where those of its variables are given
abbrev pub sort_of_tree : List Sort → Tree Op → Sort
sort_of_tree variables (variable n) = sort_at variables n
sort_of_tree variables (application op ts) = sort_of op

-- the sorts of terms in which each variable stands for an earlier one, behind those that are known
abbrev pub sorts_of_lets : List Sort → List (Tree Op) → List Sort
sorts_of_lets before [] = before
sorts_of_lets before (t ∷ ts) = sorts_of_lets (before ++ sort_of_tree before t ∷ []) ts

-- a let has the sort of its term
abbrev pub let_sorts : GoalTree → List Sort
let_sorts goal = sorts_of_lets [] (let_values goal.lets)

-- a term of the sort over lets of these sorts
pub record IsTermOver (declared : List DeclaredOp) (inputs : List InputReg) (lets : List Sort) (sort : Sort) (t : Tree Op)
    : Type 0 where
  pub sorted : HasSort op_signature lets sort t
  pub operators : EachOperator (IsOfGoal declared inputs) t

-- each let has a term over those before it
abbrev pub AreLets : List DeclaredOp → List InputReg → List Sort → List (Tree Op) → Type 0
AreLets declared inputs before [] = Unit {0}
AreLets declared inputs before (t ∷ ts) =
    IsTermOver declared inputs before (sort_of_tree before t) t
    × AreLets declared inputs (before ++ sort_of_tree before t ∷ []) ts

-- a term of the sort over the lets
abbrev pub IsGoalTerm : List DeclaredOp → GoalTree → Sort → Tree Op → Type 0
IsGoalTerm declared goal sort t = IsTermOver declared goal.inputs (let_sorts goal) sort t

-- the two sides of an assume have one sort
pub record IsAssume (declared : List DeclaredOp) (goal : GoalTree) (a : TwoTrees) : Type 0 where
  pub sort : Sort
  pub left : IsGoalTerm declared goal sort a.left
  pub right : IsGoalTerm declared goal sort a.right

abbrev pub sort_of_target : List ℕ → Sort
sort_of_target name = if bytes_eq name (codes "M") then sorts.Memory else sorts.Word

-- M is set to a memory, every other name to a word
abbrev pub IsTarget : List DeclaredOp → GoalTree → TargetTree → Type 0
IsTarget declared goal t = IsGoalTerm declared goal (sort_of_target t.name) t.value

abbrev pub operators_of_sides : TwoTrees → ℕ
operators_of_sides a = operators_in a.left + operators_in a.right

abbrev pub operators_of_target : TargetTree → ℕ
operators_of_target t = operators_in t.value

-- how many operators stand in the terms of a goal; a let counts once, however often its name stands
abbrev pub operators_of_goal : GoalTree → ℕ
operators_of_goal goal =
    sum_over operators_in (let_values goal.lets)
    + (sum_over operators_of_sides goal.assumes
    + (option_map_or operators_in goal.guard 0 + sum_over operators_of_target goal.sets))

pub record IsGoal (declared : List DeclaredOp) (goal : GoalTree) : Type 0 where
  pub named : IsNamedGoal goal
  pub rules : KeepsRules declared goal
  pub lets : AreLets declared goal.inputs [] (let_values goal.lets)
  pub assumes : All (IsAssume declared goal) goal.assumes
  pub guard : IfSome goal.guard (IsGoalTerm declared goal sorts.Word)
  pub sets : All (IsTarget declared goal) goal.sets
  pub few : operators_of_goal goal < 2 ^ 29

-- ---- inputs

abbrev pub operators_of_axiom : AxiomTree → ℕ
operators_of_axiom a = operators_in a.left + operators_in a.right

-- how many operators stand in the terms of an input
abbrev pub operators_of_input : InputTree → ℕ
operators_of_input input = sum_over operators_of_axiom input.axioms + sum_over operators_of_goal input.goals

pub record IsInput (input : InputTree) : Type 0 where
  pub table : IsTable input.table
  pub slots : All (λ (s : Slot). IsName s.name) input.table.slots
  pub builtin : input.builtin ≡ true → input.table ≡ ev6
  pub operators : All (λ (d : DeclaredOp). IsName d.name) input.ops
  pub operators_differ : AllPairs (λ (d e : DeclaredOp). d.name ≢ e.name) input.ops
  pub own_names : All (λ (d : DeclaredOp). is_reserved d.name ≡ false) input.ops
  pub axioms : All (IsAxiom input.ops) input.axioms
  pub goals : All (IsGoal input.ops) input.goals
  pub goals_differ : AllPairs (λ (g h : GoalTree). g.name ≢ h.name) input.goals
  pub some_goal : 0 < length input.goals
  pub few : (length input.ops ≤ most_declared) × (length input.axioms ≤ most_axioms) × (length input.goals ≤ most_goals)
  pub few_operators : operators_of_input input < 2 ^ 29
  -- so many lists stand inside one another in its canonical text
  pub nested : most_levels (plains_from (input_plains input)) ≤ most_nesting
