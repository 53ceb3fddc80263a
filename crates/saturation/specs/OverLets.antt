-- Terms over lets, which stand for classes: what the steps that insert these terms want and give, and which of the
-- terms read a memory. From this project.
use Rattle.std.specs.Prelude.{ℕ, ◌+◌, ◌<◌, ◌≤◌, ◌^◌, Bool, false, ◌||◌, List, [], ◌∷◌, ◌++◌, length, get_or, slice_index_or, All}
use Rattle.std.specs.List.{AllZip}
use Rattle.word_ops.specs.declared.sorts.Op.{Op}
use Rattle.word_ops.specs.declared.sorts.Sort.{Sort}
use Rattle.word_terms.specs.Keys.{op_signature}
use Rattle.word_terms.specs.OperatorsIn.{operators_in}
use Rattle.word_terms.specs.Sorting.{HasSort}
use Rattle.word_terms.specs.Tree.{Tree, Trees, variable, application, none, more, AreBelow}
use Rattle.egraph.specs.Graph.{Graph, IsGraph, read_through}
use Rattle.egraph.specs.Sorts.{IsOfSort}
use Rattle.goal_meaning.specs.Expanded.{let_values}
use Rattle.goal_meaning.specs.Views.{TwoTrees, GoalTree}
use Rattle.goal_meaning.specs.WellFormed.{let_sorts, sort_of_tree, sum_over, operators_of_sides}
use Rattle.saturation.specs.AtStart.{most_rows_at_start}
use Rattle.saturation.specs.Derives.{Pair}
use Rattle.saturation.specs.GoalTerms.{entry_term, input_terms, assume_terms, guard_terms, set_terms}
use Rattle.saturation.specs.StandsFor.{is_select}
use Rattle.saturation.specs.Trace.{IsBuilt, IsApplied, IsRefusedMerge}
use Rattle.saturation.specs.declared.faults.StartFault.{StartFault}
use Rattle.saturation.specs.declared.faults.StartFault.TheVariants.{NoWorld, Memory}

-- ---- their sorts

-- a term of some sort over variables of these sorts
pub record IsSortedOver (variables : List Sort) (t : Tree Op) : Type 0 where
  pub sort : Sort
  pub is : HasSort op_signature variables sort t

-- two of one sort
pub record AreSortedOver (variables : List Sort) (a : TwoTrees) : Type 0 where
  pub sort : Sort
  pub left : HasSort op_signature variables sort a.left
  pub right : HasSort op_signature variables sort a.right

abbrev pub AreSorted : TwoTrees → Type 0
AreSorted = AreSortedOver []

-- each term has a sort over those before it, and so may be inserted behind them
abbrev pub AreSortedLets : List Sort → List (Tree Op) → Type 0
AreSortedLets before [] = Unit {0}
AreSortedLets before (t ∷ ts) =
    HasSort op_signature before (sort_of_tree before t) t × AreSortedLets (before ++ sort_of_tree before t ∷ []) ts

-- the classes, which may be any ever made, are of these sorts, one by one
abbrev pub HaveSortsIn : Graph Op → List ℕ → List Sort → Type 0
HaveSortsIn g classes variables = AllZip (IsOfSort op_signature g) classes variables

-- ---- what may be inserted, and made equal

abbrev pub operators_of : List (Tree Op) → ℕ
operators_of ts = sum_over operators_in ts

-- the terms may be inserted over these classes, with room for their operators
pub record CanInsertAll (g : Graph Op) (places : List ℕ) (ts : List (Tree Op)) : Type 0 where
  pub graph : IsGraph op_signature g
  pub variables : List Sort
  pub have : HaveSortsIn g places variables
  pub sorted : All (IsSortedOver variables) ts
  pub few : length g.current + operators_of ts ≤ 2 ^ 31

-- the terms may be inserted in order, each over the classes of those before it
pub record CanInsertLets (g : Graph Op) (ts : List (Tree Op)) : Type 0 where
  pub graph : IsGraph op_signature g
  pub sorted : AreSortedLets [] ts
  pub few : length g.current + operators_of ts ≤ 2 ^ 31

-- the terms of a goal that may have lets in them, behind the lets
abbrev pub terms_over_lets : GoalTree → List (Tree Op)
terms_over_lets goal = assume_terms goal.assumes ++ guard_terms goal.guard ++ set_terms goal.sets

pub record CanInsertGoal (g : Graph Op) (goal : GoalTree) : Type 0 where
  pub graph : IsGraph op_signature g
  pub lets : AreSortedLets [] (let_values goal.lets)
  pub terms : All (IsSortedOver (let_sorts goal)) (terms_over_lets goal)
  pub few : length g.current + most_rows_at_start goal ≤ 2 ^ 31

-- the sides may be merged, where variables stand for the classes that `lets` are in, with room for their operators
pub record CanAssume (g : Graph Op) (lets : List ℕ) (a : TwoTrees) : Type 0 where
  pub graph : IsGraph op_signature g
  pub variables : List Sort
  pub have : HaveSortsIn g lets variables
  pub sorted : AreSortedOver variables a
  pub few : length g.current + operators_of_sides a ≤ 2 ^ 31

pub record CanAssumeAll (g : Graph Op) (lets : List ℕ) (assumes : List TwoTrees) : Type 0 where
  pub graph : IsGraph op_signature g
  pub variables : List Sort
  pub have : HaveSortsIn g lets variables
  pub sorted : All (AreSortedOver variables) assumes
  pub few : length g.current + sum_over operators_of_sides assumes ≤ 2 ^ 31

-- ---- what is inserted, and made equal

-- the terms are inserted one after another, where variables stand for the classes in `places`
pub data AreInsertedOver (places : List ℕ) : List (Tree Op) → Graph Op → Graph Op → Type 0 where
  none_over : {g : Graph Op} → AreInsertedOver places [] g g
  one_over :
      {t : Tree Op} {ts : List (Tree Op)} {g h new : Graph Op} {c : ℕ} →
      IsBuilt places t g c h →
      AreInsertedOver places ts h new →
      AreInsertedOver places (t ∷ ts) g new

-- the terms are inserted one after another, each over the classes of those before it, which are `lets` in the end
pub data AreLetsInserted : List ℕ → List (Tree Op) → Graph Op → List ℕ → Graph Op → Type 0 where
  no_let : {lets : List ℕ} {g : Graph Op} → AreLetsInserted lets [] g lets g
  one_let :
      {before lets : List ℕ} {t : Tree Op} {ts : List (Tree Op)} {g h new : Graph Op} {c : ℕ} →
      IsBuilt before t g c h →
      AreLetsInserted (before ++ c ∷ []) ts h lets new →
      AreLetsInserted before (t ∷ ts) g lets new

-- the leaves of a goal are inserted, then its lets, and then its other terms over these
pub record AreTermsInserted (goal : GoalTree) (old : Graph Op) (lets : List ℕ) (new : Graph Op) : Type 0 where
  pub first : Graph Op
  pub second : Graph Op
  pub leaves : AreInsertedOver [] (entry_term ∷ input_terms goal.inputs) old first
  pub named : AreLetsInserted [] (let_values goal.lets) first lets second
  pub terms : AreInsertedOver lets (terms_over_lets goal) second new

-- the first term is built, and the second is made to have its class, where variables stand for the classes that `lets`
-- are in before
pub record IsAssumeMadeOver (lets : List ℕ) (p : Pair) (g new : Graph Op) : Type 0 where
  pub middle : Graph Op
  pub class : ℕ
  pub built : IsBuilt (read_through g lets) p.0 g class middle
  pub made : IsApplied (record { right = p.1; places = read_through g lets; class = class }) middle new

pub data AreAssumedOver (lets : List ℕ) : List Pair → Graph Op → Graph Op → Type 0 where
  none_assumed_over : {g : Graph Op} → AreAssumedOver lets [] g g
  one_assumed_over :
      {p : Pair} {ps : List Pair} {g h new : Graph Op} →
      IsAssumeMadeOver lets p g h →
      AreAssumedOver lets ps h new →
      AreAssumedOver lets (p ∷ ps) g new

pub record IsAssumedRefusedOver (lets : List ℕ) (p : Pair) (g : Graph Op) (x y : ℕ) : Type 0 where
  pub middle : Graph Op
  pub class : ℕ
  pub built : IsBuilt (read_through g lets) p.0 g class middle
  pub refused : IsRefusedMerge (record { right = p.1; places = read_through g lets; class = class }) middle x y

pub data AreRefusedOver (lets : List ℕ) : List Pair → Graph Op → ℕ → ℕ → Type 0 where
  refused_here_over :
      {p : Pair} {ps : List Pair} {g : Graph Op} {x y : ℕ} →
      IsAssumedRefusedOver lets p g x y →
      AreRefusedOver lets (p ∷ ps) g x y
  refused_after_over :
      {p : Pair} {ps : List Pair} {g h : Graph Op} {x y : ℕ} →
      IsAssumeMadeOver lets p g h →
      AreRefusedOver lets ps h x y →
      AreRefusedOver lets (p ∷ ps) g x y

-- that there is no memory says nothing of the graph
abbrev pub AssumeFaultIs : List ℕ → Pair → Graph Op → StartFault → Type 0
AssumeFaultIs lets p g (NoWorld class a b) = IsAssumedRefusedOver lets p g a b
AssumeFaultIs lets p g Memory = Unit {0}

abbrev pub AssumeFaultOfAll : List ℕ → List Pair → Graph Op → StartFault → Type 0
AssumeFaultOfAll lets ps g (NoWorld class a b) = AreRefusedOver lets ps g a b
AssumeFaultOfAll lets ps g Memory = Unit {0}

-- ---- which terms read a memory

-- whether the term reads a memory, where it is given which of its variables' terms do
abbrev mutual
  pub has_select_over : List Bool → Tree Op → Bool
  has_select_over lets (variable n) = slice_index_or lets n false
  has_select_over lets (application op ts) = is_select op || have_select_over lets ts

  pub have_select_over : List Bool → Trees Op → Bool
  have_select_over lets none = false
  have_select_over lets (more t ts) = has_select_over lets t || have_select_over lets ts

-- ---- where lets stand

-- in each term stand only those before it
abbrev pub AreLetsBelow : List (Tree Op) → Type 0
AreLetsBelow ts = (k : ℕ) (d : Tree Op) → k < length ts → AreBelow k (get_or ts k d)
