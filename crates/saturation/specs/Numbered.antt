-- Classes and declared operators, numbered in the order of their first rows. No public clause rests on this. From this
-- project.
use Rattle.std.specs.Prelude.{◌≡◌, ℕ, List, [], ◌∷◌, ◌++◌, map, length, fold, slice_index, nat_lt, if◌then◌else◌, ◌==◌, not, Option, None, Some}
use Rattle.std.specs.List.{filter_map, position_or_len}
use Rattle.word_ops.specs.declared.sorts.Op.{Op}
use Rattle.word_ops.specs.declared.sorts.Op.TheVariants.{Declared}
use Rattle.word_terms.specs.Tree.{Tree, substituted}
use Rattle.word_terms.specs.View.{tree_of}
use Rattle.word_terms.specs.declared.term.Term.{Term}
use Rattle.egraph.specs.Graph.{Graph, HasClass}
use Rattle.egraph.specs.declared.rows.Row.{Row}
use Rattle.pattern_match.specs.Classes.{IsClass}
use Rattle.graph_meaning.specs.WellFormed.{declared_index}
use Rattle.graph_meaning.specs.declared.graphs.LaunchRow.{LaunchRow}
use Rattle.graph_meaning.specs.declared.graphs.Guard.{Guard}
use Rattle.graph_meaning.specs.declared.graphs.InputClass.{InputClass}
use Rattle.graph_meaning.specs.declared.graphs.SetClass.{SetClass}
use Rattle.goal_meaning.specs.Names.{declared_name}
use Rattle.goal_meaning.specs.declared.goals.InputReg.{InputReg}
use Rattle.goal_meaning.specs.declared.goals.Set.{Set}
use Rattle.goal_meaning.specs.declared.goals.DeclaredOp.{DeclaredOp}
use Rattle.saturation.specs.GoalTerms.{input_term}
use Rattle.saturation.specs.StandsFor.{has_select}

-- the first place of the number, or the list's length where it is not there
abbrev pub place_in : List ℕ → ℕ → ℕ
place_in ns n = position_or_len (λ m. m == n) ns

-- the list, with the number behind it where it was not there
abbrev pub with_new : List ℕ → ℕ → List ℕ
with_new seen n = if nat_lt (place_in seen n) (length seen) then seen else seen ++ n ∷ []

-- the different numbers of a list, in the order in which they come first
abbrev pub firsts : List ℕ → List ℕ
firsts ns = fold with_new [] ns

-- the classes of the rows
abbrev pub classes_of_rows : List (Row Op) → List ℕ
classes_of_rows rows = map (λ (r : Row Op). r.class) rows

-- the numbers of the declared operators of the rows
abbrev pub indexes_of : List (Row Op) → List ℕ
indexes_of rows = filter_map (λ (r : Row Op). declared_index r.op) rows

-- for each class of a row its number
pub record AreClassNumbers (g : Graph Op) (numbers : List ℕ) : Type 0 where
  pub size : length numbers ≡ length g.current
  pub each : (c : ℕ) → HasClass g c → slice_index numbers c ≡ place_in (firsts (classes_of_rows g.rows)) c

-- the declared operator with its place among those that are used
abbrev pub launched_op : List ℕ → Op → Op
launched_op used (Declared index arity) = Declared (place_in used index) arity
launched_op used op = op

-- the name of a declared operator
abbrev pub launched_name : List DeclaredOp → Op → List ℕ
launched_name declared (Declared index arity) = declared_name declared index
launched_name declared op = []

abbrev pub launched_row : List ℕ → List ℕ → List DeclaredOp → Row Op → LaunchRow
launched_row numbers used declared r = record {
  class = slice_index numbers r.class;
  op = launched_op used r.op;
  name = launched_name declared r.op;
  operands = map (slice_index numbers) r.operands;
}

-- the number is that of the term's class, where its variables have the classes in `places`
abbrev pub IsClassNumber : Graph Op → List ℕ → List ℕ → Tree Op → ℕ → Type 0
IsClassNumber g places numbers t n = (c : ℕ) × IsClass g places t c × (n ≡ slice_index numbers c)

-- the input's name and register, with the number of its class
pub record IsInputNumber (g : Graph Op) (numbers : List ℕ) (c : InputClass) (i : InputReg) : Type 0 where
  pub name : c.name ≡ i.name
  pub register : c.reg ≡ i.reg
  pub class : IsClassNumber g [] numbers (input_term i.reg) c.class

-- the target's name and pin, with the number of its value's class
pub record IsSetNumber (g : Graph Op) (lets numbers : List ℕ) (c : SetClass) (s : Set) : Type 0 where
  pub name : c.name ≡ s.name
  pub pin : c.pin ≡ s.pin
  pub class : IsClassNumber g lets numbers (tree_of s.value) c.class

-- the guard with the number of its term's class; it is held where its term without lets reads no memory
abbrev pub IsGuardNumber : Graph Op → List ℕ → List (Tree Op) → List ℕ → Option Guard → Option (Term Op) → Type 0
IsGuardNumber g lets terms numbers None None = Unit {0}
IsGuardNumber g lets terms numbers (Some guard) (Some t) =
    IsClassNumber g lets numbers (tree_of t) guard.class
    × (guard.held ≡ not (has_select (substituted terms (tree_of t))))
IsGuardNumber g lets terms numbers _ _ = ⊥
