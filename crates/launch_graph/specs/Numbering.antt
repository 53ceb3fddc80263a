-- Rows of a graph with their declared operators numbered, in the order of their first rows. No public clause rests on
-- this. Source: this project.
use Rattle.std.specs.Prelude.{ℕ, ◌≡◌, ◌≢◌, ◌⊎◌, ◌<◌, ◌≤◌, List, [], ◌∷◌, ◌++◌, length, map, take, Some, All, slice_get, slice_index_or, IsTrue, is_some}
use Rattle.word_ops.specs.Meanings.{arity_of_op, count_of}
use Rattle.word_ops.specs.declared.sorts.Arity.{Arity}
use Rattle.word_ops.specs.declared.sorts.Op.{Op}
use Rattle.word_ops.specs.declared.sorts.Op.TheVariants.{Declared}
use Rattle.word_terms.specs.Keys.{key_of}
use Rattle.graph_meaning.specs.declared.graphs.LaunchRow.{LaunchRow}
use Rattle.launch_graph.specs.declared.index.RowKey.{RowKey}
use Rattle.launch_graph.specs.declared.numbering.UsedName.{UsedName}
use Rattle.launch_graph.specs.declared.row_lines.LineOp.{LineOp}
use Rattle.launch_graph.specs.declared.row_lines.LineOp.TheVariants.{Plain, Use, Unknown}
use Rattle.launch_graph.specs.declared.row_lines.RowLine.{RowLine}
use Rattle.launch_graph.specs.GraphLines.{said_row}
use Rattle.launch_graph.specs.RowFaults.{names_used, ops_of}
use Rattle.graph_meaning.specs.WellFormed.{declared_index, next_index}

abbrev pub names_of : List UsedName → List (List ℕ)
names_of used = map (λ (u : UsedName). u.name) used

-- no used name is this one
abbrev pub IsUnused : List UsedName → List ℕ → Type 0
IsUnused used name = All (λ (u : UsedName). u.name ≢ name) used

-- the operator of a row with so many operands, and the names used up to that row
pub data IsNumberedOp (used more : List UsedName) (line : LineOp) (count : ℕ) (op : Op) : Type 0 where
  plain : line ≡ Plain op → count ≡ arity_of_op op → more ≡ used → IsNumberedOp used more line count op
  again : {name : List ℕ} {at : ℕ} {one : UsedName} → line ≡ Use name → at < length used → slice_get used at ≡ Some one
      → one.name ≡ name → count_of one.arity ≡ count → op ≡ Declared at one.arity → more ≡ used
      → IsNumberedOp used more line count op
  anew : {name : List ℕ} {one : UsedName} → line ≡ Use name → IsUnused used name → length used < 16
      → one.name ≡ name → count_of one.arity ≡ count → op ≡ Declared (length used) one.arity → more ≡ used ++ one ∷ []
      → IsNumberedOp used more line count op

-- why a row with so many operands has none
pub data HasNoNumber (used : List UsedName) (line : LineOp) (count : ℕ) : Type 0 where
  unknown : {word : List ℕ} → line ≡ Unknown word → HasNoNumber used line count
  wrong_arity : {op : Op} → line ≡ Plain op → count ≢ arity_of_op op → HasNoNumber used line count
  no_arity : {name : List ℕ} → line ≡ Use name → ((arity : Arity) → count_of arity ≢ count)
      → HasNoNumber used line count
  other_arity : {name : List ℕ} {at : ℕ} {one : UsedName} → line ≡ Use name → at < length used
      → slice_get used at ≡ Some one → one.name ≡ name → count_of one.arity ≢ count → HasNoNumber used line count
  too_many : {name : List ℕ} → line ≡ Use name → IsUnused used name → 16 ≤ length used → HasNoNumber used line count

-- ---- keys of rows

-- no class has this number
abbrev pub operand_or_none : List ℕ → ℕ → ℕ
operand_or_none operands at = slice_index_or operands at 4294967295

abbrev pub row_key : Op → List ℕ → RowKey
row_key op operands =
    record {
      kind = (key_of op).0;
      number = (key_of op).1;
      first = operand_or_none operands 0;
      second = operand_or_none operands 1;
      third = operand_or_none operands 2;
      fourth = operand_or_none operands 3;
    }

-- ---- rows so far

-- the name and the arity of a declared operator of a row are those at its number
pub record IsNumberedRow (used : List UsedName) (before : List LaunchRow) (r : LaunchRow) (n : ℕ) : Type 0 where
  pub one : UsedName
  pub there : slice_get used n ≡ Some one
  pub op_is : r.op ≡ Declared n one.arity
  pub name_is : r.name ≡ one.name
  pub next_is : n ≤ next_index before

-- the rows, the names that they use in order, and their keys
pub record AreNumbered (before : List RowLine) (used : List UsedName) (keys : List RowKey) (built : List LaunchRow)
    : Type 0 where
  pub said_are : map said_row built ≡ before
  pub keys_are : keys ≡ map (λ (r : LaunchRow). row_key r.op r.operands) built
  pub declared_are : (i n : ℕ) (r : LaunchRow) → slice_get built i ≡ Some r → declared_index r.op ≡ Some n
      → IsNumberedRow used (take i built) r n
  pub unnamed : All (λ (r : LaunchRow). (r.name ≡ []) ⊎ IsTrue (is_some (declared_index r.op))) built
  pub arities : All (λ (r : LaunchRow). length r.operands ≡ arity_of_op r.op) built
  pub distinct : (i j : ℕ) (one other : UsedName) → slice_get used i ≡ Some one → slice_get used j ≡ Some other
      → one.name ≡ other.name → i ≡ j
  pub next_is : next_index built ≡ length used
  pub few : length used ≤ 16
  pub names_are : names_of used ≡ names_used [] (ops_of before)
  pub used_are : (n : ℕ) (one : UsedName) → slice_get used n ≡ Some one
      → (i : ℕ) × (r : LaunchRow) × (slice_get built i ≡ Some r) × (declared_index r.op ≡ Some n)
