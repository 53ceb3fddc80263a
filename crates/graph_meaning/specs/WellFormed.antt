-- Well-formed launch graphs.
-- Source: this project.
use Rattle.std.specs.Prelude.{◌≡◌, ℕ, ◌+◌, ◌<◌, ◌≤◌, ◌^◌, max, List, [], length, fold, take, Option, Some, None, All, AllPairs, Any, is_some, IsTrue, IfSome, slice_get, slice_index, ◌⊎◌, if◌then◌else◌}
use Rattle.text_core.specs.Names.{IsName}
use Rattle.word_ops.specs.Words.{IsWord}
use Rattle.word_ops.specs.Meanings.{arity_of_op, sort_of, operand_sort, constant_in}
use Rattle.word_ops.specs.declared.sorts.Op.{Op}
use Rattle.word_ops.specs.declared.sorts.Op.TheVariants.{Declared, Input}
use Rattle.word_ops.specs.declared.sorts.Sort.{Sort}
use Rattle.word_ops.specs.declared.sorts.Sort.TheVariants as sort
use Rattle.graph_meaning.specs.Graphs.{is_memory_name, HaveOwnPins}
use Rattle.graph_meaning.specs.Multiples.{AreMultiplesOf}
use Rattle.graph_meaning.specs.declared.graphs.LaunchRow.{LaunchRow}
use Rattle.graph_meaning.specs.declared.graphs.LaunchGraph.{LaunchGraph}

-- some row of the class gives a value of this sort
abbrev pub ClassHasSort : LaunchGraph → Sort → ℕ → Type 0
ClassHasSort g sort class = Any (λ r. (r.class ≡ class) × (sort_of r.op ≡ sort)) g.rows

-- the number that the next new class has after these rows
abbrev pub next_class : List LaunchRow → ℕ
next_class rows = fold (λ n r. max n (r.class + 1)) 0 rows

abbrev pub declared_index : Op → Option ℕ
declared_index (Declared index arity) = Some index
declared_index _ = None

-- the register of an input
abbrev pub register_of_input : Op → Option ℕ
register_of_input (Input register) = Some register
register_of_input _ = None

abbrev pub next_after : Option ℕ → ℕ
next_after None = 0
next_after (Some n) = n + 1

-- the number that the next new declared operator has after these rows
abbrev pub next_index : List LaunchRow → ℕ
next_index rows = fold (λ n r. max n (next_after (declared_index r.op))) 0 rows

-- two rows of the graph, at two places
abbrev pub AreRows : LaunchGraph → LaunchRow → LaunchRow → ℕ → ℕ → Type 0
AreRows g r s i j = (slice_get g.rows i ≡ Some r) × (slice_get g.rows j ≡ Some s)

-- each operand of the row is of a class that has the sort that the operator takes there
abbrev pub TakesItsSorts : LaunchGraph → LaunchRow → Type 0
TakesItsSorts g r =
    (at : ℕ) → at < length r.operands → ClassHasSort g (operand_sort r.op at) (slice_index r.operands at)

-- a target named M is a memory, every other one a word
abbrev pub set_sort : List ℕ → Sort
set_sort name = if is_memory_name name then sort.Memory else sort.Word

-- one number goes with one name and one operator, and one name with one number
abbrev pub HaveOneName : LaunchRow → LaunchRow → ℕ → ℕ → Type 0
HaveOneName r s m n = (m ≡ n → (r.name ≡ s.name) × (r.op ≡ s.op)) × (r.name ≡ s.name → m ≡ n)

-- a class is that of an earlier row, or the next number
abbrev pub AreInOrder : List LaunchRow → Type 0
AreInOrder rows = (i : ℕ) (r : LaunchRow) → slice_get rows i ≡ Some r → r.class ≤ next_class (take i rows)

pub record IsLaunchGraph (g : LaunchGraph) : Type 0 where
  pub few : length g.rows < 2 ^ 30
  pub arities : All (λ r. length r.operands ≡ arity_of_op r.op) g.rows
  pub distinct : AllPairs (λ r s. ¬ ((r.op ≡ s.op) × (r.operands ≡ s.operands))) g.rows
  pub classes : AreInOrder g.rows
  -- the rows of a class have one sort, and at most one constant
  pub sorts : (r s : LaunchRow) (i j : ℕ) → AreRows g r s i j → r.class ≡ s.class → sort_of r.op ≡ sort_of s.op
  pub constants : (r s : LaunchRow) (i j m n : ℕ) → AreRows g r s i j → r.class ≡ s.class
      → constant_in r.op ≡ Some m → constant_in s.op ≡ Some n → m ≡ n
  pub words : (r : LaunchRow) (i m : ℕ) → slice_get g.rows i ≡ Some r → constant_in r.op ≡ Some m → IsWord m
  pub registers : (r : LaunchRow) (i n : ℕ) → slice_get g.rows i ≡ Some r → register_of_input r.op ≡ Some n → n < 31
  pub operands : All (TakesItsSorts g) g.rows
  -- declared operators are numbered by their first rows, at most 16, and number, name and arity go together
  pub indexes : (i n : ℕ) (r : LaunchRow) → slice_get g.rows i ≡ Some r → declared_index r.op ≡ Some n
      → (n ≤ next_index (take i g.rows)) × (n < 16)
  pub unnamed : All (λ r. (r.name ≡ []) ⊎ IsTrue (is_some (declared_index r.op))) g.rows
  pub same_name : (r s : LaunchRow) (i j m n : ℕ) → AreRows g r s i j
      → declared_index r.op ≡ Some m → declared_index s.op ≡ Some n → HaveOneName r s m n
  pub named : All (λ r. IsTrue (is_some (declared_index r.op)) → IsName r.name) g.rows
  pub multiples : AreMultiplesOf g.rows g.multiples
  pub entry : ClassHasSort g sort.Memory g.entry
  pub inputs : All (λ i. ClassHasSort g sort.Word i.class × (i.reg < 31)) g.inputs
  pub pool : All (λ r. r < 31) g.pool
  pub guard : IfSome g.guard (λ guard. ClassHasSort g sort.Word guard.class)
  pub sets : All (λ s. ClassHasSort g (set_sort s.name) s.class) g.sets
  pub names : All (λ i. IsName i.name) g.inputs × All (λ s. IsName s.name) g.sets
  -- a pin is a register, that of no other set, and the memory has none
  pub pins : All (λ s. IfSome s.pin (λ r. r < 31)) g.sets
  pub own_pins : HaveOwnPins g.sets
  pub memory_unpinned : All (λ s. IsTrue (is_memory_name s.name) → s.pin ≡ None) g.sets
