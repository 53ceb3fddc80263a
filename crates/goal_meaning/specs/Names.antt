-- Names in goals: those that every text has, those of declared operators, and inputs all of whose names are names.
-- Source: this project; the operators are Denali's (PLDI 2002) over the Alpha Architecture Handbook's.
use Rattle.std.specs.Prelude.{ℕ, Bool, true, false, ◌||◌, if◌then◌else◌, Option, Some, None, is_some, find, List, [], ◌∷◌, map, codes, bytes_eq, slice_index_or, All}
use Rattle.text_core.specs.Names.{IsName}
use Rattle.word_ops.specs.Operators.{operators}
use Rattle.word_ops.specs.Names.{name_of, select_name, store_name}
use Rattle.word_ops.specs.declared.sorts.Access.TheVariants as accesses
use Rattle.word_ops.specs.declared.operators.WordOp.{WordOp}
use Rattle.word_ops.specs.declared.operators.WordOp.TheVariants as words
use Rattle.word_ops.specs.declared.sorts.Op.{Op}
use Rattle.word_ops.specs.declared.sorts.Op.TheVariants.{Word, Select, Store}
use Rattle.machine_table.specs.declared.tables.Slot.{Slot}
use Rattle.goal_meaning.specs.declared.goals.DeclaredOp.{DeclaredOp}
use Rattle.goal_meaning.specs.declared.goals.InputReg.{InputReg}
use Rattle.goal_meaning.specs.Views.{LetTree, TargetTree, GoalTree, AxiomTree, InputTree}

-- ---- names that every text has

-- lda and ldah are made by rules alone and can't be written
abbrev pub is_written : WordOp → Bool
is_written words.Lda = false
is_written words.Ldah = false
is_written _ = true

-- the word operator of the name
unfoldable pub word_named : List ℕ → Option WordOp
word_named name = find (λ op. bytes_eq (name_of op) name) operators

abbrev pub as_written : WordOp → Option Op
as_written op = if is_written op then Some (Word op) else None

-- the operators on memories that can be written; those with a displacement are made by rules alone
abbrev pub memory_operators : List Op
memory_operators =
    Select accesses.Quad ∷ Store accesses.Quad
    ∷ Select accesses.Byte ∷ Select accesses.Word ∷ Select accesses.Long
    ∷ Store accesses.Byte ∷ Store accesses.Word ∷ Store accesses.Long ∷ []

abbrev pub memory_operator_name : Op → List ℕ
memory_operator_name (Select access) = select_name access
memory_operator_name (Store access) = store_name access
memory_operator_name _ = []

abbrev pub memory_operator_named : List ℕ → Option Op
memory_operator_named name = find (λ op. bytes_eq (memory_operator_name op) name) memory_operators

abbrev pub written_or_memory : Option WordOp → List ℕ → Option Op
written_or_memory (Some op) name = as_written op
written_or_memory None name = memory_operator_named name

-- the operator of the name that every text has: of words, or on memories
abbrev pub built_in_named : List ℕ → Option Op
built_in_named name = written_or_memory (word_named name) name

-- an operator that every text has, or the memory
abbrev pub is_reserved : List ℕ → Bool
is_reserved name = is_some (built_in_named name) || bytes_eq name (codes "M")

-- ---- names of declared operators

abbrev pub names_of_declared : List DeclaredOp → List (List ℕ)
names_of_declared declared = map (λ (d : DeclaredOp). d.name) declared

-- the name of the declared operator of this number
abbrev pub declared_name : List DeclaredOp → ℕ → List ℕ
declared_name declared at = slice_index_or (map (λ (d : DeclaredOp). d.name) declared) at []

-- ---- all names of an input

-- the goal's own name, and those of its inputs, its lets and its targets
pub record IsNamedGoal (goal : GoalTree) : Type 0 where
  pub own : IsName goal.name
  pub inputs : All (λ (i : InputReg). IsName i.name) goal.inputs
  pub lets : All (λ (l : LetTree). IsName l.name) goal.lets
  pub targets : All (λ (t : TargetTree). IsName t.name) goal.sets

-- the names of the table's slots, of the declared operators, of the variables of the axioms, and of the goals
pub record IsNamedInput (input : InputTree) : Type 0 where
  pub slots : All (λ (s : Slot). IsName s.name) input.table.slots
  pub operators : All (λ (o : DeclaredOp). IsName o.name) input.ops
  pub variables : All (λ (a : AxiomTree). All IsName a.variables) input.axioms
  pub goals : All IsNamedGoal input.goals
