-- The forms that an input is written as, without places: the machine form where the input had one, and explicit pools.
-- Source: this project; the notation follows Denali's guarded multi-assignment (PLDI 2002).
use Rattle.std.specs.Prelude.{ℕ, ◌==◌, if◌then◌else◌, Option, Some, None, List, [], ◌∷◌, ◌++◌, map, codes, decimal, slice_index_or}
use Rattle.word_ops.specs.Meanings.{count_of}
use Rattle.word_ops.specs.Names.{name_of, select_name, store_name}
use Rattle.word_ops.specs.declared.sorts.Op.{Op}
use Rattle.word_ops.specs.declared.sorts.Op.TheVariants as ops
use Rattle.word_terms.specs.Tree as tree
use Rattle.word_terms.specs.Tree.{Tree, Trees}
use Rattle.forms.specs.Forms.{Atom, name, register, number}
use Rattle.forms.specs.Printing.{Plain, Plains, atom, list, none, more, plains_from, keyword_list}
use Rattle.machine_table.specs.Printing.{table_plain}
use Rattle.goal_meaning.specs.declared.goals.DeclaredOp.{DeclaredOp}
use Rattle.goal_meaning.specs.declared.goals.InputReg.{InputReg}
use Rattle.goal_meaning.specs.Expanded.{let_names}
use Rattle.goal_meaning.specs.Names.{declared_name}
use Rattle.goal_meaning.specs.Views.{LetTree, TwoTrees, TargetTree, GoalTree, AxiomTree, InputTree}

-- the names that a term is written with: of declared operators by their numbers, of inputs by their registers, and of
-- variables by theirs
pub record Naming : Type 0 where
  pub declared : List DeclaredOp
  pub inputs : List InputReg
  pub variables : List (List ℕ)

abbrev pub naming : List DeclaredOp → List InputReg → List (List ℕ) → Naming
naming declared inputs variables = record { declared = declared; inputs = inputs; variables = variables }

-- the name of the first input in the register
abbrev pub input_name : List InputReg → ℕ → List ℕ
input_name [] r = []
input_name (i ∷ inputs) r = if i.reg == r then i.name else input_name inputs r

abbrev pub operator_name : List DeclaredOp → Op → List ℕ
operator_name declared (ops.Word op) = name_of op
operator_name declared (ops.Select access) = select_name access
operator_name declared (ops.Store access) = store_name access
operator_name declared (ops.Declared index arity) = declared_name declared index
operator_name declared _ = []

-- the memory, an input and a constant are atoms
abbrev pub leaf_atom : List InputReg → Op → Option Atom
leaf_atom inputs ops.Entry = Some (name (codes "M"))
leaf_atom inputs (ops.Input r) = Some (name (input_name inputs r))
leaf_atom inputs (ops.Constant n) = Some (number n)
leaf_atom inputs _ = None

abbrev pub atom_or : Option Atom → Plain → Plain
atom_or (Some a) p = atom a
atom_or None p = p

abbrev mutual
  pub term_plain : Naming → Tree Op → Plain
  term_plain names (tree.variable n) = atom (name (slice_index_or names.variables n []))
  term_plain names (tree.application op operands) =
      atom_or (leaf_atom names.inputs op)
      (list (more (atom (name (operator_name names.declared op))) (terms_plain names operands)))

  pub terms_plain : Naming → Trees Op → Plains
  terms_plain names tree.none = none
  terms_plain names (tree.more one others) = more (term_plain names one) (terms_plain names others)

abbrev pub register_plain : ℕ → Plain
register_plain r = atom (register (36 ∷ decimal r))

abbrev pub input_plain : InputReg → Plain
input_plain i = keyword_list (codes "in") (atom (name i.name) ∷ register_plain i.reg ∷ [])

abbrev pub pool_plain : List ℕ → Plain
pool_plain pool = keyword_list (codes "pool") (map register_plain pool)

abbrev pub let_plain : Naming → LetTree → Plain
let_plain names l = keyword_list (codes "let") (atom (name l.name) ∷ term_plain names l.value ∷ [])

abbrev pub assume_plain : Naming → TwoTrees → Plain
assume_plain names a = keyword_list (codes "assume") (term_plain names a.left ∷ term_plain names a.right ∷ [])

abbrev pub guard_plains : Naming → Option (Tree Op) → List Plain
guard_plains names None = []
guard_plains names (Some t) = keyword_list (codes "when") (term_plain names t ∷ []) ∷ []

-- the pin stands behind the name
abbrev pub pin_plains : Option ℕ → List Plain
pin_plains None = []
pin_plains (Some r) = register_plain r ∷ []

abbrev pub target_plain : Naming → TargetTree → Plain
target_plain names t =
    keyword_list (codes "set") (atom (name t.name) ∷ (pin_plains t.pin ++ term_plain names t.value ∷ []))

-- in the terms of a goal the variables are its lets
abbrev pub goal_naming : List DeclaredOp → GoalTree → Naming
goal_naming declared g = naming declared g.inputs (let_names g.lets)

-- the pool is explicit
abbrev pub goal_plain : List DeclaredOp → GoalTree → Plain
goal_plain declared g =
    keyword_list (codes "goal")
    (atom (name g.name)
    ∷ (map input_plain g.inputs
    ++ (pool_plain g.pool
    ∷ (map (let_plain (goal_naming declared g)) g.lets
    ++ (map (assume_plain (goal_naming declared g)) g.assumes
    ++ (guard_plains (goal_naming declared g) g.guard
    ++ map (target_plain (goal_naming declared g)) g.sets))))))

abbrev pub declaration_plain : DeclaredOp → Plain
declaration_plain d = keyword_list (codes "op") (atom (name d.name) ∷ atom (number (count_of d.arity)) ∷ [])

abbrev pub variable_plain : List ℕ → Plain
variable_plain n = atom (name n)

abbrev pub axiom_plain : List DeclaredOp → AxiomTree → Plain
axiom_plain declared a =
    keyword_list (codes "axiom")
    (list (plains_from (map variable_plain a.variables))
    ∷ term_plain (naming declared [] a.variables) a.left
    ∷ term_plain (naming declared [] a.variables) a.right ∷ [])

-- the machine form where the input had one
abbrev pub machine_plains : InputTree → List Plain
machine_plains i = if i.builtin then [] else table_plain i.table ∷ []

abbrev pub input_plains : InputTree → List Plain
input_plains i =
    machine_plains i
    ++ (map declaration_plain i.ops ++ (map (axiom_plain i.ops) i.axioms ++ map (goal_plain i.ops) i.goals))
