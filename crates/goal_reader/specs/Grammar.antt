-- The grammar of goals, axioms and declarations: which forms write them. Source: this project; the notation follows
-- Denali's guarded multi-assignment (PLDI 2002).
use Rattle.std.specs.Prelude.{Bool, true, false, ℕ, ◌≡◌, ◌≢◌, ◌<◌, ◌≤◌, List, [], ◌∷◌, ◌++◌, length, map, codes, bytes_eq, Option, None, Some, All, AllPairs, if◌then◌else◌}
use Rattle.text_core.specs.Limits.{most_declared, most_axioms, most_goals, most_variables}
use Rattle.forms.specs.Forms.{Form, atom, list, forms_from, forms_list, forms_of, register, is_list}
use Rattle.forms.specs.Reading.{TextHasTrees, IsFirstReadFault}
use Rattle.text_core.specs.Names.{is_among}
use Rattle.goal_reader.specs.Roles.{numbered_leaves, IsTextFault, let_scope, register_number}
use Rattle.goal_reader.specs.Scopes.{SortedName, sorts_of_names}
use Rattle.goal_meaning.specs.Names.{is_reserved, names_of_declared}
use Rattle.goal_reader.specs.Terms.{Writes}
use Rattle.goal_meaning.specs.Rules.{default_pool, pins_of, KeepsRules}
use Rattle.goal_meaning.specs.WellFormed.{sort_of_tree}
use Rattle.goal_meaning.specs.Views.{LetTree, TwoTrees, TargetTree, GoalTree, AxiomTree, InputTree}
use Rattle.goal_meaning.specs.declared.goals.InputReg.{InputReg}
use Rattle.goal_meaning.specs.declared.goals.DeclaredOp.{DeclaredOp}
use Rattle.goal_reader.specs.declared.scopes.Named.TheVariants.{Variable}
use Rattle.goal_reader.specs.declared.scopes.Scope.{Scope}
use Rattle.machine_table.specs.Grammar.{Each, IsListOf, IsNameOf, IsNumberOf, WritesTable}
use Rattle.machine_table.specs.Tables.{ev6}
use Rattle.machine_table.specs.declared.tables.Table.{Table}
use Rattle.text_core.specs.Faults.{IsFirst}
use Rattle.text_core.specs.Trees.{SexpTrees}
use Rattle.text_core.specs.declared.faults.Kind.{Kind}
use Rattle.word_ops.specs.Meanings.{count_of}
use Rattle.word_ops.specs.declared.sorts.Op.{Op}
use Rattle.word_ops.specs.declared.sorts.Sort.{Sort}
use Rattle.word_ops.specs.declared.sorts.Sort.TheVariants as sorts
use Rattle.word_terms.specs.Sorting.{Occurs}
use Rattle.word_terms.specs.Tree.{Tree}

-- a dollar sign and the number of a register from 0 to 30, in decimal and without a leading zero
pub record IsRegister (r : ℕ) (form : Form) : Type 0 where
  pub place : ℕ
  pub bytes : List ℕ
  pub is : form ≡ atom place (register bytes)
  pub number : register_number bytes ≡ Some r

-- ( in NAME REGISTER )
pub record WritesInput (form : Form) (input : InputReg) : Type 0 where
  pub first : Form
  pub second : Form
  pub is : IsListOf (codes "in") (first ∷ second ∷ []) form
  pub named : IsNameOf input.name first
  pub placed : IsRegister input.reg second

-- [ ( pool {REGISTER} ) ]; a pool that isn't given has none of the registers that are taken
pub data WritesPool (taken : List ℕ) : List Form → List ℕ → Type 0 where
  absent : WritesPool taken [] (default_pool taken)
  given : {form : Form} {registers : List ℕ} (forms : List Form)
      → IsListOf (codes "pool") forms form → Each (λ f r. IsRegister r f) forms registers
      → WritesPool taken (form ∷ []) registers

-- ( let NAME term )
pub record WritesLet (scope : Scope) (form : Form) (one : LetTree) : Type 0 where
  pub first : Form
  pub second : Form
  pub sort : Sort
  pub is : IsListOf (codes "let") (first ∷ second ∷ []) form
  pub named : IsNameOf one.name first
  pub value : Writes scope sort second one.value

-- a let has the sort of its term, in which the variables are the lets before it
abbrev pub sorted_let : List SortedName → LetTree → SortedName
sorted_let before one = record { name = one.name; sort = sort_of_tree (sorts_of_names before) one.value }

-- the names and the sorts of lets, behind those of others
abbrev pub sorted_from : List SortedName → List LetTree → List SortedName
sorted_from before [] = before
sorted_from before (one ∷ others) = sorted_from (before ++ sorted_let before one ∷ []) others

-- {let} behind other lets; in the term of each a name may mean a let before it
pub data WritesLets (declared : List DeclaredOp) (inputs : List InputReg) : List SortedName → List Form → List LetTree
    → Type 0 where
  no_lets : {before : List SortedName} → WritesLets declared inputs before [] []
  one_let : {before : List SortedName} {form : Form} {forms : List Form} {one : LetTree} {others : List LetTree}
      → WritesLet (let_scope declared inputs before) form one
      → WritesLets declared inputs (before ++ sorted_let before one ∷ []) forms others
      → WritesLets declared inputs before (form ∷ forms) (one ∷ others)

-- what names mean behind the lets of a goal
abbrev pub scope_of_goal : List DeclaredOp → GoalTree → Scope
scope_of_goal declared goal = let_scope declared goal.inputs (sorted_from [] goal.lets)

-- ( assume term term ), the two of one sort
pub record WritesAssume (scope : Scope) (form : Form) (assume : TwoTrees) : Type 0 where
  pub first : Form
  pub second : Form
  pub sort : Sort
  pub is : IsListOf (codes "assume") (first ∷ second ∷ []) form
  pub left : Writes scope sort first assume.left
  pub right : Writes scope sort second assume.right

-- [ ( when term ) ], a word
pub data WritesGuard (scope : Scope) : List Form → Option (Tree Op) → Type 0 where
  unguarded : WritesGuard scope [] None
  guarded : {form : Form} {term : Tree Op} (one : Form)
      → IsListOf (codes "when") (one ∷ []) form → Writes scope sorts.Word one term
      → WritesGuard scope (form ∷ []) (Some term)

-- [REGISTER]
pub data WritesPin : List Form → Option ℕ → Type 0 where
  unpinned : WritesPin [] None
  pinned : {form : Form} {register : ℕ} → IsRegister register form → WritesPin (form ∷ []) (Some register)

-- ( set NAME [REGISTER] term ); M takes a memory, every other name a word
pub record WritesTarget (scope : Scope) (form : Form) (target : TargetTree) : Type 0 where
  pub first : Form
  pub pins : List Form
  pub last : Form
  pub is : IsListOf (codes "set") (first ∷ (pins ++ last ∷ [])) form
  pub named : IsNameOf target.name first
  pub pin : WritesPin pins target.pin
  pub value : Writes scope (if bytes_eq target.name (codes "M") then sorts.Memory else sorts.Word) last target.value

-- ( goal NAME {in} [pool] {let} {assume} [when] set {set} )
pub record WritesGoal (declared : List DeclaredOp) (form : Form) (goal : GoalTree) : Type 0 where
  pub name_form : Form
  pub ins : List Form
  pub pools : List Form
  pub bindings : List Form
  pub assumes : List Form
  pub whens : List Form
  pub sets : List Form
  pub is : IsListOf (codes "goal") (name_form ∷ ins ++ (pools ++ (bindings ++ (assumes ++ (whens ++ sets))))) form
  pub named : IsNameOf goal.name name_form
  pub inputs : Each WritesInput ins goal.inputs
  pub pool : WritesPool (map (λ (i : InputReg). i.reg) goal.inputs ++ pins_of goal.sets) pools goal.pool
  pub lets : WritesLets declared goal.inputs [] bindings goal.lets
  pub assumptions : Each (WritesAssume (scope_of_goal declared goal)) assumes goal.assumes
  pub guard : WritesGuard (scope_of_goal declared goal) whens goal.guard
  pub targets : Each (WritesTarget (scope_of_goal declared goal)) sets goal.sets
  pub rules : KeepsRules declared goal

-- ( op NAME NUMBER )
pub record WritesDeclaration (form : Form) (operator : DeclaredOp) : Type 0 where
  pub first : Form
  pub second : Form
  pub is : IsListOf (codes "op") (first ∷ second ∷ []) form
  pub named : IsNameOf operator.name first
  pub counted : IsNumberOf (count_of operator.arity) second

-- in an axiom a name means a variable, by its number
abbrev pub axiom_scope : List DeclaredOp → List (List ℕ) → Scope
axiom_scope declared names = record {
  declared = declared;
  leaves = numbered_leaves 0 (λ name n. Variable n) names;
}

-- ( axiom ( NAME {NAME} ) term term ), both sides words; the left one is an application that has all variables of the
-- right one
pub record WritesAxiom (declared : List DeclaredOp) (form : Form) (axiom_is : AxiomTree) : Type 0 where
  pub place : ℕ
  pub names : List Form
  pub left_form : Form
  pub right_form : Form
  pub is : IsListOf (codes "axiom") (list place (forms_from names) ∷ left_form ∷ right_form ∷ []) form
  pub variables : Each (λ f n. IsNameOf n f) names axiom_is.variables
  pub some : (0 < length axiom_is.variables) × (length axiom_is.variables ≤ most_variables)
  pub differ : AllPairs (λ m n. m ≢ n) axiom_is.variables
  pub own : All (λ n. (is_reserved n ≡ false) × (is_among (names_of_declared declared) n ≡ false)) axiom_is.variables
  pub application : is_list left_form ≡ true
  pub left : Writes (axiom_scope declared axiom_is.variables) sorts.Word left_form axiom_is.left
  pub right : Writes (axiom_scope declared axiom_is.variables) sorts.Word right_form axiom_is.right
  pub bound : (n : ℕ) → Occurs n axiom_is.right → Occurs n axiom_is.left

-- [ machine ]; without one, the table is ev6
pub data WritesMachine : List Form → Table → Bool → Type 0 where
  built_in : WritesMachine [] ev6 true
  own : {form : Form} {table : Table} → WritesTable form table → WritesMachine (form ∷ []) table false

-- [machine] {op} {axiom} goal {goal}
pub record WritesText (forms : List Form) (input : InputTree) : Type 0 where
  pub machines : List Form
  pub ops : List Form
  pub axioms : List Form
  pub goals : List Form
  pub are : forms ≡ machines ++ (ops ++ (axioms ++ goals))
  pub machine : WritesMachine machines input.table input.builtin
  pub declared : Each WritesDeclaration ops input.ops
  pub equations : Each (WritesAxiom input.ops) axioms input.axioms
  pub all_goals : Each (WritesGoal input.ops) goals input.goals
  pub op_names : AllPairs (λ (a b : DeclaredOp). a.name ≢ b.name) input.ops
  pub own_names : All (λ (a : DeclaredOp). is_reserved a.name ≡ false) input.ops
  pub goal_names : AllPairs (λ (g h : GoalTree). g.name ≢ h.name) input.goals
  pub some_goal : 0 < length input.goals
  pub few : (length input.ops ≤ most_declared) × (length input.axioms ≤ most_axioms) × (length input.goals ≤ most_goals)

-- The text reads as this input.
pub record Reads (text : List ℕ) (input : InputTree) : Type 0 where
  pub trees : SexpTrees
  pub has : TextHasTrees text trees
  pub written : WritesText (forms_list (forms_of text trees)) input

-- The first fault of a text: of its bytes, else of its parentheses, else of its forms.
pub data IsFirstTextFault (text : List ℕ) : ℕ → Kind → Type 0 where
  in_passes : {place : ℕ} {kind : Kind} → IsFirstReadFault text place kind → IsFirstTextFault text place kind
  in_forms : {place : ℕ} {kind : Kind} (trees : SexpTrees) → TextHasTrees text trees
      → IsFirst (IsTextFault (length text) (forms_list (forms_of text trees))) place kind
      → IsFirstTextFault text place kind
