-- The grammar of procs: which forms write them, which texts they stand in, and the first fault of a text. Source: this
-- project; a block is one of Denali's guarded multi-assignments (PLDI 2002).
use Rattle.std.specs.Prelude.{ℕ, ◌≡◌, List, [], ◌∷◌, ◌++◌, length, codes, Option, None, Some, slice_get}
use Rattle.text_core.specs.Faults.{IsFirst}
use Rattle.text_core.specs.Trees.{SexpTrees}
use Rattle.text_core.specs.declared.faults.Kind.{Kind}
use Rattle.forms.specs.Forms.{Form, forms_list, forms_of}
use Rattle.forms.specs.Reading.{IsFirstReadFault, TextHasTrees}
use Rattle.machine_table.specs.Grammar.{Each, IsListOf, IsNameOf}
use Rattle.word_ops.specs.declared.sorts.Sort.TheVariants as sorts
use Rattle.goal_meaning.specs.Views.{TargetTree}
use Rattle.goal_meaning.specs.WellFormed.{input_registers, sort_of_target}
use Rattle.goal_meaning.specs.declared.goals.InputReg.{InputReg}
use Rattle.goal_reader.specs.GoalTerms.{term_scope}
use Rattle.goal_reader.specs.Grammar.{IsRegister, WritesMachine, WritesPool}
use Rattle.goal_reader.specs.Terms.{Writes}
use Rattle.proc_goal.specs.ProcRoles.{IsProcTextFault}
use Rattle.proc_goal.specs.Views.{WhenTree, BlockTree, ProcTree, names_of_blocks}
use Rattle.proc_goal.specs.WellFormed.{IsPinned, KeepsProcRules}
use Rattle.proc_goal.specs.declared.procs.Target.{Target}
use Rattle.proc_goal.specs.declared.procs.Target.TheVariants.{Block, Done}

-- ( var NAME REGISTER )
pub record WritesVariable (form : Form) (var : InputReg) : Type 0 where
  pub first : Form
  pub second : Form
  pub is : IsListOf (codes "var") (first ∷ second ∷ []) form
  pub named : IsNameOf var.name first
  pub placed : IsRegister var.reg second

-- the name of a block, or done
pub data WritesProcTarget (names : List (List ℕ)) (form : Form) : Target → Type 0 where
  done : IsNameOf (codes "done") form → WritesProcTarget names form Done
  block : {at : ℕ} {name : List ℕ} → slice_get names at ≡ Some name → IsNameOf name form
      → WritesProcTarget names form (Block at)

-- [( when term TARGET )], the term a word
pub data WritesWhen (vars : List InputReg) (names : List (List ℕ)) : List Form → Option WhenTree → Type 0 where
  unguarded : WritesWhen vars names [] None
  guarded : {form : Form} {w : WhenTree} (first second : Form)
      → IsListOf (codes "when") (first ∷ second ∷ []) form → Writes (term_scope vars) sorts.Word first w.guard
      → WritesProcTarget names second w.other → WritesWhen vars names (form ∷ []) (Some w)

-- ( set NAME term ), for M, which takes a memory, or for a variable, which takes a word and is pinned to its register
pub record WritesSet (vars : List InputReg) (form : Form) (t : TargetTree) : Type 0 where
  pub first : Form
  pub second : Form
  pub is : IsListOf (codes "set") (first ∷ second ∷ []) form
  pub named : IsNameOf t.name first
  pub pinned : IsPinned vars t.name t.pin
  pub value : Writes (term_scope vars) (sort_of_target t.name) second t.value

-- ( go TARGET )
pub record WritesGo (names : List (List ℕ)) (form : Form) (go : Target) : Type 0 where
  pub first : Form
  pub is : IsListOf (codes "go") (first ∷ []) form
  pub target : WritesProcTarget names first go

-- ( block NAME [when] {set} go )
pub record WritesBlock (vars : List InputReg) (names : List (List ℕ)) (form : Form) (b : BlockTree) : Type 0 where
  pub name_form : Form
  pub whens : List Form
  pub sets : List Form
  pub last : Form
  pub is : IsListOf (codes "block") (name_form ∷ (whens ++ (sets ++ last ∷ []))) form
  pub named : IsNameOf b.name name_form
  pub guard : WritesWhen vars names whens b.when
  pub each_set : Each (WritesSet vars) sets b.sets
  pub go : WritesGo names last b.go

-- ( proc NAME {var} [pool] block {block} ); a pool that isn't given has none of the variables' registers
pub record WritesProc (form : Form) (p : ProcTree) : Type 0 where
  pub name_form : Form
  pub vars : List Form
  pub pools : List Form
  pub blocks : List Form
  pub is : IsListOf (codes "proc") (name_form ∷ (vars ++ (pools ++ blocks))) form
  pub named : IsNameOf p.name name_form
  pub variables : Each WritesVariable vars p.vars
  pub pool : WritesPool (input_registers p.vars) pools p.pool
  pub each_block : Each (WritesBlock p.vars (names_of_blocks p.blocks)) blocks p.blocks
  pub rules : KeepsProcRules p

-- [machine] proc
pub record WritesProcText (forms : List Form) (p : ProcTree) : Type 0 where
  pub machines : List Form
  pub last : Form
  pub are : forms ≡ machines ++ last ∷ []
  pub machine : WritesMachine machines p.table p.builtin
  pub proc : WritesProc last p

-- The text reads as this proc.
pub record ReadsProc (text : List ℕ) (p : ProcTree) : Type 0 where
  pub trees : SexpTrees
  pub has : TextHasTrees text trees
  pub written : WritesProcText (forms_list (forms_of text trees)) p

-- The first fault of a text: of its bytes, else of its parentheses, else of its forms.
pub data IsFirstProcFault (text : List ℕ) : ℕ → Kind → Type 0 where
  in_passes : {place : ℕ} {kind : Kind} → IsFirstReadFault text place kind → IsFirstProcFault text place kind
  in_forms : {place : ℕ} {kind : Kind} (trees : SexpTrees) → TextHasTrees text trees
      → IsFirst (IsProcTextFault (length text) (forms_list (forms_of text trees))) place kind
      → IsFirstProcFault text place kind
