-- What the readers of the parts of a proc promise; no public clause rests on these alone. Source: this project.
use Rattle.std.specs.Prelude.{true, false, ℕ, ◌≡◌, ◌≢◌, ◌<◌, ◌≤◌, List, [], ◌∷◌, ◌++◌, All, AllPairs, length, take, slice_get, codes, Option, Some, None}
use Rattle.text_core.specs.Limits.{most_blocks, most_sets, most_inputs}
use Rattle.text_core.specs.Faults.{IsFirst}
use Rattle.text_core.specs.Names.{is_among}
use Rattle.text_core.specs.declared.faults.Kind.{Kind}
use Rattle.forms.specs.Forms.{Form, name_in, parts_of}
use Rattle.machine_table.specs.Grammar.{Each, WritesTable}
use Rattle.machine_table.specs.Reading.{IsClearTableForm}
use Rattle.machine_table.specs.Roles.{IsMachineFault, has_head, machine}
use Rattle.machine_table.specs.declared.tables.Table.{Table}
use Rattle.goal_meaning.specs.Names.{is_reserved}
use Rattle.goal_meaning.specs.Views.{TargetTree}
use Rattle.goal_meaning.specs.WellFormed.{input_registers}
use Rattle.goal_meaning.specs.declared.goals.InputReg.{InputReg}
use Rattle.goal_reader.specs.Drafts.{AreDifferent}
use Rattle.goal_reader.specs.Reading.{IsClear}
use Rattle.goal_reader.specs.Roles.{IsFaultAs, a_list, pool, registers_in}
use Rattle.proc_goal.specs.ProcGrammar.{WritesVariable, WritesWhen, WritesSet, WritesGo, WritesBlock}
use Rattle.proc_goal.specs.ProcRoles.{ProcRole, a_guard, a_go, not_there, IsProcFaultAs, proc_item_role, step_role, lists_of, has_list, proc_variables_in}
use Rattle.proc_goal.specs.Views.{WhenTree, BlockTree}
use Rattle.proc_goal.specs.WellFormed.{IsPinned}
use Rattle.proc_goal.specs.declared.procs.Target.{Target}

-- the form has no fault in the role
abbrev pub IsClearProc : ProcRole → Form → Type 0
IsClearProc role form = (place : ℕ) (kind : Kind) → IsProcFaultAs role form place kind → ⊥

-- the first fault that it has
abbrev pub IsFirstAs : ProcRole → Form → ℕ → Kind → Type 0
IsFirstAs role form = IsFirst (IsProcFaultAs role form)

-- none of the first so many of the lists has a fault, where each is read as its role behind those before says
abbrev pub AreClearTo : (List Form → Form → ProcRole) → List Form → ℕ → Type 0
AreClearTo role_behind forms n =
    (k : ℕ) (form : Form) → k < n → slice_get forms k ≡ Some form → IsClearProc (role_behind (take k forms) form) form

-- the first fault of the first list that has one
pub record IsFirstAmong (role_behind : List Form → Form → ProcRole) (forms : List Form) (place : ℕ) (kind : Kind)
    : Type 0 where
  pub at : ℕ
  pub form : Form
  pub there : slice_get forms at ≡ Some form
  pub clear : AreClearTo role_behind forms at
  pub first : IsFirstAs (role_behind (take at forms) form) form place kind

-- where the list of this number is there, it doesn't begin with the word
abbrev pub EndsBefore : List ℕ → List Form → ℕ → Type 0
EndsBefore word forms at = (form : Form) → slice_get forms at ≡ Some form → has_head word form ≡ false

-- variables with names and registers of their own
pub record AreVariables (vars : List InputReg) : Type 0 where
  pub names : AllPairs (λ (i j : InputReg). i.name ≢ j.name) vars
  pub own : All (λ (i : InputReg). is_reserved i.name ≡ false) vars
  pub registers : AreDifferent (input_registers vars)

-- the variables at the front of the items
pub record AreLeading (items : List Form) (vars : List InputReg) : Type 0 where
  pub within : length vars ≤ length items
  pub each : Each WritesVariable (take (length vars) items) vars
  pub clear : (names : List (List ℕ)) → AreClearTo (proc_item_role names) items (length vars)
  pub keep : AreVariables vars
  pub few : length vars ≤ most_inputs
  pub ends : EndsBefore (codes "var") items (length vars)

-- a name that can be set, and its pin
pub record IsNameToSet (vars : List InputReg) (given : List (List ℕ)) (form : Form) (name : List ℕ) (pin : Option ℕ)
    : Type 0 where
  pub named : name_in form ≡ Some name
  pub pinned : IsPinned vars name pin
  pub fresh : is_among given name ≡ false

-- the guard at the front of a block's items, where one stands there
pub data IsGuardRead (vars : List InputReg) (names : List (List ℕ)) (items : List Form) : Option WhenTree → Type 0 where
  absent : EndsBefore (codes "when") items 0 → IsGuardRead vars names items None
  there : {w : WhenTree} (form : Form) → slice_get items 0 ≡ Some form → has_head (codes "when") form ≡ true
      → WritesWhen vars names (form ∷ []) (Some w) → IsClearProc (a_guard vars names) form
      → IsGuardRead vars names items (Some w)

pub record IsGuardFault (vars : List InputReg) (names : List (List ℕ)) (items : List Form) (place : ℕ) (kind : Kind)
    : Type 0 where
  pub form : Form
  pub there : slice_get items 0 ≡ Some form
  pub head : has_head (codes "when") form ≡ true
  pub first : IsFirstAs (a_guard vars names) form place kind

-- no set and no go stands at the front
pub record IsGuardFront (front : List Form) : Type 0 where
  pub no_go : has_list (codes "go") front ≡ false
  pub no_set : lists_of (codes "set") front ≡ []

-- the items of a block behind the front, of which those of these sets come first
pub record AreSets (vars : List InputReg) (items : List Form) (sets : List TargetTree) : Type 0 where
  pub within : length sets ≤ length items
  pub each : Each (WritesSet vars) (take (length sets) items) sets
  pub clear : (names : List (List ℕ)) (front : List Form) → IsGuardFront front
      → AreClearTo (λ before form. step_role vars names (front ++ before) form) items (length sets)
  pub differ : AllPairs (λ (s t : TargetTree). s.name ≢ t.name) sets
  pub few : length sets ≤ most_sets
  pub ends : EndsBefore (codes "set") items (length sets)

-- where the next item of a block is no go, nothing else may stand there either
pub record IsEndFront (front items : List Form) : Type 0 where
  pub no_go : has_list (codes "go") front ≡ false
  pub next : (form : Form) → slice_get items 0 ≡ Some form → has_head (codes "go") form ≡ false
      → (vars : List InputReg) (names : List (List ℕ)) → step_role vars names front form ≡ not_there

-- the last item of a block
pub record IsLastItem (names : List (List ℕ)) (items : List Form) (go : Target) : Type 0 where
  pub form : Form
  pub alone : items ≡ form ∷ []
  pub head : has_head (codes "go") form ≡ true
  pub writes : WritesGo names form go
  pub clear : IsClearProc (a_go names) form

-- the pool at the front of a proc's items behind its variables, where one stands there
pub data IsPoolRead (vars : List InputReg) (items : List Form) : Option (List ℕ) → Type 0 where
  absent : EndsBefore (codes "pool") items 0 → IsPoolRead vars items None
  there : {registers : List ℕ} (form : Form) → slice_get items 0 ≡ Some form → has_head (codes "pool") form ≡ true
      → registers ≡ registers_in (parts_of form) → IsClear (a_list (pool (input_registers vars))) form
      → IsPoolRead vars items (Some registers)

pub record IsPoolFault (vars : List InputReg) (items : List Form) (place : ℕ) (kind : Kind) : Type 0 where
  pub form : Form
  pub there : slice_get items 0 ≡ Some form
  pub head : has_head (codes "pool") form ≡ true
  pub first : IsFirst (IsFaultAs (a_list (pool (input_registers vars))) form) place kind

-- these variables stand at the front, and no block; where the next item is no block, nothing else may stand there either
pub record IsProcFront (vars : List InputReg) (front items : List Form) : Type 0 where
  pub variables : proc_variables_in front ≡ vars
  pub no_block : lists_of (codes "block") front ≡ []
  pub next : (form : Form) → slice_get items 0 ≡ Some form → has_head (codes "block") form ≡ false
      → (names : List (List ℕ)) → proc_item_role names front form ≡ not_there

-- blocks with names of their own, the sets of each of which differ
pub record HaveOwnNames (blocks : List BlockTree) : Type 0 where
  pub differ : AllPairs (λ (a b : BlockTree). a.name ≢ b.name) blocks
  pub not_done : All (λ (b : BlockTree). b.name ≢ codes "done") blocks
  pub set_names : All (λ (b : BlockTree). AllPairs (λ (s t : TargetTree). s.name ≢ t.name) b.sets) blocks
  pub few_sets : All (λ (b : BlockTree). length b.sets ≤ most_sets) blocks
  pub few : length blocks ≤ most_blocks

-- the items of a proc behind the front
pub record AreBlocks (vars : List InputReg) (names : List (List ℕ)) (items : List Form) (blocks : List BlockTree)
    : Type 0 where
  pub each : Each (WritesBlock vars names) items blocks
  pub clear : (front : List Form) → IsProcFront vars front items
      → AreClearTo (λ before form. proc_item_role names (front ++ before) form) items (length items)
  pub own : HaveOwnNames blocks

-- the table of a text, where its first form is a machine form
pub data IsTableRead (forms : List Form) : Option Table → Type 0 where
  absent : EndsBefore (codes "machine") forms 0 → IsTableRead forms None
  there : {table : Table} (form : Form) → slice_get forms 0 ≡ Some form → has_head (codes "machine") form ≡ true
      → WritesTable form table → IsClearTableForm machine form → IsTableRead forms (Some table)

pub record IsTableRefused (forms : List Form) (place : ℕ) (kind : Kind) : Type 0 where
  pub form : Form
  pub there : slice_get forms 0 ≡ Some form
  pub head : has_head (codes "machine") form ≡ true
  pub first : IsFirst (IsMachineFault form) place kind
