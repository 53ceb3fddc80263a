-- What a form of a proc can be read as, its role, and which faults of its own a form has in each role. Source: this
-- project.
use Rattle.std.specs.Prelude.{Bool, true, false, ℕ, zero, suc, ◌≡◌, ◌<◌, ◌||◌, ◌&&◌, ◌==◌, not, nat_lt, if◌then◌else◌, List, [], ◌∷◌, length, map, take, get_or, slice_get, filter, filter_map, codes, Option, Some, None, option_map}
use Rattle.std.specs.List.{list_any}
use Rattle.text_core.specs.Limits.{most_inputs, most_blocks, most_sets}
use Rattle.text_core.specs.Names.{is_among}
use Rattle.text_core.specs.declared.faults.Kind.{Kind}
use Rattle.text_core.specs.declared.faults.Kind.TheVariants.{BadForm, UnknownName, Twice}
use Rattle.forms.specs.Forms.{Form, name_in, parts_of}
use Rattle.forms.specs.Faults.{IsFault}
use Rattle.machine_table.specs.Roles.{TableRole, IsOwnTableFault, machine, has_head, table_part_role}
use Rattle.word_ops.specs.declared.sorts.Sort.TheVariants as sorts
use Rattle.goal_meaning.specs.WellFormed.{input_registers}
use Rattle.goal_meaning.specs.declared.goals.InputReg.{InputReg}
use Rattle.goal_reader.specs.GoalTerms.{term_scope}
use Rattle.goal_reader.specs.Reading.{names_of_inputs}
use Rattle.goal_reader.specs.Roles.{Role, IsOwn, part_role, term, fresh_name, a_list, input, pool, wrong, past, input_in, items_of_goal, names_given, target_sort}

-- ---- what the forms say

-- the lists that begin with this word
abbrev pub lists_of : List ℕ → List Form → List Form
lists_of word forms = filter (has_head word) forms

abbrev pub has_list : List ℕ → List Form → Bool
has_list word forms = list_any (has_head word) forms

abbrev pub proc_variables_in : List Form → List InputReg
proc_variables_in items = filter_map input_in (lists_of (codes "var") items)

-- the names of the blocks; a block past the limit isn't examined, and has none
abbrev pub block_names_in : List Form → List (List ℕ)
block_names_in items = names_given (take most_blocks (lists_of (codes "block") items))

-- behind a pool or a block stands no variable
abbrev pub ends_variables : Form → Bool
ends_variables item = has_head (codes "pool") item || has_head (codes "block") item

-- a variable stands where it may
abbrev pub has_leading_variable : List Form → Bool
has_leading_variable [] = false
has_leading_variable (item ∷ items) =
    if has_head (codes "var") item then true else if ends_variables item then false else has_leading_variable items

-- ---- roles

pub data ProcRole : Type 0 where
  -- what goals have too, and what machine tables are made of
  of_goal : Role → ProcRole
  of_table : TableRole → ProcRole
  -- ( proc NAME {( var NAME REGISTER )} [pool] block {block} )
  a_proc : ProcRole
  -- ( block NAME [( when term TARGET )] {( set NAME term )} ( go TARGET ) ), with the variables, the names of all blocks,
  -- and those of the blocks before
  a_block : List InputReg → List (List ℕ) → List (List ℕ) → ProcRole
  a_guard : List InputReg → List (List ℕ) → ProcRole
  -- with the variables, and the names set before
  a_set : List InputReg → List (List ℕ) → ProcRole
  a_go : List (List ℕ) → ProcRole
  -- the name of one of these blocks, or done
  a_target : List (List ℕ) → ProcRole
  -- the name of one of these variables, or M, and none of these names
  set_name : List InputReg → List (List ℕ) → ProcRole

-- what can be set
abbrev pub names_to_set : List InputReg → List (List ℕ)
names_to_set vars = codes "M" ∷ names_of_inputs vars

pub data IsOwnProcFault : ProcRole → Form → Kind → Type 0 where
  goal_fault : {role : Role} {form : Form} {kind : Kind} → IsOwn role form kind → IsOwnProcFault (of_goal role) form kind
  table_fault : {role : TableRole} {form : Form} {kind : Kind}
      → IsOwnTableFault role form kind → IsOwnProcFault (of_table role) form kind
  -- a missing part is a fault of its list
  no_variable : {form : Form} → has_leading_variable (items_of_goal form) ≡ false → IsOwnProcFault a_proc form BadForm
  no_block : {form : Form} → has_list (codes "block") (items_of_goal form) ≡ false → IsOwnProcFault a_proc form BadForm
  no_go : {vars : List InputReg} {names before : List (List ℕ)} {form : Form}
      → has_list (codes "go") (items_of_goal form) ≡ false → IsOwnProcFault (a_block vars names before) form BadForm
  short_guard : {vars : List InputReg} {names : List (List ℕ)} {form : Form}
      → length (parts_of form) < 3 → IsOwnProcFault (a_guard vars names) form BadForm
  short_set : {vars : List InputReg} {given : List (List ℕ)} {form : Form}
      → length (parts_of form) < 3 → IsOwnProcFault (a_set vars given) form BadForm
  short_go : {names : List (List ℕ)} {form : Form} → length (parts_of form) < 2 → IsOwnProcFault (a_go names) form BadForm
  -- targets
  no_target : {names : List (List ℕ)} {form : Form} → name_in form ≡ None → IsOwnProcFault (a_target names) form BadForm
  unknown_target : {names : List (List ℕ)} {form : Form} {bytes : List ℕ}
      → name_in form ≡ Some bytes → is_among (codes "done" ∷ names) bytes ≡ false
      → IsOwnProcFault (a_target names) form UnknownName
  -- what is set
  no_set_name : {vars : List InputReg} {given : List (List ℕ)} {form : Form}
      → name_in form ≡ None → IsOwnProcFault (set_name vars given) form BadForm
  unknown_set : {vars : List InputReg} {given : List (List ℕ)} {form : Form} {bytes : List ℕ}
      → name_in form ≡ Some bytes → is_among (names_to_set vars) bytes ≡ false
      → IsOwnProcFault (set_name vars given) form UnknownName
  set_again : {vars : List InputReg} {given : List (List ℕ)} {form : Form} {bytes : List ℕ}
      → name_in form ≡ Some bytes → is_among given bytes ≡ true → IsOwnProcFault (set_name vars given) form Twice

-- ---- the roles of parts

abbrev pub not_there : ProcRole
not_there = of_goal wrong

-- as many of these as are allowed, and one more is past the limit
abbrev pub role_up_to : ℕ → List Form → ProcRole → ProcRole
role_up_to most before role = if nat_lt (length before) most then role else of_goal past

abbrev pub variable_role : List Form → ProcRole
variable_role before =
    if list_any ends_variables before then not_there
    else role_up_to most_inputs (lists_of (codes "var") before) (of_goal (a_list (input [] (proc_variables_in before))))

abbrev pub pool_role : List Form → ProcRole
pool_role before =
    if list_any ends_variables before then not_there
    else of_goal (a_list (pool (input_registers (proc_variables_in before))))

abbrev pub block_role : List (List ℕ) → List Form → ProcRole
block_role names before =
    role_up_to most_blocks (lists_of (codes "block") before)
    (a_block (proc_variables_in before) names (names_given (lists_of (codes "block") before)))

-- an item of a proc behind others, among blocks of these names
abbrev pub proc_item_role : List (List ℕ) → List Form → Form → ProcRole
proc_item_role names before form =
    if has_head (codes "var") form then variable_role before
    else if has_head (codes "pool") form then pool_role before
    else if has_head (codes "block") form then block_role names before else not_there

abbrev pub set_role : List InputReg → List Form → ProcRole
set_role vars before =
    if has_list (codes "go") before then not_there
    else role_up_to most_sets (lists_of (codes "set") before) (a_set vars (names_given (lists_of (codes "set") before)))

-- an item of a block behind others
abbrev pub step_role : List InputReg → List (List ℕ) → List Form → Form → ProcRole
step_role vars names before form =
    if has_head (codes "when") form then (if length before == 0 then a_guard vars names else not_there)
    else if has_head (codes "set") form then set_role vars before
    else if has_head (codes "go") form then (if has_list (codes "go") before then not_there else a_go names)
    else not_there

-- the parts behind the keyword, in order, and no more
abbrev pub listed_part : List ProcRole → ℕ → Option ProcRole
listed_part roles zero = None
listed_part roles (suc at) = Some (get_or roles at not_there)

abbrev pub proc_part : Form → ℕ → Option ProcRole
proc_part form zero = None
proc_part form (suc zero) = Some (of_goal (fresh_name []))
proc_part form (suc (suc at)) =
    option_map (proc_item_role (block_names_in (items_of_goal form)) (take at (items_of_goal form)))
    (slice_get (items_of_goal form) at)

-- a block's name is neither done nor that of a block before
abbrev pub block_part : List InputReg → List (List ℕ) → List (List ℕ) → Form → ℕ → Option ProcRole
block_part vars names before form zero = None
block_part vars names before form (suc zero) = Some (of_goal (fresh_name (codes "done" ∷ before)))
block_part vars names before form (suc (suc at)) =
    option_map (step_role vars names (take at (items_of_goal form))) (slice_get (items_of_goal form) at)

abbrev pub proc_part_role : ProcRole → Form → ℕ → Option ProcRole
proc_part_role (of_goal role) form at = option_map of_goal (part_role role form at)
proc_part_role (of_table role) form at = option_map of_table (table_part_role role form at)
proc_part_role a_proc form at = proc_part form at
proc_part_role (a_block vars names before) form at = block_part vars names before form at
proc_part_role (a_guard vars names) form at =
    listed_part (of_goal (term (term_scope vars) (Some sorts.Word)) ∷ a_target names ∷ []) at
proc_part_role (a_set vars given) form at =
    listed_part (set_name vars given ∷ of_goal (term (term_scope vars) (target_sort form)) ∷ []) at
proc_part_role (a_go names) form at = listed_part (a_target names ∷ []) at
proc_part_role _ form at = None

abbrev pub IsProcFaultAs : ProcRole → Form → ℕ → Kind → Type 0
IsProcFaultAs role form = IsFault IsOwnProcFault proc_part_role role form

-- ---- a text

-- a form behind others: a machine form at the front, and then a proc, and nothing else
abbrev pub proc_text_role : List Form → Form → ProcRole
proc_text_role before form =
    if has_head (codes "machine") form && (length before == 0) then of_table machine
    else if has_head (codes "proc") form && not (has_list (codes "proc") before) then a_proc
    else not_there

-- a fault of the forms of a text: no proc, at the text's length, or one in a form
pub data IsProcTextFault (size : ℕ) (forms : List Form) : ℕ → Kind → Type 0 where
  no_proc : {place : ℕ} → has_list (codes "proc") forms ≡ false → place ≡ size
      → IsProcTextFault size forms place BadForm
  in_form : {place : ℕ} {kind : Kind} (at : ℕ) (form : Form) → slice_get forms at ≡ Some form
      → IsProcFaultAs (proc_text_role (take at forms) form) form place kind → IsProcTextFault size forms place kind
