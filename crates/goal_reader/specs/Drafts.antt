-- A goal that is being read: what each item adds to it, and what the items before give. Source: this project.
use Rattle.std.specs.Prelude.{All, AllPairs, true, false, bytes_eq, ◌≢◌, ◌<◌, ◌≤◌, ℕ, ◌≡◌, ◌-◌, List, [], ◌∷◌, ◌++◌, map, take, length, Option, Some, None}
use Rattle.text_core.specs.Limits.{most_inputs, most_assumes, most_sets}
use Rattle.word_ops.specs.declared.sorts.Sort.{Sort}
use Rattle.word_ops.specs.declared.sorts.Sort.TheVariants as sorts
use Rattle.word_ops.specs.declared.sorts.Op.{Op}
use Rattle.word_terms.specs.View.{tree_of}
use Rattle.word_terms.specs.declared.term.Term.{Term}
use Rattle.forms.specs.Forms.{Form, parts_of}
use Rattle.goal_meaning.specs.declared.goals.DeclaredOp.{DeclaredOp}
use Rattle.goal_reader.specs.declared.scopes.Leaf.{Leaf}
use Rattle.goal_reader.specs.declared.scopes.Scope.{Scope}
use Rattle.goal_reader.specs.declared.scopes.Named.TheVariants.{Input}
use Rattle.goal_reader.specs.declared.scopes.Named.TheVariants as nameds
use Rattle.goal_meaning.specs.declared.goals.InputReg.{InputReg}
use Rattle.goal_meaning.specs.declared.goals.Let.{Let}
use Rattle.goal_meaning.specs.declared.goals.Assume.{Assume}
use Rattle.goal_meaning.specs.declared.goals.Set.{Set}
use Rattle.goal_meaning.specs.declared.goals.Goal.{Goal}
use Rattle.goal_reader.specs.declared.drafts.Draft.{Draft}
use Rattle.goal_reader.specs.Roles as roles
use Rattle.text_core.specs.Names.{is_among}
use Rattle.goal_reader.specs.Roles.{Role, a_list, wrong, let_scope, lets_in, part_sort, inputs_in, input_in, names_given, of_rank, goal_keywords, items_of_goal, second_name, registers_in, pool_in, pin_in, pins_in, value_part}
use Rattle.goal_meaning.specs.Names.{is_reserved, names_of_declared}
use Rattle.std.specs.Prelude.{get_or, codes}
use Rattle.goal_reader.specs.Scopes.{sorted_names}
use Rattle.goal_meaning.specs.Rules.{default_pool, most_lets}
use Rattle.goal_reader.specs.Grammar.{IsRegister, WritesInput, WritesLets, WritesAssume, WritesGuard, WritesTarget, sorted_from}
use Rattle.machine_table.specs.Grammar.{Each, IsListOf}
use Rattle.goal_meaning.specs.Views.{let_view, assume_view, target_view}
use Rattle.std.specs.Prelude.{option_map}
use Rattle.goal_reader.specs.Reading.{WritesPart, names_of_inputs, names_of_lets, names_of_targets, pins_of_targets}
use Rattle.goal_meaning.specs.WellFormed.{input_registers, sort_of_target}

abbrev pub input_leaf : InputReg → Leaf
input_leaf i = record { name = i.name; named = Input i.reg }

abbrev pub with_input : Draft → InputReg → Draft
with_input d i = record {
  scope = record { declared = d.scope.declared; leaves = d.scope.leaves ++ input_leaf i ∷ [] };
  inputs = d.inputs ++ i ∷ [];
  pool = d.pool;
  lets = d.lets;
  assumes = d.assumes;
  guard = d.guard;
  sets = d.sets;
}

abbrev pub with_pool : Draft → List ℕ → Draft
with_pool d registers = record {
  scope = d.scope;
  inputs = d.inputs;
  pool = Some registers;
  lets = d.lets;
  assumes = d.assumes;
  guard = d.guard;
  sets = d.sets;
}

abbrev pub let_leaf : ℕ → List ℕ → Sort → Leaf
let_leaf at name sort = record { name = name; named = nameds.Let at sort }

-- the lets are numbered in their order
abbrev pub with_let : Draft → Let → Sort → Draft
with_let d one sort = record {
  scope = record {
    declared = d.scope.declared;
    leaves = d.scope.leaves ++ let_leaf (length d.lets) one.name sort ∷ [];
  };
  inputs = d.inputs;
  pool = d.pool;
  lets = d.lets ++ one ∷ [];
  assumes = d.assumes;
  guard = d.guard;
  sets = d.sets;
}

abbrev pub with_assume : Draft → Assume → Draft
with_assume d one = record {
  scope = d.scope;
  inputs = d.inputs;
  pool = d.pool;
  lets = d.lets;
  assumes = d.assumes ++ one ∷ [];
  guard = d.guard;
  sets = d.sets;
}

abbrev pub with_guard : Draft → Term Op → Draft
with_guard d term = record {
  scope = d.scope;
  inputs = d.inputs;
  pool = d.pool;
  lets = d.lets;
  assumes = d.assumes;
  guard = Some term;
  sets = d.sets;
}

abbrev pub with_target : Draft → Set → Draft
with_target d one = record {
  scope = d.scope;
  inputs = d.inputs;
  pool = d.pool;
  lets = d.lets;
  assumes = d.assumes;
  guard = d.guard;
  sets = d.sets ++ one ∷ [];
}

-- what an item with the keyword of this number adds
pub data IsNext (form : Form) (d : Draft) : ℕ → Draft → Type 0 where
  input : {next : Draft} (i : InputReg) → input_in form ≡ Some i → next ≡ with_input d i → IsNext form d 0 next
  pool : {next : Draft} (registers : List ℕ) → registers ≡ registers_in (parts_of form)
      → next ≡ with_pool d registers → IsNext form d 1 next
  binding : {next : Draft} (one : Let) (sort : Sort)
      → second_name form ≡ Some one.name → WritesPart d.scope None form 2 (tree_of one.value)
      → part_sort d.scope form 2 ≡ Some sort → next ≡ with_let d one sort → IsNext form d 2 next
  assume : {next : Draft} (one : Assume)
      → WritesPart d.scope None form 1 (tree_of one.left)
      → WritesPart d.scope (part_sort d.scope form 1) form 2 (tree_of one.right)
      → next ≡ with_assume d one → IsNext form d 3 next
  guard : {next : Draft} (term : Term Op)
      → WritesPart d.scope (Some sorts.Word) form 1 (tree_of term) → next ≡ with_guard d term → IsNext form d 4 next
  target : {next : Draft} (one : Set)
      → second_name form ≡ Some one.name → pin_in form ≡ one.pin
      → WritesPart d.scope (Some (sort_of_target one.name)) form (value_part form) (tree_of one.value)
      → next ≡ with_target d one → IsNext form d 5 next

-- the registers of a pool, none where there is none yet
abbrev pub pool_read : Option (List ℕ) → List ℕ
pool_read None = []
pool_read (Some registers) = registers

-- what an item with the keyword of this number is read as, behind what was read
abbrev pub draft_role : Draft → ℕ → Role
draft_role d at =
    get_or (a_list (roles.input d.scope.declared d.inputs) ∷ a_list (roles.pool (input_registers d.inputs))
    ∷ a_list (roles.binding d.scope (names_of_inputs d.inputs ++ names_of_lets d.lets))
    ∷ a_list (roles.assume d.scope) ∷ a_list (roles.guard d.scope)
    ∷ a_list (roles.set d.scope (names_of_targets d.sets) (pool_read d.pool ++ pins_of_targets d.sets)) ∷ []) at wrong

-- the draft is that of the items before
pub record IsDraft (declared : List DeclaredOp) (before : List Form) (d : Draft) : Type 0 where
  pub scope : d.scope ≡ let_scope declared (inputs_in before) (lets_in declared before)
  pub inputs : d.inputs ≡ inputs_in before
  pub lets : names_of_lets d.lets ≡ sorted_names (lets_in declared before)
  pub pool : pool_read d.pool ≡ pool_in before
  pub pins : pins_of_targets d.sets ≡ pins_in before
  pub targets : names_of_targets d.sets ≡ names_given (of_rank goal_keywords 5 before)

-- the items before the part of this number
abbrev pub items_before : Form → ℕ → List Form
items_before form at = take (at - 2) (items_of_goal form)

abbrev pub names_of_goals : List Goal → List (List ℕ)
names_of_goals goals = map (λ (g : Goal). g.name) goals

-- [ ( pool {REGISTER} ) ], where the pool that isn't given is still open
pub data IsPoolWritten : List Form → Option (List ℕ) → Type 0 where
  no_pool : IsPoolWritten [] None
  one_pool : {form : Form} {registers : List ℕ} (forms : List Form)
      → IsListOf (codes "pool") forms form → Each (λ f r. IsRegister r f) forms registers
      → IsPoolWritten (form ∷ []) (Some registers)

abbrev pub IsAssumed : Scope → Form → Assume → Type 0
IsAssumed scope form one = WritesAssume scope form (assume_view one)

abbrev pub IsTargeted : Scope → Form → Set → Type 0
IsTargeted scope form one = WritesTarget scope form (target_view one)

-- the items before stand in order, and each group writes what the draft has of it
pub record IsWritten (before : List Form) (d : Draft) : Type 0 where
  pub sorted : before ≡ of_rank goal_keywords 0 before ++ (of_rank goal_keywords 1 before
      ++ (of_rank goal_keywords 2 before ++ (of_rank goal_keywords 3 before
      ++ (of_rank goal_keywords 4 before ++ of_rank goal_keywords 5 before))))
  pub inputs : Each WritesInput (of_rank goal_keywords 0 before) d.inputs
  pub pool : IsPoolWritten (of_rank goal_keywords 1 before) d.pool
  pub lets : WritesLets d.scope.declared d.inputs [] (of_rank goal_keywords 2 before) (map let_view d.lets)
  pub scope : d.scope ≡ let_scope d.scope.declared d.inputs (sorted_from [] (map let_view d.lets))
  pub assumptions : Each (IsAssumed d.scope) (of_rank goal_keywords 3 before) d.assumes
  pub guard : WritesGuard d.scope (of_rank goal_keywords 4 before) (option_map tree_of d.guard)
  pub targets : Each (IsTargeted d.scope) (of_rank goal_keywords 5 before) d.sets

-- the pool that a goal has: the one that was read, or else the default one, without the registers that are taken
abbrev pub pool_kept : List ℕ → Option (List ℕ) → List ℕ
pool_kept taken None = default_pool taken
pool_kept taken (Some registers) = registers

-- registers from 0 to 30, each of which stands once
pub record AreDifferent (registers : List ℕ) : Type 0 where
  pub pairs : AllPairs (λ a b. a ≢ b) registers
  pub low : All (λ r. r < 31) registers

-- the names and registers that were read keep the rules of a goal, and so do the numbers of items
pub record KeepsSoFar (declared : List DeclaredOp) (d : Draft) : Type 0 where
  pub input_names : AllPairs (λ (i j : InputReg). i.name ≢ j.name) d.inputs
  pub own_names : All (λ (i : InputReg). is_reserved i.name ≡ false) d.inputs
  pub not_declared : All (λ (i : InputReg). is_among (names_of_declared declared) i.name ≡ false) d.inputs
  pub leaf_names : AllPairs (λ m n. m ≢ n) (names_of_inputs d.inputs ++ names_of_lets d.lets)
  pub own_lets : All (λ n. (is_reserved n ≡ false) × (is_among (names_of_declared declared) n ≡ false))
      (names_of_lets d.lets)
  pub few_lets : length d.lets ≤ most_lets
  pub registers : AreDifferent (input_registers d.inputs ++ pool_read d.pool)
  pub pins : AreDifferent (pool_read d.pool ++ pins_of_targets d.sets)
  pub unpinned : All (λ (t : Set). bytes_eq t.name (codes "M") ≡ true → t.pin ≡ None) d.sets
  pub targets : AllPairs (λ (s t : Set). s.name ≢ t.name) d.sets
  pub few : (length d.inputs ≤ most_inputs) × (length d.assumes ≤ most_assumes) × (length d.sets ≤ most_sets)
