-- What a form can be read as, its role, and which faults of its own a form has in each role. Source: this project.
use Rattle.std.specs.Prelude.{Bool, true, false, ℕ, zero, suc, ◌≡◌, ◌≢◌, ◌+◌, ◌<◌, ◌||◌, ◌&&◌, ◌-◌, ◌*◌, ◌==◌, nat_lt, nat_le, if◌then◌else◌, List, [], ◌∷◌, ◌++◌, length, map, take, drop, get_or, slice_get, filter, filter_map, codes, bytes_eq, Option, Some, None, option_map, is_some}
use Rattle.std.specs.Option.{option_map_or}
use Rattle.std.specs.List.{cons_option, flat_map, list_any}
use Rattle.text_core.specs.Limits.{most_inputs, most_assumes, most_sets, most_declared, most_axioms, most_goals}
use Rattle.word_ops.specs.Meanings.{arity_of_op, sort_of, operand_sort}
use Rattle.word_ops.specs.declared.sorts.Sort.{Sort}
use Rattle.word_ops.specs.declared.sorts.Sort.TheVariants as sorts
use Rattle.word_ops.specs.declared.sorts.Op.{Op}
use Rattle.word_terms.specs.Tree.{Tree}
use Rattle.text_core.specs.Names.{is_among}
use Rattle.text_core.specs.declared.faults.Kind.{Kind}
use Rattle.text_core.specs.declared.faults.Kind.TheVariants.{BadForm, UnknownName, Twice, WrongArity, WrongSort, BadRegister, BadAxiom, LimitPassed}
use Rattle.forms.specs.Forms.{Form, Forms, Atom, atom, list, none, more, register_in, part, parts_of, name_in, names_in, number_in, head_in, is_list}
use Rattle.forms.specs.Forms as forms
use Rattle.forms.specs.Faults.{IsFault}
use Rattle.machine_table.specs.Roles.{IsMachineFault}
use Rattle.goal_reader.specs.declared.scopes.Scope.{Scope}
use Rattle.goal_meaning.specs.declared.goals.DeclaredOp.{DeclaredOp}
use Rattle.goal_reader.specs.declared.scopes.Named.{Named}
use Rattle.goal_reader.specs.declared.scopes.Named.TheVariants.{Memory, Input, Variable, Lacking, Let}
use Rattle.goal_reader.specs.declared.scopes.Leaf.{Leaf}
use Rattle.goal_meaning.specs.Names.{is_reserved, names_of_declared}
use Rattle.goal_meaning.specs.Rules.{has_register, most_lets}
use Rattle.goal_meaning.specs.declared.goals.InputReg.{InputReg}
use Rattle.word_ops.specs.declared.sorts.Arity.{Arity}
use Rattle.word_ops.specs.declared.sorts.Arity.TheVariants.{One, Two, Three, Four}
use Rattle.goal_reader.specs.Scopes.{SortedName, leaf_named, let_leaves, operator_named, sorted_names}
use Rattle.goal_reader.specs.Terms.{Writes}

infixl 10 ◌>>=◌
abbrev pub ◌>>=◌ : {A B : Type 0} → Option A → (A → Option B) → Option B
None >>= f = None
(Some x) >>= f = f x

-- the operator of an application
abbrev pub operator_in : List DeclaredOp → Form → Option Op
operator_in declared form = head_in form >>= operator_named declared

abbrev pub sort_of_leaf : Named → Sort
sort_of_leaf Memory = sorts.Memory
sort_of_leaf (Let n sort) = sort
sort_of_leaf _ = sorts.Word

abbrev pub sort_of_atom : Scope → Atom → Option Sort
sort_of_atom scope (forms.number n) = Some sorts.Word
sort_of_atom scope (forms.name bytes) = option_map sort_of_leaf (leaf_named scope.leaves bytes)
sort_of_atom scope _ = None

-- the sort of a term, where its own name or its operator tells it
abbrev pub sort_in : Scope → Form → Option Sort
sort_in scope (atom place a) = sort_of_atom scope a
sort_in scope (list place parts) = option_map sort_of (operator_in scope.declared (list place parts))

-- the sort that the part of this number tells
abbrev pub part_sort : Scope → Form → ℕ → Option Sort
part_sort scope form at = part at form >>= sort_in scope

-- a name, a number, or a list that isn't empty
abbrev pub can_be_term : Form → Bool
can_be_term (atom place (forms.name bytes)) = true
can_be_term (atom place (forms.number n)) = true
can_be_term (list place (more form forms)) = true
can_be_term _ = false

-- ---- what the forms before give

abbrev pub is_digit : ℕ → Bool
is_digit b = nat_le 48 b && nat_le b 57

-- the number below 31 that these bytes write in decimal, without a leading zero
unfoldable pub number_of_register : List ℕ → Option ℕ
number_of_register (a ∷ []) = if is_digit a then Some (a - 48) else None
number_of_register (a ∷ b ∷ []) =
    if is_digit a && nat_le 49 a && is_digit b && nat_lt (10 * (a - 48) + (b - 48)) 31
    then Some (10 * (a - 48) + (b - 48)) else None
number_of_register _ = None

-- the register from 0 to 30 that a dollar sign and its number name
abbrev pub register_number : List ℕ → Option ℕ
register_number [] = None
register_number (b ∷ digits) = if b == 36 then number_of_register digits else None

abbrev pub register_of : Form → Option ℕ
register_of form = register_in form >>= register_number

abbrev pub registers_in : List Form → List ℕ
registers_in forms = filter_map register_of forms

-- the keywords of the items of a goal, and of the forms of a text, in their order
abbrev pub goal_keywords : List (List ℕ)
goal_keywords = codes "in" ∷ codes "pool" ∷ codes "let" ∷ codes "assume" ∷ codes "when" ∷ codes "set" ∷ []

abbrev pub text_keywords : List (List ℕ)
text_keywords = codes "machine" ∷ codes "op" ∷ codes "axiom" ∷ codes "goal" ∷ []

abbrev pub rank_from : ℕ → List (List ℕ) → List ℕ → Option ℕ
rank_from at [] word = None
rank_from at (keyword ∷ keywords) word = if bytes_eq keyword word then Some at else rank_from (at + 1) keywords word

-- the place of a list's first word among the keywords
abbrev pub rank : List (List ℕ) → Form → Option ℕ
rank keywords form = head_in form >>= rank_from 0 keywords

abbrev pub is_of_rank : List (List ℕ) → ℕ → Form → Bool
is_of_rank keywords at form = option_map_or (λ r. r == at) (rank keywords form) false

-- the lists of one keyword
abbrev pub of_rank : List (List ℕ) → ℕ → List Form → List Form
of_rank keywords at forms = filter (is_of_rank keywords at) forms

abbrev pub is_later_than : List (List ℕ) → ℕ → Form → Bool
is_later_than keywords at form = option_map_or (λ r. nat_lt at r) (rank keywords form) false

-- the items of a goal stand behind its keyword and its name
abbrev pub items_of_goal : Form → List Form
items_of_goal form = drop 2 (parts_of form)

-- the name that is the second part of a list
abbrev pub second_name : Form → Option (List ℕ)
second_name form = part 1 form >>= name_in

abbrev pub input_in : Form → Option InputReg
input_in form = do
  name ← second_name form
  third ← part 2 form
  register ← register_of third
  Some (record { name = name; reg = register })

abbrev pub inputs_in : List Form → List InputReg
inputs_in items = filter_map input_in (of_rank goal_keywords 0 items)

abbrev pub arity_named : ℕ → Option Arity
arity_named n = if n == 1 then Some One else if n == 2 then Some Two else if n == 3
    then Some Three else if n == 4 then Some Four else None

abbrev pub declaration_in : Form → Option DeclaredOp
declaration_in form = do
  name ← second_name form
  third ← part 2 form
  count ← number_in third
  arity ← arity_named count
  Some (record { name = name; arity = arity })

abbrev pub declared_in : List Form → List DeclaredOp
declared_in forms = filter_map declaration_in (of_rank text_keywords 1 forms)

-- the names that are given as second parts
abbrev pub names_given : List Form → List (List ℕ)
names_given forms = filter_map second_name forms

-- the registers of the pool that the items give
abbrev pub pool_in : List Form → List ℕ
pool_in items = registers_in (flat_map parts_of (of_rank goal_keywords 1 items))

-- a set is pinned where its third part is a register
abbrev pub is_pinned : Form → Bool
is_pinned form = is_some (part 2 form >>= register_in)

-- the number of the part that is its value
abbrev pub value_part : Form → ℕ
value_part form = if is_pinned form then 3 else 2

abbrev pub pin_in : Form → Option ℕ
pin_in form = part 2 form >>= register_of

abbrev pub pins_in : List Form → List ℕ
pins_in items = filter_map pin_in (of_rank goal_keywords 5 items)

-- in a goal a name means an input, and M the memory at entry
abbrev pub goal_scope : List DeclaredOp → List InputReg → Scope
goal_scope declared inputs = record {
  declared = declared;
  leaves = (record { name = codes "M"; named = Memory })
      ∷ map (λ (i : InputReg). record { name = i.name; named = Input i.reg }) inputs;
}

-- and behind lets it may mean one of them
abbrev pub let_scope : List DeclaredOp → List InputReg → List SortedName → Scope
let_scope declared inputs lets = record {
  declared = declared;
  leaves = (goal_scope declared inputs).leaves ++ let_leaves 0 lets;
}

-- what a let is named, and the sort of its term
abbrev pub let_in : Scope → Form → Option SortedName
let_in scope form = do
  name ← second_name form
  sort ← part_sort scope form 2
  Some (record { name = name; sort = sort })

-- the lets of these forms behind other lets, each by what the names before it mean
abbrev pub lets_from : List DeclaredOp → List InputReg → List SortedName → List Form → List SortedName
lets_from declared inputs before [] = before
lets_from declared inputs before (form ∷ forms) =
    lets_from declared inputs (before ++ cons_option (let_in (let_scope declared inputs before) form) []) forms

abbrev pub lets_in : List DeclaredOp → List Form → List SortedName
lets_in declared items = lets_from declared (inputs_in items) [] (of_rank goal_keywords 2 items)

abbrev mutual
  -- the name stands in the form, other than as an operator
  pub mentions : List ℕ → Form → Bool
  mentions name (atom place a) = option_map_or (λ other. bytes_eq other name) (name_in (atom place a)) false
  mentions name (list place none) = false
  mentions name (list place (more head operands)) = mentions_any name operands

  pub mentions_any : List ℕ → Forms → Bool
  mentions_any name none = false
  mentions_any name (more form forms) = mentions name form || mentions_any name forms

abbrev pub numbered_leaves : ℕ → (List ℕ → ℕ → Named) → List (List ℕ) → List Leaf
numbered_leaves n meaning [] = []
numbered_leaves n meaning (name ∷ names) = (record { name = name; named = meaning name n })
    ∷ numbered_leaves (n + 1) meaning names

abbrev pub variables_in : Form → List (List ℕ)
variables_in form = option_map_or (λ list. names_in (parts_of list)) (part 1 form) []

-- in an axiom a name means a variable; on the right side, one that the left side has
abbrev pub left_scope : List DeclaredOp → Form → Scope
left_scope declared form = record {
  declared = declared;
  leaves = numbered_leaves 0 (λ name n. Variable n)
      (variables_in form);
}

abbrev pub right_scope : List DeclaredOp → Form → Scope
right_scope declared form = record {
  declared = declared;
  leaves = numbered_leaves 0 (λ name n. if option_map_or (mentions name) (part 2 form) false
      then Variable n else Lacking) (variables_in form);
}

-- a list of fixed parts behind its keyword, and what it is read among
pub data Shape : Type 0 where
  -- ( in NAME REGISTER ), with the operators that are declared and the inputs before
  input : List DeclaredOp → List InputReg → Shape
  -- ( pool {REGISTER} ), with the registers of the inputs
  pool : List ℕ → Shape
  -- ( let NAME term ), with the names of the inputs and of the lets before
  binding : Scope → List (List ℕ) → Shape
  -- ( assume term term ), ( when term ), and ( set NAME [REGISTER] term ) with the names set before, and with the pool's
  -- registers and the pins before
  assume : Scope → Shape
  guard : Scope → Shape
  set : Scope → List (List ℕ) → List ℕ → Shape
  -- ( goal NAME item.. ), with the names of the goals before
  goal : List DeclaredOp → List (List ℕ) → Shape
  -- ( op NAME NUMBER ), ( axiom ( NAME {NAME} ) term term ), and the list of its variables
  declaration : List DeclaredOp → Shape
  equation : List DeclaredOp → Shape
  variables : List DeclaredOp → Shape

-- what a form is to be read as
pub data Role : Type 0 where
  -- a term, of this sort where one is wanted
  term : Scope → Option Sort → Role
  -- the name of an operator
  operator : List DeclaredOp → Role
  -- the left side of an axiom
  left_side : Scope → Role
  -- a name that isn't one of these
  fresh_name : List (List ℕ) → Role
  -- and that neither an operator of every text nor the memory has
  own_name : List (List ℕ) → Role
  -- a register that isn't one of these
  fresh_register : List ℕ → Role
  -- the number of operands of a declared operator
  an_arity : Role
  a_list : Shape → Role
  -- a machine form, whose faults are those of machine tables
  a_machine : Role
  -- what the grammar doesn't have there, and what stands past a limit
  wrong : Role
  past : Role

-- how many parts a list needs at least, its keyword among them
abbrev pub least_parts : Shape → Form → ℕ
least_parts (input declared inputs) form = 3
least_parts (pool given) form = 1
least_parts (binding scope names) form = 3
least_parts (assume scope) form = 3
least_parts (guard scope) form = 2
least_parts (set scope names taken) form = if is_pinned form then 4 else 3
least_parts (goal declared names) form = 2
least_parts (declaration declared) form = 3
least_parts (equation declared) form = 4
least_parts (variables declared) form = 1

pub data IsOwn : Role → Form → Kind → Type 0 where
  no_term : {scope : Scope} {wanted : Option Sort} {form : Form}
      → can_be_term form ≡ false → IsOwn (term scope wanted) form BadForm
  unknown_name : {scope : Scope} {wanted : Option Sort} {form : Form} {bytes : List ℕ}
      → name_in form ≡ Some bytes → leaf_named scope.leaves bytes ≡ None → IsOwn (term scope wanted) form UnknownName
  wrong_arity : {scope : Scope} {wanted : Option Sort} {form : Form} {op : Op}
      → operator_in scope.declared form ≡ Some op → length (parts_of form) ≢ 1 + arity_of_op op
      → IsOwn (term scope wanted) form WrongArity
  wrong_sort : {scope : Scope} {wanted given : Sort} {form : Form}
      → sort_in scope form ≡ Some given → given ≢ wanted → IsOwn (term scope (Some wanted)) form WrongSort
  lacking : {scope : Scope} {wanted : Option Sort} {form : Form} {bytes : List ℕ}
      → name_in form ≡ Some bytes → leaf_named scope.leaves bytes ≡ Some Lacking
      → IsOwn (term scope wanted) form BadAxiom
  no_operator_name : {declared : List DeclaredOp} {form : Form}
      → name_in form ≡ None → IsOwn (operator declared) form BadForm
  unknown_operator : {declared : List DeclaredOp} {form : Form} {bytes : List ℕ}
      → name_in form ≡ Some bytes → operator_named declared bytes ≡ None → IsOwn (operator declared) form UnknownName
  -- the left side of an axiom is an application
  left_term : {scope : Scope} {form : Form} {kind : Kind}
      → IsOwn (term scope (Some sorts.Word)) form kind → IsOwn (left_side scope) form kind
  no_application : {scope : Scope} {form : Form}
      → is_list form ≡ false → IsOwn (left_side scope) form BadAxiom
  -- names, registers and arities
  no_fresh_name : {names : List (List ℕ)} {form : Form}
      → name_in form ≡ None → IsOwn (fresh_name names) form BadForm
  name_taken : {names : List (List ℕ)} {form : Form} {bytes : List ℕ}
      → name_in form ≡ Some bytes → is_among names bytes ≡ true → IsOwn (fresh_name names) form Twice
  no_own_name : {names : List (List ℕ)} {form : Form}
      → name_in form ≡ None → IsOwn (own_name names) form BadForm
  name_used : {names : List (List ℕ)} {form : Form} {bytes : List ℕ}
      → name_in form ≡ Some bytes → is_reserved bytes || is_among names bytes ≡ true → IsOwn (own_name names) form Twice
  no_register : {given : List ℕ} {form : Form}
      → register_in form ≡ None → IsOwn (fresh_register given) form BadForm
  bad_register : {given : List ℕ} {form : Form} {bytes : List ℕ}
      → register_in form ≡ Some bytes → register_number bytes ≡ None → IsOwn (fresh_register given) form BadRegister
  register_given : {given : List ℕ} {form : Form} {register : ℕ}
      → register_of form ≡ Some register → has_register given register ≡ true → IsOwn (fresh_register given) form Twice
  no_arity : {form : Form} → number_in form ≡ None → IsOwn an_arity form BadForm
  arity_0 : {form : Form} → number_in form ≡ Some 0 → IsOwn an_arity form BadForm
  arity_above : {form : Form} {n : ℕ} → number_in form ≡ Some n → 4 < n → IsOwn an_arity form LimitPassed
  -- lists: a missing part is a fault of its list, and so is a missing set of a goal
  too_few : {shape : Shape} {form : Form}
      → length (parts_of form) < least_parts shape form → IsOwn (a_list shape) form BadForm
  no_set : {declared : List DeclaredOp} {names : List (List ℕ)} {form : Form}
      → list_any (is_of_rank goal_keywords 5) (items_of_goal form) ≡ false
      → IsOwn (a_list (goal declared names)) form BadForm
  wrong_part : {form : Form} → IsOwn wrong form BadForm
  past_limit : {form : Form} → IsOwn past form LimitPassed

-- ---- sequences of lists with keywords

-- how many lists of a keyword there may be, and what one more is
pub record Bound : Type 0 where
  pub most : ℕ
  pub beyond : Role

abbrev pub up_to : ℕ → Role → Bound
up_to most beyond = record { most = most; beyond = beyond }

abbrev pub goal_bounds : List Bound
goal_bounds = up_to most_inputs past ∷ up_to 1 wrong ∷ up_to most_lets past ∷ up_to most_assumes past ∷ up_to 1 wrong
    ∷ up_to most_sets past ∷ []

abbrev pub text_bounds : List Bound
text_bounds = up_to 1 wrong ∷ up_to most_declared past ∷ up_to most_axioms past ∷ up_to most_goals past ∷ []

abbrev pub bound_at : List Bound → ℕ → Bound
bound_at bounds at = get_or bounds at (up_to 0 wrong)

-- A list of a known keyword may stand behind lists of the same or earlier keywords, of the same as many as are allowed.
abbrev pub role_of_rank : List (List ℕ) → List Bound → List Form → (ℕ → Role) → Option ℕ → Role
role_of_rank keywords bounds before inner None = wrong
role_of_rank keywords bounds before inner (Some at) =
    if list_any (is_later_than keywords at) before then wrong
    else if nat_le (bound_at bounds at).most (length (of_rank keywords at before)) then (bound_at bounds at).beyond
    else inner at

abbrev pub role_in : List (List ℕ) → List Bound → List Form → (ℕ → Role) → Form → Role
role_in keywords bounds before inner form = role_of_rank keywords bounds before inner (rank keywords form)

abbrev pub item_role : List DeclaredOp → List Form → ℕ → Role
item_role declared before at =
    let inputs = inputs_in before in
    let lets = lets_in declared before in
    let scope = let_scope declared inputs lets in
    get_or (a_list (input declared inputs) ∷ a_list (pool (map (λ (i : InputReg). i.reg) inputs))
    ∷ a_list (binding scope (map (λ (i : InputReg). i.name) inputs ++ sorted_names lets))
    ∷ a_list (assume scope) ∷ a_list (guard scope)
    ∷ a_list (set scope (names_given (of_rank goal_keywords 5 before)) (pool_in before ++ pins_in before)) ∷ []) at wrong

-- ---- the roles of parts

-- the parts behind the keyword, in order, and no more
abbrev pub listed_role : List Role → ℕ → Option Role
listed_role roles zero = None
listed_role roles (suc at) = Some (get_or roles at wrong)

abbrev pub target_sort : Form → Option Sort
target_sort form = option_map (λ name. if bytes_eq name (codes "M")
    then sorts.Memory else sorts.Word) (second_name form)

-- the pin of a set of this name is a register that isn't one of these; the memory has none
abbrev pub pin_role : List ℕ → Option (List ℕ) → Role
pin_role taken name =
    if option_map_or (λ bytes. bytes_eq bytes (codes "M")) name false then wrong else fresh_register taken

abbrev pub set_roles : Scope → List (List ℕ) → List ℕ → Form → Bool → List Role
set_roles scope names taken form true =
    fresh_name names ∷ pin_role taken (second_name form) ∷ term scope (target_sort form) ∷ []
set_roles scope names taken form false = fresh_name names ∷ term scope (target_sort form) ∷ []

abbrev pub goal_part : List DeclaredOp → List (List ℕ) → Form → ℕ → Option Role
goal_part declared names form zero = None
goal_part declared names form (suc zero) = Some (fresh_name names)
goal_part declared names form (suc (suc at)) =
    option_map (role_in goal_keywords goal_bounds (take at (items_of_goal form)) (item_role declared (take at
    (items_of_goal form)))) (slice_get (items_of_goal form) at)

abbrev pub shape_part : Shape → Form → ℕ → Option Role
shape_part (input declared inputs) form at = listed_role (own_name (names_of_declared declared
    ++ map (λ (i : InputReg). i.name) inputs) ∷ fresh_register (map (λ (i : InputReg). i.reg) inputs) ∷ []) at
shape_part (pool given) form zero = None
shape_part (pool given) form (suc at) = Some (fresh_register (given ++ registers_in (take (suc at) (parts_of form))))
shape_part (binding scope names) form at =
    listed_role (own_name (names_of_declared scope.declared ++ names) ∷ term scope None ∷ []) at
shape_part (assume scope) form at = listed_role (term scope None ∷ term scope (part_sort scope form 1) ∷ []) at
shape_part (guard scope) form at = listed_role (term scope (Some sorts.Word) ∷ []) at
shape_part (set scope names taken) form at = listed_role (set_roles scope names taken form (is_pinned form)) at
shape_part (goal declared names) form at = goal_part declared names form at
shape_part (declaration declared) form at = listed_role (own_name (names_of_declared declared) ∷ an_arity ∷ []) at
shape_part (equation declared) form at = listed_role (a_list (variables declared) ∷ left_side (left_scope declared form)
    ∷ term (right_scope declared form) (Some sorts.Word) ∷ []) at
shape_part (variables declared) form at =
    Some (if nat_lt at 8 then own_name (names_of_declared declared ++ names_in (take at (parts_of form))) else past)

-- The operands of a term are examined where its operator is known, each as a term of the sort that the operator
-- takes there.
abbrev pub term_part : Scope → Form → ℕ → Option Role
term_part scope form zero = Some (operator scope.declared)
term_part scope form (suc at) = option_map (λ op. term scope (Some (operand_sort op at)))
    (operator_in scope.declared form)

abbrev pub part_role : Role → Form → ℕ → Option Role
part_role (term scope wanted) form at = term_part scope form at
part_role (left_side scope) form at = term_part scope form at
part_role (a_list shape) form at = shape_part shape form at
part_role _ form at = None

abbrev pub IsFaultAs : Role → Form → ℕ → Kind → Type 0
IsFaultAs role form = IsFault IsOwn part_role role form

-- no sort is wanted, or this one
abbrev pub IsWanted : Option Sort → Sort → Type 0
IsWanted None sort = Unit {0}
IsWanted (Some wanted) sort = sort ≡ wanted

-- the form writes this term, of a sort that is wanted
pub record WritesTerm (scope : Scope) (wanted : Option Sort) (form : Form) (term : Tree Op) : Type 0 where
  pub sort : Sort
  pub wanted_one : IsWanted wanted sort
  pub writes : Writes scope sort form term

-- the form is an application of this operator without a fault of its own, and its operator is a name
pub record IsApplicationForm (scope : Scope) (wanted : Option Sort) (form : Form) (op : Op) : Type 0 where
  pub known : operator_in scope.declared form ≡ Some op
  pub count : length (parts_of form) ≡ 1 + arity_of_op op
  pub wanted_one : IsWanted wanted (sort_of op)

-- ---- a text

abbrev pub top_role : List Form → ℕ → Role
top_role before at =
    let declared = declared_in before in
    get_or (a_machine ∷ a_list (declaration declared) ∷ a_list (equation declared)
    ∷ a_list (goal declared (names_given (of_rank text_keywords 3 before))) ∷ []) at wrong

-- a fault of the forms of a text: no goal, at the text's length, or one in a form
pub data IsTextFault (size : ℕ) (forms : List Form) : ℕ → Kind → Type 0 where
  no_goal : {place : ℕ} → list_any (is_of_rank text_keywords 3) forms ≡ false → place ≡ size
      → IsTextFault size forms place BadForm
  in_form : {place : ℕ} {kind : Kind} (at : ℕ) (form : Form) → slice_get forms at ≡ Some form
      → IsFaultAs (role_in text_keywords text_bounds (take at forms) (top_role
      (take at forms)) form) form place kind → IsTextFault size forms place kind
  in_machine : {place : ℕ} {kind : Kind} (at : ℕ) (form : Form) → slice_get forms at ≡ Some form
      → role_in text_keywords text_bounds (take at forms) (top_role (take at forms)) form ≡ a_machine
      → IsMachineFault form place kind → IsTextFault size forms place kind
