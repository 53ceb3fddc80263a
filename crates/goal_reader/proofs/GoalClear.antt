-- A form that writes a goal has no fault.
use Rattle.std.proofs.Common.{◌≡◌, ◌≢◌, ℕ, zero, suc, ◌+◌, ◌-◌, ◌<◌, ◌≤◌, ◌||◌, ◌++◌, ◌==◌, if◌then◌else◌, Bool, true, false, All, Option, None, Some, List, [], ◌∷◌, map, length, take, get_or, slice_get, refl, sym, ap, ap₂, ◌∙◌, subst, arith, bytes_eq, codes, length-append}
use Rattle.std.specs.Prelude.{AllPairs, is_some}
use Rattle.std.specs.List.{list_any, cons_option}
use Rattle.std.specs.Option.{option_map_or}
use Rattle.std.proofs.lemmas.Bool.Decides.{nat_tests}
use Rattle.std.proofs.lemmas.List.{append-nil, append_assoc, map-append}
use Rattle.word_ops.specs.declared.sorts.Sort.TheVariants as sorts
use Rattle.forms.specs.Forms.{Form, atom, name, parts_of, name_in, register_in}
use Rattle.forms.proofs.First.{no_fault}
use Rattle.machine_table.specs.Grammar.{Each, more_of, IsListOf}
use Rattle.text_core.specs.declared.faults.Kind.{Kind}
use Rattle.goal_meaning.specs.declared.goals.InputReg.{InputReg}
use Rattle.goal_reader.specs.declared.order.Admission.TheVariants.{Admitted}
use Rattle.goal_meaning.specs.declared.goals.DeclaredOp.{DeclaredOp}
use Rattle.goal_reader.specs.declared.scopes.Scope.{Scope}
use Rattle.goal_reader.specs.Grammar.{IsRegister, WritesInput, WritesLet, WritesLets, one_let, sorted_let, sorted_from, scope_of_goal, WritesPool, WritesAssume, WritesGuard, WritesPin, WritesTarget, WritesGoal, absent, given, pinned, unpinned, unguarded, guarded}
use Rattle.goal_reader.specs.Reading.{IsClear, names_of_inputs}
use Rattle.goal_meaning.specs.WellFormed.{input_registers, sort_of_target}
use Rattle.goal_reader.specs.Roles as roles
use Rattle.text_core.specs.Names.{is_among}
use Rattle.goal_reader.specs.Roles.{Role, a_list, wrong, IsOwn, too_few, part_role, own_name, fresh_name, fresh_register, term, rank, of_rank, is_of_rank, goal_keywords, goal_bounds, bound_at, items_of_goal, item_role, role_in, let_scope, let_in, lets_in, inputs_in, names_given, registers_in, is_pinned, listed_role, pin_role, pins_in, pool_in, set_roles, target_sort, WritesTerm, second_name, register_of}
use Rattle.goal_meaning.specs.Names.{is_reserved, names_of_declared}
use Rattle.goal_meaning.specs.Rules.{has_register, most_lets, pins_of}
use Rattle.goal_meaning.specs.Views.{LetTree, TwoTrees, TargetTree, GoalTree}
use Rattle.goal_reader.proofs.Admitting.{role_told}
use Rattle.goal_reader.proofs.Apart.{writes_clear}
use Rattle.goal_reader.proofs.Different.{pairs_back}
use Rattle.goal_reader.proofs.GoalSteps.{filter_more, got_dropped, goal_clear, item_at, no_lets_more, one_let_in, other_inputs, other_lets, other_pins, other_pool, other_targets, one_input, one_pin, one_pool, one_target, mapped_more}
use Rattle.goal_reader.proofs.Names.{not_true}
use Rattle.goal_reader.proofs.NewNames.{own_name_clear, fresh_name_clear, fresh_register_clear, input_only, guard_only, set_only, target_sort_told, among_both}
use Rattle.goal_reader.proofs.ReadParts.{input_told, input_ranked, no_register_writes, register_told, assume_ranked, pin_told, target_ranked, target_named, parts_are, items_are, all_sets, goal_told}
use Rattle.goal_reader.proofs.ReadParts as read
use Rattle.goal_reader.proofs.Sorts.{assume_only, binding_only, sort_of_part}
use Rattle.goal_reader.proofs.Keeping.{itself}
use Rattle.goal_reader.proofs.LetScopes.{from_more, names_from}
use Rattle.goal_reader.proofs.LetForms.{let_ranked, let_told}
use Rattle.goal_reader.proofs.Ranks.{none_of}
use Rattle.goal_reader.specs.Scopes.{SortedName, sorted_names}
use Rattle.goal_meaning.specs.Expanded.{let_names}
use Rattle.goal_reader.proofs.Grouped.{AllOf, listed_rank}
use Rattle.goal_reader.proofs.Heads.{list_from}
use Rattle.goal_reader.proofs.WrittenItems.{fewer_than_one}
use Rattle.goal_reader.proofs.Walks.{EachClear, parts_clear, no_role, as_role, Walk, walk_at, walk_both, group_walk, Behind, behind_more, behind_next, name_new, register_new}

-- ---- one item
or_both : (a b : Bool) → a ≡ false → b ≡ false → a || b ≡ false
or_both a b e f = ap₂ (λ x y. x || y) e f

pub input_clear : (declared : List DeclaredOp) (inputs : List InputReg) (form : Form) (i : InputReg) → WritesInput form i → is_reserved i.name ≡ false → is_among (names_of_declared declared) i.name ≡ false
    → is_among (names_of_inputs inputs) i.name ≡ false → has_register (input_registers inputs) i.reg ≡ false → IsClear (a_list (roles.input declared inputs)) form
input_clear declared inputs form i w own not_declared fresh free =
    let names = names_of_declared declared ++ names_of_inputs inputs in
    let among : is_among names i.name ≡ false = among_both (names_of_declared declared) (names_of_inputs inputs) i.name ∙ or_both _ _ not_declared fresh in
    let parts = ap parts_of w.is.is in
    parts_clear (a_list (roles.input declared inputs)) form _ parts (λ k o. let l = input_only declared inputs form k o in let n = ap length parts in omega (arith, l, n)) (
      (λ other e. no_role other _ e),
      (
        (λ other e. as_role (own_name names) w.first (own_name_clear names w.first i.name (record { named = ap name_in w.named.is; free = or_both _ _ own among })) other e),
        ((λ other e. as_role (fresh_register (input_registers inputs)) w.second (fresh_register_clear (input_registers inputs) w.second i.reg (register_told w.second i.reg w.placed) free) other e), tt),
      ),
    )

-- registers behind others
pool_each : (role : Role) (form : Form) (inputs before : List ℕ) (h : Form) (fs : List Form) (rs : List ℕ) (all : List ℕ) → (at : ℕ) → Each (λ f r. IsRegister r f) fs rs → all ≡ (inputs ++ before) ++ rs → AllPairs (λ a b. a ≢ b) all
    → ((j : ℕ) → part_role role form (suc (at + j)) ≡ Some (fresh_register (inputs ++ (before ++ registers_in (take j fs))))) → EachClear role form (suc at) fs
pool_each role form inputs before h [] [] all at e is apart each = tt
pool_each role form inputs before h [] (r ∷ rs) all at e is apart each = elim e [ ]
pool_each role form inputs before h (f ∷ fs) [] all at e is apart each = elim e [ ]
pool_each role form inputs before h (f ∷ fs) (r ∷ rs) all at (more_of one others) is apart each =
    let told = register_told f r one in
    let new = register_new all (inputs ++ before) r rs is apart in
    let here : part_role role form (suc at) ≡ Some (fresh_register (inputs ++ before)) =
    ap (λ n. part_role role form (suc n)) (let e : at ≡ at + 0 = omega arith in e) ∙ each 0 ∙ ap (λ rs. Some (fresh_register (inputs ++ rs))) (append-nil before) in
    let more : (before ++ r ∷ []) ++ [] ≡ before ++ r ∷ [] = append-nil (before ++ r ∷ []) in (
      (λ other e. as_role (fresh_register (inputs ++ before)) f (fresh_register_clear (inputs ++ before) f r told new) other (sym here ∙ e)),
      pool_each role form inputs (before ++ r ∷ []) h fs rs all (suc at) others
          (is ∙ sym (append_assoc (inputs ++ before) (r ∷ []) rs) ∙ ap (λ xs. xs ++ rs) (append_assoc inputs before (r ∷ []))) apart
          (λ j. ap (λ n. part_role role form (suc n)) (let e : suc at + j ≡ at + suc j = omega arith in e) ∙ each (suc j)
          ∙ ap (λ o. Some (fresh_register (inputs ++ (before ++ cons_option o (registers_in (take j fs)))))) told ∙ ap (λ xs. Some (fresh_register (inputs ++ xs))) (sym (append_assoc before (r ∷ []) (registers_in (take j fs))))),
    )

pub pool_clear : (inputs : List ℕ) (form : Form) (forms : List Form) (rs : List ℕ) → IsListOf (codes "pool") forms form → Each (λ f r. IsRegister r f) forms rs → AllPairs (λ a b. a ≢ b) (inputs ++ rs) → IsClear (a_list (roles.pool inputs)) form
pool_clear inputs form forms rs is each apart =
    let role = a_list (roles.pool inputs) in
    let h : Form = atom is.head_place (name (codes "pool")) in
    let parts : parts_of form ≡ h ∷ forms = ap parts_of is.is ∙ ap (λ fs. h ∷ fs) (list_from forms) in
    parts_clear role form (h ∷ forms) parts (λ k o. no_own k o (ap length parts)) (
      (λ other e. no_role other _ e),
      pool_each role form inputs [] h forms rs (inputs ++ rs) 0 each (ap (λ xs. xs ++ rs) (sym (append-nil inputs))) apart
          (λ j. ap (part_role role form) (let e : suc (0 + j) ≡ suc j = omega arith in e) ∙ ap (λ fs. Some (fresh_register (inputs ++ registers_in (take (suc j) fs)))) parts),
    )
  where
    no_own : (k : Kind) → IsOwn (a_list (roles.pool inputs)) form k → length (parts_of form) ≡ suc (length forms) → ⊥
    no_own k (too_few l) n = omega (arith, l, n)

each_register : (fs : List Form) (rs : List ℕ) → Each (λ f r. IsRegister r f) fs rs → registers_in fs ≡ rs
each_register [] [] e = refl
each_register [] (r ∷ rs) e = elim e [ ]
each_register (f ∷ fs) [] e = elim e [ ]
each_register (f ∷ fs) (r ∷ rs) (more_of one others) = ap₂ (λ o xs. cons_option o xs) (register_told f r one) (each_register fs rs others)

module _ (scope : Scope) where
  pub binding_clear : (names : List (List ℕ)) (form : Form) (l : LetTree) → WritesLet scope form l → is_reserved l.name ≡ false → is_among (names_of_declared scope.declared) l.name ≡ false → is_among names l.name ≡ false → IsClear (a_list (roles.binding scope names)) form
  binding_clear names form l w own not_declared fresh =
      let all = names_of_declared scope.declared ++ names in
      let among : is_among all l.name ≡ false = among_both (names_of_declared scope.declared) names l.name ∙ or_both _ _ not_declared fresh in
      let parts = ap parts_of w.is.is in
      parts_clear (a_list (roles.binding scope names)) form _ parts (λ k o. let c = binding_only scope names form k o in let n = ap length parts in omega (arith, c, n)) (
        (λ other e. no_role other _ e),
        (
          (λ other e. as_role (own_name all) w.first (own_name_clear all w.first l.name (record { named = ap name_in w.named.is; free = or_both _ _ own among })) other e),
          ((λ other e. as_role (term scope None) w.second (writes_clear w.value None tt) other e), tt),
        ),
      )

  pub assume_clear : (form : Form) (a : TwoTrees) → WritesAssume scope form a → IsClear (a_list (roles.assume scope)) form
  assume_clear form a w =
      let parts = ap parts_of w.is.is in
      let same = sort_of_part scope form w.first 1 (ap (λ ps. slice_get ps 1) parts) w.left in
      parts_clear (a_list (roles.assume scope)) form _ parts (λ k o. let l = assume_only scope form k o in let n = ap length parts in omega (arith, l, n)) (
        (λ other e. no_role other _ e),
        (
          (λ other e. as_role (term scope None) w.first (writes_clear w.left None tt) other e),
          ((λ other e. as_role (term scope (Some w.sort)) w.second (writes_clear w.right (Some w.sort) refl) other (ap (λ s. Some (term scope s)) (sym same) ∙ e)), tt),
        ),
      )

  pub guard_clear : (form : Form) (fs : List Form) (t : _) → WritesGuard scope (form ∷ fs) (Some t) → IsClear (a_list (roles.guard scope)) form
  guard_clear form _ t (guarded one is w) =
      let parts = ap parts_of is.is in
      parts_clear (a_list (roles.guard scope)) form _ parts (λ k o. let l = guard_only scope form k o in let n = ap length parts in omega (arith, l, n))
      ((λ other e. no_role other _ e), ((λ other e. as_role (term scope (Some sorts.Word)) one (writes_clear w (Some sorts.Word) refl) other e), tt))

  module _ (names : List (List ℕ)) (taken : List ℕ) (form : Form) (t : TargetTree) (w : WritesTarget scope form t) (fresh : is_among names t.name ≡ false)
      (free : (r : ℕ) → t.pin ≡ Some r → has_register taken r ≡ false) (unpinned_memory : bytes_eq t.name (codes "M") ≡ true → t.pin ≡ None) where
    as_set : Role
    as_set = a_list (roles.set scope names taken)

    abbrev roles_at : Bool → ℕ → Option Role
    roles_at b at = listed_role (set_roles scope names taken form b) at

    name_is_clear : (other : Role) → Some (fresh_name names) ≡ Some other → IsClear other w.first
    name_is_clear other e = as_role (fresh_name names) w.first (fresh_name_clear names w.first t.name (ap name_in w.named.is) fresh) other e

    value_is_clear : (other : Role) → Some (term scope (target_sort form)) ≡ Some other → IsClear other w.last
    value_is_clear other e =
        as_role (term scope (Some (sort_of_target t.name))) w.last (writes_clear w.value (Some (sort_of_target t.name)) refl) other (ap (λ s. Some (term scope s)) (target_sort_told form t.name (target_named scope form t w)) ∙ e)

    pin_is_clear : (f : Form) (r : ℕ) → t.pin ≡ Some r → IsRegister r f → (other : Role) → Some (pin_role taken (second_name form)) ≡ Some other → IsClear other f
    pin_is_clear f r e reg other g =
        let word : bytes_eq t.name (codes "M") ≡ false = not_true (bytes_eq t.name (codes "M")) (λ m. let n : Some r ≡ None = sym e ∙ unpinned_memory m in cc) in
        let role : pin_role taken (second_name form) ≡ fresh_register taken = ap (pin_role taken) (target_named scope form t w) ∙ ap (λ b. if b then wrong else fresh_register taken) word in
        as_role (fresh_register taken) f (fresh_register_clear taken f r (register_told f r reg) (free r e)) other (ap Some (sym role) ∙ g)

    parts_by : (ps : List Form) (o : Option ℕ) → t.pin ≡ o → WritesPin ps o → IsListOf (codes "set") (w.first ∷ (ps ++ w.last ∷ [])) form → IsClear as_set form
    unfolding as_set
    parts_by _ _ has unpinned is =
        let parts = ap parts_of is.is in
        let no_pin : is_pinned form ≡ false = ap is_pinned is.is ∙ ap is_some (no_register_writes w.value) in
        let role : (at : ℕ) → roles_at (is_pinned form) at ≡ roles_at false at = λ at. ap (λ b. roles_at b at) no_pin in
        parts_clear as_set form _ parts (λ k o. let l = set_only scope names taken form k o in let n = ap length parts in let least = ap {B = ℕ} (λ b. if b then 4 else 3) no_pin in omega (arith, l, n, least)) (
          (λ other e. no_role other _ e),
          ((λ other e. name_is_clear other (sym (role 1) ∙ e)), ((λ other e. value_is_clear other (sym (role 2) ∙ e)), tt)),
        )
    parts_by _ _ has (pinned {form = f} {register = r} reg) is =
        let parts = ap parts_of is.is in
        let there : is_pinned form ≡ true = ap is_pinned is.is ∙ ap (λ (x : Form). is_some (register_in x)) reg.is in
        let role : (at : ℕ) → roles_at (is_pinned form) at ≡ roles_at true at = λ at. ap (λ b. roles_at b at) there in
        parts_clear as_set form _ parts (λ k o. let l = set_only scope names taken form k o in let n = ap length parts in let least = ap {B = ℕ} (λ b. if b then 4 else 3) there in omega (arith, l, n, least)) (
          (λ other e. no_role other _ e),
          (
            (λ other e. name_is_clear other (sym (role 1) ∙ e)),
            ((λ other e. pin_is_clear f r has reg other (sym (role 2) ∙ e)), ((λ other e. value_is_clear other (sym (role 3) ∙ e)), tt)),
          ),
        )

    pub target_clear : IsClear (a_list (roles.set scope names taken)) form
    unfolding as_set
    target_clear = parts_by w.pins t.pin refl w.pin w.is

-- ---- what stands before an item
pub record Before (declared : List DeclaredOp) (before : List Form) (at n : ℕ) (inputs : List InputReg) (pool : List ℕ) (lets : List SortedName) (targets : List TargetTree) : Type 0 where
  pub order : Behind goal_keywords before at n
  pub inputs_are : inputs_in before ≡ inputs
  pub pool_is : pool_in before ≡ pool
  pub lets_are : lets_in declared before ≡ lets
  pub names_are : names_given (of_rank goal_keywords 5 before) ≡ map (λ (t : TargetTree). t.name) targets
  pub pins_are : pins_in before ≡ pins_of targets

before_next : (declared : List DeclaredOp) (before : List Form) (at n : ℕ) (inputs : List InputReg) (pool : List ℕ) (lets : List SortedName) (targets : List TargetTree) → Before declared before at n inputs pool lets targets → Before declared before (at + 1) 0 inputs pool lets targets
before_next declared before at n inputs pool lets targets b = record {
  order = behind_next goal_keywords before at n b.order;
  inputs_are = b.inputs_are;
  pool_is = b.pool_is;
  lets_are = b.lets_are;
  names_are = b.names_are;
  pins_are = b.pins_are;
}

pub one_longer : {X : Type 0} (xs : List X) (x : X) → length xs + 1 ≡ length (xs ++ x ∷ [])
one_longer xs x = let n = length-append xs (x ∷ []) in omega (arith, n)

pub within : {X : Type 0} (xs rest : List X) (x : X) (all : List X) (most : ℕ) → all ≡ xs ++ x ∷ rest → length all ≤ most → length xs < most
within xs rest x all most e l = let n = length-append xs (x ∷ rest) in let m = ap length e in omega (arith, n, m, l)

module _ (declared : List DeclaredOp) where
  abbrev HasNoFault : List Form → Form → Type 0
  HasNoFault before form = IsClear (role_in goal_keywords goal_bounds before (item_role declared before) form) form

  abbrev roles_of : List InputReg → List SortedName → List (List ℕ) → List ℕ → ℕ → Role
  roles_of inputs lets names taken at =
      get_or (a_list (roles.input declared inputs) ∷ a_list (roles.pool (input_registers inputs)) ∷ a_list (roles.binding (let_scope declared inputs lets) (names_of_inputs inputs ++ sorted_names lets))
      ∷ a_list (roles.assume (let_scope declared inputs lets)) ∷ a_list (roles.guard (let_scope declared inputs lets)) ∷ a_list (roles.set (let_scope declared inputs lets) names taken) ∷ []) at wrong

  abbrev named : List TargetTree → List (List ℕ)
  named ts = map (λ (t : TargetTree). t.name) ts

  admitted : (before : List Form) (at n : ℕ) (inputs : List InputReg) (pool : List ℕ) (lets : List SortedName) (targets : List TargetTree) (form : Form) → Before declared before at n inputs pool lets targets → rank goal_keywords form ≡ Some at → n < (bound_at goal_bounds at).most
      → IsClear (roles_of inputs lets (named targets) (pool ++ pins_of targets) at) form → HasNoFault before form
  admitted before at n inputs pool lets targets form b e l clear =
      let count = b.order.count in
      let few : length (of_rank goal_keywords at before) < (bound_at goal_bounds at).most = subst (λ m. m < (bound_at goal_bounds at).most) (sym count) l in
      let told = role_told goal_keywords goal_bounds before (item_role declared before) form at Admitted e (b.order.later, few) in
      let same : item_role declared before at ≡ roles_of inputs lets (named targets) (pool ++ pins_of targets) at =
      ap₂ (λ is ls. roles_of is ls (names_given (of_rank goal_keywords 5 before)) (pool_in before ++ pins_in before) at) b.inputs_are b.lets_are ∙ ap (λ ns. roles_of inputs lets ns (pool_in before ++ pins_in before) at) b.names_are
      ∙ ap (λ rs. roles_of inputs lets (named targets) rs at) (ap₂ (λ p q. p ++ q) b.pool_is b.pins_are) in
      subst (λ (r : Role). IsClear r form) (sym (told ∙ same)) clear

  -- an item that is no input, no let and no target, before which the pool is known
  plain_more : (before : List Form) (at n : ℕ) (inputs : List InputReg) (pool more : List ℕ) (lets : List SortedName) (form : Form) → Before declared before at n inputs pool lets [] → rank goal_keywords form ≡ Some at → (at == 0) ≡ false → (at == 2) ≡ false → (at == 5) ≡ false
      → pool_in (before ++ form ∷ []) ≡ more → Before declared (before ++ form ∷ []) at (n + 1) inputs more lets []
  plain_more before at n inputs pool more lets form b e t0 t2 t5 is = record {
    order = behind_more goal_keywords before at n form b.order e;
    inputs_are = other_inputs at form before e t0 ∙ b.inputs_are;
    pool_is = is;
    lets_are = other_lets declared at form before e t0 t2 ∙ b.lets_are;
    names_are = other_targets at form before e t5 ∙ b.names_are;
    pins_are = other_pins at form before e t5 ∙ b.pins_are;
  }

  module _ (g : GoalTree)
      (input_names : AllPairs (λ (i j : InputReg). i.name ≢ j.name) g.inputs) (own_names : All (λ (i : InputReg). is_reserved i.name ≡ false) g.inputs)
      (not_declared : All (λ (i : InputReg). is_among (names_of_declared declared) i.name ≡ false) g.inputs) (registers : AllPairs (λ a b. a ≢ b) (input_registers g.inputs ++ g.pool))
      (targets : AllPairs (λ (s t : TargetTree). s.name ≢ t.name) g.sets) (few : (length g.inputs ≤ 16) × (length g.assumes ≤ 16) × (length g.sets ≤ 16))
      (leaf_names : AllPairs (λ m n. m ≢ n) (names_of_inputs g.inputs ++ let_names g.lets)) (own_lets : All (λ n. (is_reserved n ≡ false) × (is_among (names_of_declared declared) n ≡ false)) (let_names g.lets)) (few_lets : length g.lets ≤ most_lets)
      (pins : AllPairs (λ a b. a ≢ b) (g.pool ++ pins_of g.sets)) (unpinned_memory : All (λ (t : TargetTree). bytes_eq t.name (codes "M") ≡ true → t.pin ≡ None) g.sets) where
    abbrev scope : Scope
    scope = scope_of_goal declared g

    abbrev lets : List SortedName
    lets = sorted_from [] g.lets

    one_of : {Y : Type 0} (P : Y → Type 0) (all done rest : List Y) (i : Y) → all ≡ done ++ i ∷ rest → All P all → P i
    one_of P all done rest i is h = subst P (here done) (subst (λ xs. All P xs) is h (length done) i (let n = length-append done (i ∷ rest) in omega (arith, n)))
      where
        here : (zs : List _) → get_or (zs ++ i ∷ rest) (length zs) i ≡ i
        here [] = refl
        here (z ∷ zs) = here zs

    map_both : (done rest : List InputReg) (i : InputReg) → input_registers (done ++ i ∷ rest) ≡ input_registers done ++ i.reg ∷ input_registers rest
    map_both [] rest i = refl
    map_both (d ∷ done) rest i = ap (λ xs. d.reg ∷ xs) (map_both done rest i)

    input_step : (before : List Form) (done rest : List InputReg) (form : Form) (i : InputReg) → g.inputs ≡ done ++ i ∷ rest → Before declared before 0 (length done) done [] [] [] → WritesInput form i
        → HasNoFault before form × Before declared (before ++ form ∷ []) 0 (length (done ++ i ∷ [])) (done ++ i ∷ []) [] [] []
    input_step before done rest form i is b w =
        let e = input_ranked form i w in
        let told = input_told form i w in
        let all : input_registers g.inputs ++ g.pool ≡ input_registers done ++ i.reg ∷ (input_registers rest ++ g.pool) =
        ap (λ is. input_registers is ++ g.pool) is ∙ ap (λ rs. rs ++ g.pool) (map_both done rest i) ∙ append_assoc (input_registers done) (i.reg ∷ input_registers rest) g.pool in
        let clear = input_clear declared done form i w (one_of (λ (j : InputReg). is_reserved j.name ≡ false) g.inputs done rest i is own_names) (one_of (λ (j : InputReg). is_among (names_of_declared declared) j.name ≡ false) g.inputs done rest i is not_declared)
        (name_new (λ (j : InputReg). j.name) g.inputs done i rest is input_names) (register_new (input_registers g.inputs ++ g.pool) (input_registers done) i.reg (input_registers rest ++ g.pool) all registers) in (
          admitted before 0 (length done) done [] [] [] form b e (within done rest i g.inputs 16 is few.0) clear,
          record {
            order = subst (λ n. Behind goal_keywords (before ++ form ∷ []) 0 n) (one_longer done i) (behind_more goal_keywords before 0 (length done) form b.order e);
            inputs_are = one_input form before i e told ∙ ap (λ xs. xs ++ i ∷ []) b.inputs_are;
            pool_is = other_pool 0 form before e refl ∙ b.pool_is;
            lets_are = no_lets_more declared form before e (none_of goal_keywords 0 2 before (omega arith) b.order.later);
            names_are = other_targets 0 form before e refl ∙ b.names_are;
            pins_are = other_pins 0 form before e refl ∙ b.pins_are;
          },
        )

    -- no pin is a register of the pool that is given, nor an earlier pin
    module _ (pool : List ℕ) (apart : AllPairs (λ a b. a ≢ b) (pool ++ pins_of g.sets)) where
      pins_both : (done rest : List TargetTree) (t : TargetTree) (r : ℕ) → t.pin ≡ Some r → pins_of (done ++ t ∷ rest) ≡ pins_of done ++ r ∷ pins_of rest
      pins_both [] rest t r e = ap (λ o. cons_option o (pins_of rest)) e
      pins_both (d ∷ done) rest t r e = ap (cons_option d.pin) (pins_both done rest t r e) ∙ cons_behind d.pin (pins_of done) (r ∷ pins_of rest)
        where
          cons_behind : (o : Option ℕ) (xs ys : List ℕ) → cons_option o (xs ++ ys) ≡ cons_option o xs ++ ys
          cons_behind None xs ys = refl
          cons_behind (Some x) xs ys = refl

      pin_new : (done rest : List TargetTree) (t : TargetTree) (r : ℕ) → g.sets ≡ done ++ t ∷ rest → t.pin ≡ Some r → has_register (pool ++ pins_of done) r ≡ false
      pin_new done rest t r is e =
          let all : pool ++ pins_of g.sets ≡ (pool ++ pins_of done) ++ r ∷ pins_of rest = ap (λ ts. pool ++ pins_of ts) is ∙ ap (λ rs. pool ++ rs) (pins_both done rest t r e) ∙ sym (append_assoc pool (pins_of done) (r ∷ pins_of rest)) in
          register_new (pool ++ pins_of g.sets) (pool ++ pins_of done) r (pins_of rest) all apart

      assume_step : (before : List Form) (done rest : List TwoTrees) (form : Form) (a : TwoTrees) → g.assumes ≡ done ++ a ∷ rest → Before declared before 3 (length done) g.inputs pool lets [] → WritesAssume scope form a
          → HasNoFault before form × Before declared (before ++ form ∷ []) 3 (length (done ++ a ∷ [])) g.inputs pool lets []
      assume_step before done rest form a is b w =
          let e = assume_ranked scope form a w in (
            admitted before 3 (length done) g.inputs pool lets [] form b e (within done rest a g.assumes 16 is few.1) (assume_clear scope form a w),
            subst (λ n. Before declared (before ++ form ∷ []) 3 n g.inputs pool lets []) (one_longer done a) (plain_more before 3 (length done) g.inputs pool pool lets form b e refl refl refl (other_pool 3 form before e refl ∙ b.pool_is)),
          )

      target_step : (before : List Form) (done rest : List TargetTree) (form : Form) (t : TargetTree) → g.sets ≡ done ++ t ∷ rest → Before declared before 5 (length done) g.inputs pool lets done → WritesTarget scope form t
          → HasNoFault before form × Before declared (before ++ form ∷ []) 5 (length (done ++ t ∷ [])) g.inputs pool lets (done ++ t ∷ [])
      target_step before done rest form t is b w =
          let e = target_ranked scope form t w in (
            admitted before 5 (length done) g.inputs pool lets done form b e (within done rest t g.sets 16 is few.2)
                (target_clear scope (named done) (pool ++ pins_of done) form t w (name_new (λ (s : TargetTree). s.name) g.sets done t rest is targets)
                (λ r f. pin_new done rest t r is f) (one_of (λ (s : TargetTree). bytes_eq s.name (codes "M") ≡ true → s.pin ≡ None) g.sets done rest t is unpinned_memory)),
            record {
              order = subst (λ n. Behind goal_keywords (before ++ form ∷ []) 5 n) (one_longer done t) (behind_more goal_keywords before 5 (length done) form b.order e);
              inputs_are = other_inputs 5 form before e refl ∙ b.inputs_are;
              pool_is = other_pool 5 form before e refl ∙ b.pool_is;
              lets_are = other_lets declared 5 form before e refl refl ∙ b.lets_are;
              names_are = one_target form before t.name e (target_named scope form t w) ∙ ap (λ ns. ns ++ t.name ∷ []) b.names_are ∙ sym (mapped_more (λ (s : TargetTree). s.name) done t);
              pins_are = one_pin form before t.pin e (pin_told scope form t w) ∙ ap (λ ps. ps ++ cons_option t.pin []) b.pins_are ∙ sym (filter_more (λ (s : TargetTree). s.pin) done t);
            },
          )

      guard_walk : (before fs : List Form) (t : _) → WritesGuard scope fs t → Before declared before 4 0 g.inputs pool lets [] → (n : ℕ) × Walk HasNoFault before fs × Before declared (before ++ fs) 4 n g.inputs pool lets []
      guard_walk before _ _ unguarded b = (0, tt, subst (λ x. Before declared x 4 0 g.inputs pool lets []) (sym (append-nil before)) b)
      guard_walk before _ _ (guarded {form = form} {term = t} one listed w) b =
          let e = listed_rank goal_keywords (codes "when") (one ∷ []) form listed in (
            1,
            (admitted before 4 0 g.inputs pool lets [] form b e (omega arith) (guard_clear scope form [] t (guarded one listed w)), tt),
            plain_more before 4 0 g.inputs pool pool lets form b e refl refl refl (other_pool 4 form before e refl ∙ b.pool_is),
          )

      -- a let has a name that none before it has
      names_spread : (done rest : List LetTree) (l : LetTree) → let_names (done ++ l ∷ rest) ≡ let_names done ++ l.name ∷ let_names rest
      names_spread done rest l = map-append (λ (x : LetTree). x.name) done (l ∷ rest)

      one_own : (done rest : List LetTree) (l : LetTree) → g.lets ≡ done ++ l ∷ rest → (is_reserved l.name ≡ false) × (is_among (names_of_declared declared) l.name ≡ false)
      one_own done rest l is =
          one_of (λ (n : List ℕ). (is_reserved n ≡ false) × (is_among (names_of_declared declared) n ≡ false)) (let_names g.lets) (let_names done) (let_names rest) l.name (ap let_names is ∙ names_spread done rest l) own_lets

      let_new : (done rest : List LetTree) (l : LetTree) → g.lets ≡ done ++ l ∷ rest → is_among (names_of_inputs g.inputs ++ sorted_names (sorted_from [] done)) l.name ≡ false
      let_new done rest l is =
          let all : names_of_inputs g.inputs ++ let_names g.lets ≡ (names_of_inputs g.inputs ++ let_names done) ++ l.name ∷ let_names rest =
          ap (λ ls. names_of_inputs g.inputs ++ let_names ls) is ∙ ap (λ ns. names_of_inputs g.inputs ++ ns) (names_spread done rest l) ∙ sym (append_assoc (names_of_inputs g.inputs) (let_names done) (l.name ∷ let_names rest)) in
          let new = name_new (λ m. m) (names_of_inputs g.inputs ++ let_names g.lets) (names_of_inputs g.inputs ++ let_names done) l.name (let_names rest) all leaf_names in
          ap (λ ns. is_among (names_of_inputs g.inputs ++ ns) l.name) (names_from [] done) ∙ ap (λ ms. is_among ms l.name) (sym (itself (names_of_inputs g.inputs ++ let_names done))) ∙ new

      let_step : (before : List Form) (done rest : List LetTree) (form : Form) (l : LetTree) → g.lets ≡ done ++ l ∷ rest → Before declared before 2 (length done) g.inputs pool (sorted_from [] done) [] → WritesLet (let_scope declared g.inputs (sorted_from [] done)) form l
          → HasNoFault before form × Before declared (before ++ form ∷ []) 2 (length (done ++ l ∷ [])) g.inputs pool (sorted_from [] (done ++ l ∷ [])) []
      let_step before done rest form l is b w =
          let known = sorted_from [] done in
          let at = let_scope declared g.inputs known in
          let e = let_ranked at form l w in
          let own = one_own done rest l is in
          let told = let_told declared g.inputs known form l w in
          let here = subst (λ ls. let_in (let_scope declared (inputs_in before) ls) form ≡ Some (sorted_let known l)) (sym b.lets_are) (subst (λ xs. let_in (let_scope declared xs known) form ≡ Some (sorted_let known l)) (sym b.inputs_are) told) in (
            admitted before 2 (length done) g.inputs pool known [] form b e (within done rest l g.lets 256 is few_lets)
                (binding_clear at (names_of_inputs g.inputs ++ sorted_names known) form l w own.0 own.1 (let_new done rest l is)),
            record {
              order = subst (λ n. Behind goal_keywords (before ++ form ∷ []) 2 n) (one_longer done l) (behind_more goal_keywords before 2 (length done) form b.order e);
              inputs_are = other_inputs 2 form before e refl ∙ b.inputs_are;
              pool_is = other_pool 2 form before e refl ∙ b.pool_is;
              lets_are = one_let_in declared form before (sorted_let known l) e here ∙ ap (λ ls. ls ++ sorted_let known l ∷ []) b.lets_are ∙ sym (from_more [] done l);
              names_are = other_targets 2 form before e refl ∙ b.names_are;
              pins_are = other_pins 2 form before e refl ∙ b.pins_are;
            },
          )

      lets_walk : (before : List Form) (done : List LetTree) (known : List SortedName) (fs : List Form) (ls : List LetTree) → known ≡ sorted_from [] done → WritesLets declared g.inputs known fs ls → g.lets ≡ done ++ ls → Before declared before 2 (length done) g.inputs pool (sorted_from [] done) []
          → Walk HasNoFault before fs × Before declared (before ++ fs) 2 (length (done ++ ls)) g.inputs pool (sorted_from [] (done ++ ls)) []
      lets_walk before done known [] [] same w is b =
          (tt, subst (λ x. Before declared x 2 (length (done ++ [])) g.inputs pool (sorted_from [] (done ++ [])) []) (sym (append-nil before)) (subst (λ d. Before declared before 2 (length d) g.inputs pool (sorted_from [] d) []) (sym (append-nil done)) b))
      lets_walk before done known [] (l ∷ ls) same w is b = elim w [ ]
      lets_walk before done known (f ∷ fs) [] same w is b = elim w [ ]
      lets_walk before done known (f ∷ fs) (l ∷ ls) same (one_let one others) is b =
          let here = let_step before done ls f l is b (subst (λ k. WritesLet (let_scope declared g.inputs k) f l) same one) in
          let next : known ++ sorted_let known l ∷ [] ≡ sorted_from [] (done ++ l ∷ []) = ap (λ k. k ++ sorted_let k l ∷ []) same ∙ sym (from_more [] done l) in
          let rest = lets_walk (before ++ f ∷ []) (done ++ l ∷ []) (known ++ sorted_let known l ∷ []) fs ls next others (is ∙ sym (append_assoc done (l ∷ []) ls)) here.1 in (
            (here.0, rest.0),
            subst (λ b. Before declared b 2 (length (done ++ l ∷ ls)) g.inputs pool (sorted_from [] (done ++ l ∷ ls)) []) (append_assoc before (f ∷ []) fs)
                (subst (λ d. Before declared ((before ++ f ∷ []) ++ fs) 2 (length d) g.inputs pool (sorted_from [] d) []) (append_assoc done (l ∷ []) ls) rest.1),
          )

    -- the pool, where it is given
    pub record PoolWalk (before fs : List Form) : Type 0 where
      pub pool : List ℕ
      pub count : ℕ
      pub apart : AllPairs (λ a b. a ≢ b) (pool ++ pins_of g.sets)
      pub walk : Walk HasNoFault before fs
      pub behind : Before declared (before ++ fs) 1 count g.inputs pool [] []

    pool_walk : (taken : List ℕ) (before fs : List Form) (rs : List ℕ) → rs ≡ g.pool → WritesPool taken fs rs → Before declared before 1 0 g.inputs [] [] [] → PoolWalk before fs
    pool_walk taken before _ rs is absent b = record {
      pool = [];
      count = 0;
      apart = pairs_back (λ a b. a ≢ b) g.pool (pins_of g.sets) pins;
      walk = tt;
      behind = subst (λ x. Before declared x 1 0 g.inputs [] [] []) (sym (append-nil before)) b;
    }
    pool_walk taken before _ rs is (given {form = form} forms listed each) b =
        let e = listed_rank goal_keywords (codes "pool") forms form listed in
        let apart = subst (λ xs. AllPairs (λ a b. a ≢ b) (input_registers g.inputs ++ xs)) (sym is) registers in
        let read : registers_in (parts_of form) ≡ rs = ap (λ (x : Form). registers_in (parts_of x)) listed.is ∙ ap registers_in (list_from forms) ∙ each_register forms rs each in
        let none_yet : of_rank goal_keywords 1 before ≡ [] = fewer_than_one (of_rank goal_keywords 1 before) (let n = b.order.count in omega (arith, n)) in
        record {
          pool = rs;
          count = 1;
          apart = subst (λ xs. AllPairs (λ a b. a ≢ b) (xs ++ pins_of g.sets)) (sym is) pins;
          walk = (admitted before 1 0 g.inputs [] [] [] form b e (omega arith) (pool_clear (input_registers g.inputs) form forms rs listed each apart), tt);
          behind = plain_more before 1 0 g.inputs [] rs [] form b e refl refl refl (one_pool form before e none_yet ∙ read);
        }

    items_walk : (taken : List ℕ) (ins pools bindings assumes whens sets : List Form) → Each WritesInput ins g.inputs → WritesPool taken pools g.pool → WritesLets declared g.inputs [] bindings g.lets → Each (WritesAssume scope) assumes g.assumes → WritesGuard scope whens g.guard → Each (WritesTarget scope) sets g.sets
        → Walk HasNoFault [] (ins ++ (pools ++ (bindings ++ (assumes ++ (whens ++ sets)))))
    items_walk taken ins pools bindings assumes whens sets wi wp wl wa wg wt =
        let start : Before declared [] 0 0 [] [] [] [] = record { order = record { later = refl; count = refl }; inputs_are = refl; pool_is = refl; lets_are = refl; names_are = refl; pins_are = refl } in
        let one = group_walk HasNoFault WritesInput (λ before done. Before declared before 0 (length done) done [] [] []) g.inputs input_step [] [] ins g.inputs wi refl start in
        let two = pool_walk taken ins pools g.pool refl wp (before_next declared ins 0 (length g.inputs) g.inputs [] [] [] one.1) in
        let pool = two.pool in
        let all : List Form = ins ++ pools in
        let more = lets_walk pool two.apart all [] [] bindings g.lets refl wl refl (before_next declared all 1 two.count g.inputs pool [] [] two.behind) in
        let three = group_walk HasNoFault (WritesAssume scope) (λ before done. Before declared before 3 (length done) g.inputs pool lets []) g.assumes (assume_step pool two.apart) (all ++ bindings) [] assumes g.assumes wa refl
        (before_next declared (all ++ bindings) 2 (length g.lets) g.inputs pool lets [] more.1) in
        let four = guard_walk pool two.apart ((all ++ bindings) ++ assumes) whens g.guard wg (before_next declared ((all ++ bindings) ++ assumes) 3 (length g.assumes) g.inputs pool lets [] three.1) in
        let five = group_walk HasNoFault (WritesTarget scope) (λ before done. Before declared before 5 (length done) g.inputs pool lets done) g.sets (target_step pool two.apart) (((all ++ bindings) ++ assumes) ++ whens) [] sets g.sets wt refl
        (before_next declared (((all ++ bindings) ++ assumes) ++ whens) 4 four.0 g.inputs pool lets [] four.2) in
        walk_both HasNoFault [] ins _ one.0
        (walk_both HasNoFault ins pools _ two.walk
        (walk_both HasNoFault all bindings _ more.0
        (walk_both HasNoFault (all ++ bindings) assumes _ three.0
        (walk_both HasNoFault ((all ++ bindings) ++ assumes) whens sets four.1 five.0))))

-- ---- the whole goal
pub some_there : (keywords : List (List ℕ)) (at : ℕ) (fs : List Form) → AllOf keywords at fs → 0 < length fs → list_any (is_of_rank keywords at) fs ≡ true
some_there keywords at [] h l = absurd (omega (arith, l))
some_there keywords at (f ∷ fs) h l =
    let equal : (at == at) ≡ true = grind (arith, nat_tests) in
    ap (λ o. option_map_or (λ r. r == at) o false || list_any (is_of_rank keywords at) fs) h.0 ∙ ap (λ b. b || list_any (is_of_rank keywords at) fs) equal

pub any_behind : (p : Form → Bool) (xs ys : List Form) → list_any p ys ≡ true → list_any p (xs ++ ys) ≡ true
any_behind p [] ys e = e
any_behind p (x ∷ xs) ys e = ap (λ b. p x || b) (any_behind p xs ys e) ∙ or_true (p x)
  where
    or_true : (b : Bool) → b || true ≡ true
    or_true true = refl
    or_true false = refl

pub sets_counted : {Y : Type 0} (W : Form → Y → Type 0) (fs : List Form) (ys : List Y) → Each W fs ys → 0 < length ys → 0 < length fs
sets_counted W fs [] e l = absurd (omega (arith, l))
sets_counted W [] (y ∷ ys) e l = elim e [ ]
sets_counted W (f ∷ fs) (y ∷ ys) e l = omega arith

pub written_goal_clear : (declared : List DeclaredOp) (names : List (List ℕ)) (form : Form) (g : GoalTree) → WritesGoal declared form g → is_among names g.name ≡ false → IsClear (a_list (roles.goal declared names)) form
written_goal_clear declared names form g w fresh =
    let k = w.rules in
    let parts = parts_are declared form g w in
    let items = items_are declared form g w in
    let walk = items_walk declared g k.input_names k.own_names k.not_declared k.registers k.targets k.few k.leaf_names k.own_lets k.few_lets k.pins k.memory_unpinned (input_registers g.inputs ++ pins_of g.sets) w.ins w.pools w.bindings w.assumes w.whens w.sets w.inputs w.pool w.lets w.assumptions w.guard w.targets in
    let enough : 2 ≤ length (parts_of form) = (let n = ap length parts in omega (arith, n)) in
    let sets = some_there goal_keywords 5 w.sets (all_sets declared form g w) (sets_counted (WritesTarget (scope_of_goal declared g)) w.sets g.sets w.targets k.some_target) in
    let some : list_any (is_of_rank goal_keywords 5) (items_of_goal form) ≡ true =
    ap (list_any (is_of_rank goal_keywords 5)) items ∙ any_behind _ w.ins _ (any_behind _ w.pools _ (any_behind _ w.bindings _ (any_behind _ w.assumes _ (any_behind _ w.whens w.sets sets)))) in
    no_fault IsOwn part_role (a_list (roles.goal declared names)) form (goal_clear declared names form enough some)
    (λ j part other place kind got e. part_clear j part other got e parts items walk place kind)
  where
    part_clear : (j : ℕ) (part : Form) (other : Role) → slice_get (parts_of form) j ≡ Some part → part_role (a_list (roles.goal declared names)) form j ≡ Some other
        → parts_of form ≡ atom w.is.head_place (name (codes "goal")) ∷ w.name_form ∷ read.behind_name declared form g w → items_of_goal form ≡ read.behind_name declared form g w
        → Walk (HasNoFault declared) [] (read.behind_name declared form g w) → IsClear other part
    part_clear zero part other got e parts items walk = no_role other part e
    part_clear (suc zero) part other got e parts items walk =
        let both : Some w.name_form ≡ Some part = sym (ap (λ ps. slice_get ps 1) parts) ∙ got in
        let same : w.name_form ≡ part = cc in
        subst (λ (f : Form). IsClear other f) same (as_role (fresh_name names) w.name_form (fresh_name_clear names w.name_form g.name (ap name_in w.named.is) fresh) other e)
    part_clear (suc (suc at)) part other got e parts items walk =
        let role = item_at declared names form (suc (suc at)) part (omega arith) got in
        let at_is : take (suc (suc at) - 2) (items_of_goal form) ≡ take at (read.behind_name declared form g w) = ap₂ (λ n (fs : List Form). take n fs) (let n : suc (suc at) - 2 ≡ at = omega arith in n) items in
        let there : slice_get (read.behind_name declared form g w) at ≡ Some part = ap (λ fs. slice_get fs at) (sym items) ∙ got_dropped (parts_of form) at ∙ got in
        let clear = walk_at (HasNoFault declared) [] (read.behind_name declared form g w) walk at part there in
        as_role (role_in goal_keywords goal_bounds (take at (read.behind_name declared form g w)) (item_role declared (take at (read.behind_name declared form g w))) part) part clear other
        (sym (ap (λ fs. Some (role_in goal_keywords goal_bounds fs (item_role declared fs) part)) at_is) ∙ sym role ∙ e)
