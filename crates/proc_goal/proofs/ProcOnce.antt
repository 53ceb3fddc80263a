-- The forms of a text write one proc at most.
use Rattle.std.proofs.Common.{◌≡◌, ◌≢◌, ℕ, zero, suc, ◌+◌, ◌<◌, ◌≤◌, ◌||◌, ◌++◌, Bool, true, false, Option, None, Some, List, [], ◌∷◌, length, map, filter_map, drop, get_or, refl, sym, ap, ap₂, ◌∙◌, subst, arith, slice_get, bytes_eq, codes, inl, inr}
use Rattle.std.specs.Prelude.{AllPairs, All, Contains}
use Rattle.std.proofs.lemmas.Bool.{cases_order, or_parts}
use Rattle.std.proofs.lemmas.List.{append-nil}
use Rattle.std.proofs.lemmas.List.Elements.{All-map}
use Rattle.std.proofs.lemmas.Option.{get_or_from_slice_get, same_Some, slice_get-get_or, slice_get_within}
use Rattle.std.proofs.lemmas.Slice.Eq.{bytes_eq-Decides}
use Rattle.text_core.specs.Names.{is_among}
use Rattle.forms.specs.Forms.{Form, parts_of, name_in}
use Rattle.machine_table.specs.Grammar.{Each, more_of, IsListOf, IsNameOf, WritesTable}
use Rattle.machine_table.specs.Roles.{has_head}
use Rattle.machine_table.specs.declared.tables.Table.{Table}
use Rattle.goal_meaning.specs.Names.{is_reserved}
use Rattle.goal_meaning.specs.Rules.{default_pool}
use Rattle.goal_meaning.specs.Views.{TargetTree}
use Rattle.goal_meaning.specs.WellFormed.{input_registers, sort_of_target}
use Rattle.goal_meaning.specs.declared.goals.InputReg.{InputReg}
use Rattle.goal_reader.specs.GoalTerms.{term_scope}
use Rattle.goal_reader.specs.Grammar.{IsRegister, WritesMachine, WritesPool, absent, built_in, given, own}
use Rattle.goal_reader.specs.Roles.{WritesTerm, items_of_goal, register_of, second_name}
use Rattle.goal_reader.specs.declared.scopes.Scope.{Scope}
use Rattle.goal_reader.specs.Terms.{Writes}
use Rattle.word_ops.specs.declared.sorts.Op.{Op}
use Rattle.word_ops.specs.declared.sorts.Sort.{Sort}
use Rattle.word_ops.specs.declared.sorts.Sort.TheVariants as sorts
use Rattle.word_terms.specs.Tree.{Tree}
use Rattle.goal_reader.proofs.Different.{pairs_map}
use Rattle.goal_reader.proofs.ReadParts.{each_once, listed_parts, name_once, one_same, register_told, same_some, two_same}
use Rattle.proc_goal.specs.ProcGrammar.{WritesBlock, WritesGo, WritesProc, WritesProcTarget, WritesProcText, WritesSet, WritesVariable, WritesWhen, block, done, guarded, unguarded}
use Rattle.proc_goal.specs.ProcRoles.{has_list, lists_of}
use Rattle.proc_goal.specs.Views.{BlockTree, ProcTree, WhenTree, names_of_blocks}
use Rattle.proc_goal.specs.WellFormed.{IsPinned, memory, variable}
use Rattle.proc_goal.specs.declared.procs.Target.{Target}
use Rattle.proc_goal.specs.declared.procs.Target.TheVariants as targets
use Rattle.proc_goal.proofs.Items.{AllBegin, block_begins, block_told, each_begins, keyword_told, lists_all, lists_both, lists_none, set_begins, told_all, variable_begins}

-- ---- which items there are
two_dropped : (xs : List Form) → drop 1 (drop 1 xs) ≡ drop 2 xs
two_dropped [] = refl
two_dropped (x ∷ []) = refl
two_dropped (x ∷ y ∷ ys) = refl

pub items_listed : (word : List ℕ) (first : Form) (items : List Form) (form : Form) → IsListOf word (first ∷ items) form → items_of_goal form ≡ items
items_listed word first items form is = sym (two_dropped (parts_of form)) ∙ ap (drop 1) (listed_parts word (first ∷ items) form is)

pub name_listed : (word : List ℕ) (a b : Form) (xs ys : List Form) (form : Form) → IsListOf word (a ∷ xs) form → IsListOf word (b ∷ ys) form → a ≡ b
name_listed word a b xs ys form is has = (let e : a ∷ xs ≡ b ∷ ys = sym (listed_parts word (a ∷ xs) form is) ∙ listed_parts word (b ∷ ys) form has in cc)

pub pool_begins : (taken : List ℕ) (fs : List Form) (rs : List ℕ) → WritesPool taken fs rs → AllBegin (codes "pool") fs
pool_begins taken _ _ absent = tt
pool_begins taken _ _ (given {form = f} forms is each) = (keyword_told (codes "pool") forms f is, tt)

pub when_begins : (vars : List InputReg) (names : List (List ℕ)) (fs : List Form) (o : Option WhenTree) → WritesWhen vars names fs o → AllBegin (codes "when") fs
when_begins vars names _ _ unguarded = tt
when_begins vars names _ _ (guarded {form = f} first second is value target) = (keyword_told (codes "when") _ f is, tt)

nothing_left : {X : Type 0} (xs ys : List X) → xs ≡ [] → xs ++ ys ≡ ys
nothing_left [] ys e = refl
nothing_left (x ∷ xs) ys e = cc

module _ (form : Form) (p : ProcTree) (w : WritesProc form p) where
  vars_begin : AllBegin (codes "var") w.vars
  vars_begin = each_begins WritesVariable (codes "var") variable_begins w.vars p.vars w.variables

  pools_begin : AllBegin (codes "pool") w.pools
  pools_begin = pool_begins (input_registers p.vars) w.pools p.pool w.pool

  blocks_begin : AllBegin (codes "block") w.blocks
  blocks_begin = each_begins (WritesBlock p.vars (names_of_blocks p.blocks)) (codes "block") (block_begins p.vars (names_of_blocks p.blocks)) w.blocks p.blocks w.each_block

  pub proc_items : items_of_goal form ≡ w.vars ++ (w.pools ++ w.blocks)
  proc_items = items_listed (codes "proc") w.name_form (w.vars ++ (w.pools ++ w.blocks)) form w.is

  split : (word : List ℕ) → lists_of word (items_of_goal form) ≡ lists_of word w.vars ++ (lists_of word w.pools ++ lists_of word w.blocks)
  split word = ap (lists_of word) proc_items ∙ lists_both word w.vars (w.pools ++ w.blocks) ∙ ap (λ fs. lists_of word w.vars ++ fs) (lists_both word w.pools w.blocks)

  pub vars_are : lists_of (codes "var") (items_of_goal form) ≡ w.vars
  vars_are =
      split (codes "var") ∙ ap₂ (λ a b. a ++ b) (lists_all (codes "var") w.vars vars_begin)
      (ap₂ (λ a b. a ++ b) (lists_none (codes "pool") (codes "var") w.pools pools_begin refl) (lists_none (codes "block") (codes "var") w.blocks blocks_begin refl)) ∙ append-nil w.vars

  pub pools_are : lists_of (codes "pool") (items_of_goal form) ≡ w.pools
  pools_are =
      split (codes "pool") ∙ ap₂ (λ a b. a ++ b) (lists_none (codes "var") (codes "pool") w.vars vars_begin refl)
      (ap₂ (λ a b. a ++ b) (lists_all (codes "pool") w.pools pools_begin) (lists_none (codes "block") (codes "pool") w.blocks blocks_begin refl)) ∙ append-nil w.pools

  pub blocks_are : lists_of (codes "block") (items_of_goal form) ≡ w.blocks
  blocks_are =
      split (codes "block") ∙ ap₂ (λ a b. a ++ b) (lists_none (codes "var") (codes "block") w.vars vars_begin refl)
      (ap₂ (λ a b. a ++ b) (lists_none (codes "pool") (codes "block") w.pools pools_begin refl) (lists_all (codes "block") w.blocks blocks_begin))

module _ (vars : List InputReg) (names : List (List ℕ)) (form : Form) (b : BlockTree) (w : WritesBlock vars names form b) where
  whens_begin : AllBegin (codes "when") w.whens
  whens_begin = when_begins vars names w.whens b.when w.guard

  sets_begin : AllBegin (codes "set") w.sets
  sets_begin = each_begins (WritesSet vars) (codes "set") (set_begins vars) w.sets b.sets w.each_set

  go_begins : AllBegin (codes "go") (w.last ∷ [])
  go_begins = (keyword_told (codes "go") _ w.last w.go.is, tt)

  pub block_items : items_of_goal form ≡ w.whens ++ (w.sets ++ w.last ∷ [])
  block_items = items_listed (codes "block") w.name_form (w.whens ++ (w.sets ++ w.last ∷ [])) form w.is

  split_items : (word : List ℕ) → lists_of word (items_of_goal form) ≡ lists_of word w.whens ++ (lists_of word w.sets ++ lists_of word (w.last ∷ []))
  split_items word = ap (lists_of word) block_items ∙ lists_both word w.whens (w.sets ++ w.last ∷ []) ∙ ap (λ fs. lists_of word w.whens ++ fs) (lists_both word w.sets (w.last ∷ []))

  pub whens_are : lists_of (codes "when") (items_of_goal form) ≡ w.whens
  whens_are =
      split_items (codes "when") ∙ ap₂ (λ a b. a ++ b) (lists_all (codes "when") w.whens whens_begin)
      (ap₂ (λ a b. a ++ b) (lists_none (codes "set") (codes "when") w.sets sets_begin refl) (lists_none (codes "go") (codes "when") (w.last ∷ []) go_begins refl)) ∙ append-nil w.whens

  pub sets_are : lists_of (codes "set") (items_of_goal form) ≡ w.sets
  sets_are =
      split_items (codes "set") ∙ ap₂ (λ a b. a ++ b) (lists_none (codes "when") (codes "set") w.whens whens_begin refl)
      (ap₂ (λ a b. a ++ b) (lists_all (codes "set") w.sets sets_begin) (lists_none (codes "go") (codes "set") (w.last ∷ []) go_begins refl)) ∙ append-nil w.sets

  pub last_is : lists_of (codes "go") (items_of_goal form) ≡ w.last ∷ []
  last_is =
      split_items (codes "go") ∙ ap₂ (λ a b. a ++ b) (lists_none (codes "when") (codes "go") w.whens whens_begin refl)
      (ap₂ (λ a b. a ++ b) (lists_none (codes "set") (codes "go") w.sets sets_begin refl) (lists_all (codes "go") (w.last ∷ []) go_begins))

-- ---- what single forms write
register_once : (f : Form) (r s : ℕ) → IsRegister r f → IsRegister s f → r ≡ s
register_once f r s a b = same_some (register_of f) r s (register_told f r a) (register_told f s b)

variable_once : (f : Form) (v u : InputReg) → WritesVariable f v → WritesVariable f u → v ≡ u
variable_once f v u a b =
    let parts = two_same (codes "var") a.first a.second b.first b.second f a.is b.is in
    let name = name_once b.first v.name u.name (subst (IsNameOf v.name) parts.0 a.named) b.named in
    let reg = register_once b.second v.reg u.reg (subst (IsRegister v.reg) parts.1 a.placed) b.placed in
    ap₂ (λ n r. record { name = n; reg = r }) name reg

pool_once : (taken : List ℕ) (fs : List Form) (rs ss : List ℕ) → WritesPool taken fs rs → WritesPool taken fs ss → rs ≡ ss
pool_once taken _ _ ss absent b = nothing_given ss b
  where
    nothing_given : (xs : List ℕ) → WritesPool taken [] xs → default_pool taken ≡ xs
    nothing_given _ absent = refl
pool_once taken _ rs ss (given {form = f} forms is each) b = one_given ss b
  where
    one_given : (xs : List ℕ) → WritesPool taken (f ∷ []) xs → rs ≡ xs
    one_given xs (given others has all) =
        each_once (λ g r. IsRegister r g) register_once others rs xs (subst (λ gs. Each (λ g r. IsRegister r g) gs rs) (sym (listed_parts (codes "pool") forms f is) ∙ listed_parts (codes "pool") others f has) each) all

-- names of their own stand in one place
one_place : (ns : List (List ℕ)) → AllPairs (λ m n. m ≢ n) ns → (i j : ℕ) (n : List ℕ) → slice_get ns i ≡ Some n → slice_get ns j ≡ Some n → i ≡ j
one_place ns pairs i j n g h = elim (cases_order i j) [
  | inl same ↦ same
  | inr (inl before) ↦ absurd (pairs i j n before (slice_get_within ns j n h) (get_or_from_slice_get ns i n n g ∙ sym (get_or_from_slice_get ns j n n h)))
  | inr (inr later) ↦ absurd (pairs j i n later (slice_get_within ns i n g) (get_or_from_slice_get ns j n n h ∙ sym (get_or_from_slice_get ns i n n g)))
]

-- the names of the blocks differ, and none is done
pub record AreNames (names : List (List ℕ)) : Type 0 where
  pub differ : AllPairs (λ m n. m ≢ n) names
  pub not_done : All (λ n. n ≢ codes "done") names

module _ (names : List (List ℕ)) (are : AreNames names) where
  no_block_done : (at : ℕ) (n : List ℕ) → slice_get names at ≡ Some n → n ≡ codes "done" → ⊥
  no_block_done at n g e = are.not_done at n (slice_get_within names at n g) (get_or_from_slice_get names at n n g ∙ e)

  target_once : (f : Form) (t u : Target) → WritesProcTarget names f t → WritesProcTarget names f u → t ≡ u
  target_once f _ _ (done a) (done b) = refl
  target_once f _ _ (done a) (block {at = at} {name = n} g b) = absurd (no_block_done at n g (name_once f n (codes "done") b a))
  target_once f _ _ (block {at = at} {name = n} g a) (done b) = absurd (no_block_done at n g (name_once f n (codes "done") a b))
  target_once f _ _ (block {at = i} {name = m} g a) (block {at = j} {name = n} h b) =
      ap targets.Block (one_place names are.differ i j m g (h ∙ ap Some (name_once f n m b a)))

-- variables with names of their own, none of which is M
pub record AreOwn (vars : List InputReg) : Type 0 where
  pub differ : AllPairs (λ (i j : InputReg). i.name ≢ j.name) vars
  pub own : All (λ (i : InputReg). is_reserved i.name ≡ false) vars

module _ (vars : List InputReg) (are : AreOwn vars) where
  no_memory : (r : ℕ) → Contains vars (record { name = codes "M"; reg = r }) → ⊥
  no_memory r c =
      let o = are.own c.0 (record { name = codes "M"; reg = r }) c.1 in
      let e : is_reserved (codes "M") ≡ false = ap (λ (i : InputReg). is_reserved i.name) (sym c.2) ∙ o in
      reserved_memory e
    where
      reserved_memory : is_reserved (codes "M") ≡ false → ⊥
      reserved_memory e = (let split = or_parts _ (bytes_eq (codes "M") (codes "M")) e in let t : true ≡ false = sym ((bytes_eq-Decides (codes "M") (codes "M")).1 refl) ∙ split.1 in cc)

  register_same : (n : List ℕ) (r s : ℕ) → Contains vars (record { name = n; reg = r }) → Contains vars (record { name = n; reg = s }) → r ≡ s
  register_same n r s c d = elim (cases_order c.0 d.0) [
    | inl same ↦ (
        let x : InputReg = record { name = n; reg = r } in
        let y : InputReg = record { name = n; reg = s } in
        let e : x ≡ y = sym c.2 ∙ ap (λ k. get_or vars k x) same ∙ default_same vars d.0 x y d.1 ∙ d.2 in ap (λ (i : InputReg). i.reg) e)
    | inr (inl before) ↦ absurd (are.differ c.0 d.0 (record { name = n; reg = r }) before d.1 (ap (λ (i : InputReg). i.name) c.2 ∙ sym (ap (λ (i : InputReg). i.name) (default_same vars d.0 (record { name = n; reg = r }) (record { name = n; reg = s }) d.1 ∙ d.2))))
    | inr (inr later) ↦ absurd (are.differ d.0 c.0 (record { name = n; reg = s }) later c.1 (ap (λ (i : InputReg). i.name) d.2 ∙ sym (ap (λ (i : InputReg). i.name) (default_same vars c.0 (record { name = n; reg = s }) (record { name = n; reg = r }) c.1 ∙ c.2))))
  ]
    where
      default_same : (xs : List InputReg) (k : ℕ) (a b : InputReg) → k < length xs → get_or xs k a ≡ get_or xs k b
      default_same [] k a b l = absurd (omega (arith, l))
      default_same (x ∷ xs) zero a b l = refl
      default_same (x ∷ xs) (suc k) a b l = default_same xs k a b (omega (arith, l))

  pin_once : (n : List ℕ) (o u : Option ℕ) → IsPinned vars n o → IsPinned vars n u → o ≡ u
  pin_once n _ _ (memory e) (memory f) = refl
  pin_once n _ _ (memory e) (variable {register = r} c) = absurd (no_memory r (subst (λ m. Contains vars (record { name = m; reg = r })) e c))
  pin_once n _ _ (variable {register = r} c) (memory e) = absurd (no_memory r (subst (λ m. Contains vars (record { name = m; reg = r })) e c))
  pin_once n _ _ (variable {register = r} c) (variable {register = s} d) = ap Some (register_same n r s c d)

pub names_told : (vars : List InputReg) (names : List (List ℕ)) (fs : List Form) (bs : List BlockTree) → Each (WritesBlock vars names) fs bs → filter_map second_name fs ≡ names_of_blocks bs
names_told vars names fs bs e = told_all (WritesBlock vars names) second_name (λ (b : BlockTree). b.name) (block_told vars names) fs bs e

-- what goal_reader says of all terms is handed in
module _ (term_once : (scope : Scope) (wanted : Option Sort) (form : Form) (t u : Tree Op) → WritesTerm scope wanted form t → WritesTerm scope wanted form u → t ≡ u) where
  one_term : {scope : Scope} {sort other : Sort} {form : Form} {t u : Tree Op} → Writes scope sort form t → Writes scope other form u → t ≡ u
  one_term {scope} {sort} {other} {form} {t} {u} a b = term_once scope None form t u (record { sort = sort; wanted_one = tt; writes = a }) (record { sort = other; wanted_one = tt; writes = b })

  module _ (vars : List InputReg) (are : AreOwn vars) where
    set_once : (f : Form) (s t : TargetTree) → WritesSet vars f s → WritesSet vars f t → s ≡ t
    set_once f s t a b =
        let parts = two_same (codes "set") a.first a.second b.first b.second f a.is b.is in
        let name = name_once b.first s.name t.name (subst (IsNameOf s.name) parts.0 a.named) b.named in
        let pin = pin_once vars are t.name s.pin t.pin (subst (λ n. IsPinned vars n s.pin) name a.pinned) b.pinned in
        let value = one_term (subst (λ (g : Form). Writes (term_scope vars) (sort_of_target s.name) g s.value) parts.1 a.value) b.value in
        ap (λ n. record { name = n; value = s.value; pin = s.pin }) name ∙ ap₂ (λ v p. record { name = t.name; value = v; pin = p }) value pin

  module _ (vars : List InputReg) (names : List (List ℕ)) (own_vars : AreOwn vars) (own_names : AreNames names) where
    when_once : (fs : List Form) (o u : Option WhenTree) → WritesWhen vars names fs o → WritesWhen vars names fs u → o ≡ u
    when_once _ _ u unguarded b = none_there u b
      where
        none_there : (x : Option WhenTree) → WritesWhen vars names [] x → None ≡ x
        none_there _ unguarded = refl
    when_once _ _ u (guarded {form = f} {w = w} first second is value target) b = one_there u b
      where
        one_there : (x : Option WhenTree) → WritesWhen vars names (f ∷ []) x → Some w ≡ x
        one_there _ (guarded {w = v} third fourth has other leads) =
            let parts = two_same (codes "when") first second third fourth f is has in
            let guard = one_term (subst (λ (g : Form). Writes (term_scope vars) sorts.Word g w.guard) parts.0 value) other in
            let to = target_once names own_names fourth w.other v.other (subst (λ (g : Form). WritesProcTarget names g w.other) parts.1 target) leads in
            ap Some (ap₂ (λ g t. record { guard = g; other = t }) guard to)

    go_once : (f : Form) (t u : Target) → WritesGo names f t → WritesGo names f u → t ≡ u
    go_once f t u a b =
        let part = one_same (codes "go") a.first b.first f a.is b.is in
        target_once names own_names b.first t u (subst (λ (g : Form). WritesProcTarget names g t) part a.target) b.target

    pub block_once : (f : Form) (b c : BlockTree) → WritesBlock vars names f b → WritesBlock vars names f c → b ≡ c
    block_once f b c v w =
        let form = name_listed (codes "block") v.name_form w.name_form _ _ f v.is w.is in
        let name = name_once w.name_form b.name c.name (subst (IsNameOf b.name) form v.named) w.named in
        let whens = sym (whens_are vars names f b v) ∙ whens_are vars names f c w in
        let sets = sym (sets_are vars names f b v) ∙ sets_are vars names f c w in
        let last : v.last ≡ w.last = (let e : v.last ∷ [] ≡ w.last ∷ [] = sym (last_is vars names f b v) ∙ last_is vars names f c w in cc) in
        let when = when_once w.whens b.when c.when (subst (λ fs. WritesWhen vars names fs b.when) whens v.guard) w.guard in
        let each = each_once (WritesSet vars) (set_once vars own_vars) w.sets b.sets c.sets (subst (λ fs. Each (WritesSet vars) fs b.sets) sets v.each_set) w.each_set in
        let go = go_once w.last b.go c.go (subst (λ (g : Form). WritesGo names g b.go) last v.go) w.go in
        ap (λ n. record { name = n; when = b.when; sets = b.sets; go = b.go }) name ∙ ap₂ (λ o ts. record { name = c.name; when = o; sets = ts; go = b.go }) when each
        ∙ ap (λ t. record { name = c.name; when = c.when; sets = c.sets; go = t }) go

  -- ---- the whole proc
  own_vars_of : (form : Form) (p : ProcTree) → WritesProc form p → AreOwn p.vars
  own_vars_of form p w = record { differ = w.rules.variable_names; own = w.rules.own_names }

  own_names_of : (form : Form) (p : ProcTree) → WritesProc form p → AreNames (names_of_blocks p.blocks)
  own_names_of form p w = record {
    differ = pairs_map (λ (m n : List ℕ). m ≢ n) (λ (b : BlockTree). b.name) p.blocks w.rules.block_names;
    not_done = All-map (λ (n : List ℕ). n ≢ codes "done") (λ (b : BlockTree). b.name) p.blocks w.rules.not_done;
  }

  proc_of : Table → Bool → List ℕ → List InputReg → List ℕ → List BlockTree → ProcTree
  proc_of t b n vs rs bs = record { table = t; builtin = b; name = n; vars = vs; pool = rs; blocks = bs }

  proc_back : (p : ProcTree) → proc_of p.table p.builtin p.name p.vars p.pool p.blocks ≡ p
  unfolding proc_of
  proc_back p = refl

  pub proc_once : (form : Form) (p q : ProcTree) → WritesProc form p → WritesProc form q → p.table ≡ q.table → p.builtin ≡ q.builtin → p ≡ q
  proc_once form p q v w table builtin =
      let first = name_listed (codes "proc") v.name_form w.name_form _ _ form v.is w.is in
      let name = name_once w.name_form p.name q.name (subst (IsNameOf p.name) first v.named) w.named in
      let var_forms = sym (vars_are form p v) ∙ vars_are form q w in
      let vars = each_once WritesVariable variable_once w.vars p.vars q.vars (subst (λ fs. Each WritesVariable fs p.vars) var_forms v.variables) w.variables in
      let pool_forms = sym (pools_are form p v) ∙ pools_are form q w in
      let pool = pool_once (input_registers q.vars) w.pools p.pool q.pool
      (subst (λ fs. WritesPool (input_registers q.vars) fs p.pool) pool_forms (subst (λ vs. WritesPool (input_registers vs) v.pools p.pool) vars v.pool)) w.pool in
      let block_forms = sym (blocks_are form p v) ∙ blocks_are form q w in
      let names : names_of_blocks p.blocks ≡ names_of_blocks q.blocks =
      sym (names_told p.vars (names_of_blocks p.blocks) v.blocks p.blocks v.each_block) ∙ ap (filter_map second_name) block_forms ∙ names_told q.vars (names_of_blocks q.blocks) w.blocks q.blocks w.each_block in
      let each = subst (λ fs. Each (WritesBlock q.vars (names_of_blocks q.blocks)) fs p.blocks) block_forms
      (subst (λ vs. Each (WritesBlock vs (names_of_blocks q.blocks)) v.blocks p.blocks) vars (subst (λ ns. Each (WritesBlock p.vars ns) v.blocks p.blocks) names v.each_block)) in
      let blocks = each_once (WritesBlock q.vars (names_of_blocks q.blocks)) (block_once q.vars (names_of_blocks q.blocks) (own_vars_of form q w) (own_names_of form q w)) w.blocks p.blocks q.blocks each w.each_block in
      sym (proc_back p) ∙ ap₂ (λ t b. proc_of t b p.name p.vars p.pool p.blocks) table builtin ∙ ap₂ (λ n vs. proc_of q.table q.builtin n vs p.pool p.blocks) name vars
      ∙ ap₂ (λ rs bs. proc_of q.table q.builtin q.name q.vars rs bs) pool blocks ∙ proc_back q

  -- ---- the forms of a text
  module _ (table_once : (form : Form) (table other : Table) → WritesTable form table → WritesTable form other → table ≡ other) where
    machine_once : (fs : List Form) (t u : Table) (b c : Bool) → WritesMachine fs t b → WritesMachine fs u c → (t ≡ u) × (b ≡ c)
    machine_once _ _ _ _ _ built_in built_in = (refl, refl)
    machine_once _ t u _ _ (own {form = form} w) (own v) = (table_once form t u w v, refl)

    -- a machine form and a proc, or a proc alone
    parts_same : (xs ys : List Form) (a b : Form) (t u : Table) (c d : Bool) → WritesMachine xs t c → WritesMachine ys u d → xs ++ a ∷ [] ≡ ys ++ b ∷ [] → (xs ≡ ys) × (a ≡ b)
    parts_same _ _ a b _ _ _ _ built_in built_in e = (refl, cc)
    parts_same _ _ a b _ _ _ _ built_in (own v) e = cc
    parts_same _ _ a b _ _ _ _ (own w) built_in e = cc
    parts_same _ _ a b _ _ _ _ (own {form = f} w) (own {form = g} v) e = (let same : f ≡ g = cc in ap (λ x. x ∷ []) same, cc)

    pub text_once : (fs : List Form) (p q : ProcTree) → WritesProcText fs p → WritesProcText fs q → p ≡ q
    text_once fs p q v w =
        let parts = parts_same v.machines w.machines v.last w.last p.table q.table p.builtin q.builtin v.machine w.machine (sym v.are ∙ w.are) in
        let machine = machine_once w.machines p.table q.table p.builtin q.builtin (subst (λ xs. WritesMachine xs p.table p.builtin) parts.0 v.machine) w.machine in
        proc_once w.last p q (subst (λ (f : Form). WritesProc f p) parts.1 v.proc) w.proc machine.0 machine.1
