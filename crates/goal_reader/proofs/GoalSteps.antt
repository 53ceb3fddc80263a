-- The items of a goal, one after another.
use Rattle.std.proofs.Common.{◌≡◌, ℕ, zero, suc, ◌+◌, ◌-◌, ◌<◌, ◌≤◌, ◌++◌, ◌==◌, if◌then◌else◌, Bool, true, false, Option, None, Some, List, [], ◌∷◌, map, length, take, drop, get_or, refl, sym, ap, ap₂, ◌∙◌, subst, arith, slice_get, filter_map, option_map, All, inl, inr}
use Rattle.std.specs.List.{flat_map, list_any, cons_option}
use Rattle.std.specs.Option.{option_map_or}
use Rattle.std.proofs.lemmas.Bool.{cases_order}
use Rattle.std.proofs.lemmas.List.{take_all, length-drop, length-map}
use Rattle.text_core.specs.declared.faults.Kind.{Kind}
use Rattle.text_core.specs.declared.faults.Kind.TheVariants.{BadForm}
use Rattle.text_core.specs.declared.sexps.Sexp.{Sexp}
use Rattle.text_core.specs.Faults.{IsFirst}
use Rattle.forms.specs.Forms.{Form, atom, list, place_of, parts_of, is_list, sexp_forms, forms_from}
use Rattle.goal_reader.proofs.NewNames.{parts_form}
use Rattle.forms.specs.Forms.{Stands}
use Rattle.forms.proofs.First.{ClearTo, first_own, first_inside, no_fault}
use Rattle.goal_meaning.specs.declared.goals.DeclaredOp.{DeclaredOp}
use Rattle.goal_reader.specs.declared.scopes.Scope.{Scope}
use Rattle.goal_meaning.specs.declared.goals.InputReg.{InputReg}
use Rattle.goal_meaning.specs.declared.goals.Let.{Let}
use Rattle.goal_meaning.specs.declared.goals.Set.{Set}
use Rattle.word_ops.specs.declared.sorts.Sort.{Sort}
use Rattle.goal_reader.specs.Scopes.{SortedName, sorted_names}
use Rattle.goal_reader.proofs.LetScopes.{lets_from_more, scope_more}
use Rattle.goal_reader.specs.declared.drafts.Draft.{Draft}
use Rattle.goal_reader.specs.declared.order.Admission.TheVariants.{Admitted}
use Rattle.goal_reader.specs.Roles as roles
use Rattle.goal_reader.specs.Roles.{Role, a_list, wrong, goal, IsOwn, too_few, no_set, part_role, IsFaultAs, rank, is_of_rank, of_rank, goal_keywords, goal_bounds, bound_at, items_of_goal, item_role, role_in, goal_scope, let_scope, let_in, lets_from, lets_in, part_sort, ◌>>=◌, inputs_in, input_in, names_given, second_name, fresh_name, registers_in, pool_in, pin_in, pins_in}
use Rattle.goal_reader.specs.Order.{IsAdmission}
use Rattle.goal_reader.specs.Reading.{IsClear, names_of_inputs, names_of_lets, names_of_targets, pins_of_targets}
use Rattle.goal_meaning.specs.WellFormed.{input_registers}
use Rattle.goal_reader.specs.Drafts.{IsNext, IsDraft, draft_role, items_before, input_leaf, let_leaf, pool_read, with_input}
use Rattle.goal_reader.specs.Drafts as drafts
use Rattle.goal_reader.proofs.Admitting.{role_told}
use Rattle.goal_reader.proofs.Fixed.{got_within}
use Rattle.goal_reader.proofs.Owns as owns
use Rattle.goal_reader.proofs.Ranks.{of_rank_more}

pub got_more : {X : Type 0} (xs : List X) (i : ℕ) (x : X) → slice_get xs i ≡ Some x → take (i + 1) xs ≡ take i xs ++ x ∷ []
got_more [] i x g = cc
got_more (y ∷ ys) zero x g = let same : y ≡ x = cc in ap (λ z. z ∷ []) same
got_more (y ∷ ys) (suc i) x g =
    ap (λ n. take n (y ∷ ys)) (let e : suc i + 1 ≡ suc (i + 1) = omega arith in e) ∙ ap (λ zs. y ∷ zs) (got_more ys i x g)

pub rest_two : {X : Type 0} (xs : List X) → take (length xs - 2) (drop 2 xs) ≡ drop 2 xs
rest_two xs = take_all (length xs - 2) (drop 2 xs) (let l = length-drop 2 xs in omega (arith, l))

pub got_dropped : {X : Type 0} (xs : List X) (at : ℕ) → slice_get (drop 2 xs) at ≡ slice_get xs (suc (suc at))
got_dropped [] at = refl
got_dropped (x ∷ []) at = refl
got_dropped (x ∷ y ∷ xs) at = refl

dropped_map : (text : List ℕ) (parts : List Sexp) → sexp_forms text (drop 2 parts) ≡ drop 2 (sexp_forms text parts)
dropped_map text [] = refl
dropped_map text (x ∷ []) = refl
dropped_map text (x ∷ y ∷ xs) = refl

pub items_are : (text : List ℕ) (form : Form) (p : ℕ) (parts : List Sexp) → form ≡ list p (forms_from (sexp_forms text parts)) → sexp_forms text (take (length parts - 2) (drop 2 parts)) ≡ items_of_goal form
items_are text form p parts e = ap (sexp_forms text) (rest_two parts) ∙ dropped_map text parts ∙ ap (drop 2) (sym (parts_form form p (sexp_forms text parts) e))

pub all_two : {X : Type 0} (P : X → Type 0) (xs rest : List X) → rest ≡ drop 2 xs → All P xs → All P rest
all_two P [] rest e h = subst (All P) (sym e) h
all_two P (x ∷ []) rest e h = subst (All P) (sym e) (λ k d l. absurd (omega (arith, l)))
all_two P (x ∷ y ∷ xs) rest e h = subst (All P) (sym e) (λ k d l. h (suc (suc k)) d (omega (arith, l)))

pub no_parts : (form : Form) → is_list form ≡ false → length (parts_of form) < 2
no_parts (atom p a) e = omega arith
no_parts (list p parts) e = cc

-- ---- what an item adds to what the items before give
pub same_rank : (at k : ℕ) (form : Form) (before : List Form) (b : Bool) → rank goal_keywords form ≡ Some at → (at == k) ≡ b
    → of_rank goal_keywords k (before ++ form ∷ []) ≡ of_rank goal_keywords k before ++ (if b then form ∷ [] else [])
same_rank at k form before b e t =
    of_rank_more goal_keywords k before form
    ∙ ap (λ o. of_rank goal_keywords k before ++ (if option_map_or (λ r. r == k) o false then form ∷ [] else [])) e
    ∙ ap (λ x. of_rank goal_keywords k before ++ (if x then form ∷ [] else [])) t

pub nothing_more : {X : Type 0} (xs : List X) → xs ++ [] ≡ xs
nothing_more [] = refl
nothing_more (x ∷ xs) = ap (λ ys. x ∷ ys) (nothing_more xs)

cons_more : {X : Type 0} (o : Option X) (xs ys zs : List X) → xs ≡ ys ++ zs → cons_option o xs ≡ cons_option o ys ++ zs
cons_more None xs ys zs e = e
cons_more (Some x) xs ys zs e = ap (λ w. x ∷ w) e

pub map_more : {X Y : Type 0} (f : X → Option Y) (xs : List X) (x : X) (y : Y) → f x ≡ Some y → filter_map f (xs ++ x ∷ []) ≡ filter_map f xs ++ y ∷ []
map_more f [] x y e = ap (λ o. cons_option o []) e
map_more f (z ∷ zs) x y e = cons_more (f z) _ _ _ (map_more f zs x y e)

pub filter_more : {X Y : Type 0} (f : X → Option Y) (xs : List X) (x : X) → filter_map f (xs ++ x ∷ []) ≡ filter_map f xs ++ cons_option (f x) []
filter_more f [] x = refl
filter_more f (z ∷ zs) x = cons_more (f z) _ _ _ (filter_more f zs x)

pub mapped_more : {X Y : Type 0} (f : X → Y) (xs : List X) (x : X) → map f (xs ++ x ∷ []) ≡ map f xs ++ f x ∷ []
mapped_more f [] x = refl
mapped_more f (y ∷ ys) x = ap (λ zs. f y ∷ zs) (mapped_more f ys x)

pub other_inputs : (at : ℕ) (form : Form) (before : List Form) → rank goal_keywords form ≡ Some at → (at == 0) ≡ false → inputs_in (before ++ form ∷ []) ≡ inputs_in before
other_inputs at form before e t = ap (filter_map input_in) (same_rank at 0 form before false e t ∙ nothing_more (of_rank goal_keywords 0 before))

pub other_targets : (at : ℕ) (form : Form) (before : List Form) → rank goal_keywords form ≡ Some at → (at == 5) ≡ false → names_given (of_rank goal_keywords 5 (before ++ form ∷ [])) ≡ names_given (of_rank goal_keywords 5 before)
other_targets at form before e t = ap names_given (same_rank at 5 form before false e t ∙ nothing_more (of_rank goal_keywords 5 before))

pub other_pool : (at : ℕ) (form : Form) (before : List Form) → rank goal_keywords form ≡ Some at → (at == 1) ≡ false → pool_in (before ++ form ∷ []) ≡ pool_in before
other_pool at form before e t = ap (λ fs. registers_in (flat_map parts_of fs)) (same_rank at 1 form before false e t ∙ nothing_more (of_rank goal_keywords 1 before))

pub other_pins : (at : ℕ) (form : Form) (before : List Form) → rank goal_keywords form ≡ Some at → (at == 5) ≡ false → pins_in (before ++ form ∷ []) ≡ pins_in before
other_pins at form before e t = ap (filter_map pin_in) (same_rank at 5 form before false e t ∙ nothing_more (of_rank goal_keywords 5 before))

pub one_pool : (form : Form) (before : List Form) → rank goal_keywords form ≡ Some 1 → of_rank goal_keywords 1 before ≡ [] → pool_in (before ++ form ∷ []) ≡ registers_in (parts_of form)
one_pool form before e none =
    ap (λ fs. registers_in (flat_map parts_of fs)) (same_rank 1 1 form before true e refl ∙ ap (λ (fs : List Form). fs ++ form ∷ []) none) ∙ ap registers_in (nothing_more (parts_of form))

pub one_pin : (form : Form) (before : List Form) (o : Option ℕ) → rank goal_keywords form ≡ Some 5 → pin_in form ≡ o → pins_in (before ++ form ∷ []) ≡ pins_in before ++ cons_option o []
one_pin form before o e is =
    ap (filter_map pin_in) (same_rank 5 5 form before true e refl) ∙ filter_more pin_in (of_rank goal_keywords 5 before) form ∙ ap (λ x. pins_in before ++ cons_option x []) is

pub one_input : (form : Form) (before : List Form) (i : InputReg) → rank goal_keywords form ≡ Some 0 → input_in form ≡ Some i → inputs_in (before ++ form ∷ []) ≡ inputs_in before ++ i ∷ []
one_input form before i e is = ap (filter_map input_in) (same_rank 0 0 form before true e refl) ∙ map_more input_in (of_rank goal_keywords 0 before) form i is

pub one_target : (form : Form) (before : List Form) (name : List ℕ) → rank goal_keywords form ≡ Some 5 → second_name form ≡ Some name → names_given (of_rank goal_keywords 5 (before ++ form ∷ [])) ≡ names_given (of_rank goal_keywords 5 before) ++ name ∷ []
one_target form before name e is = ap names_given (same_rank 5 5 form before true e refl) ∙ map_more second_name (of_rank goal_keywords 5 before) form name is

let_known : (scope : Scope) (form : Form) (l : SortedName) → second_name form ≡ Some l.name → part_sort scope form 2 ≡ Some l.sort → let_in scope form ≡ Some l
let_known scope form l named sorted =
    let put : List ℕ → Sort → Option SortedName = λ n s. Some (record { name = n; sort = s }) in
    ap (λ o. o >>= (λ n. part_sort scope form 2 >>= put n)) named ∙ ap (λ o. o >>= put l.name) sorted

module _ (declared : List DeclaredOp) where
  pub other_lets : (at : ℕ) (form : Form) (before : List Form) → rank goal_keywords form ≡ Some at → (at == 0) ≡ false → (at == 2) ≡ false → lets_in declared (before ++ form ∷ []) ≡ lets_in declared before
  other_lets at form before e t0 t2 =
      ap₂ (λ is fs. lets_from declared is [] fs) (other_inputs at form before e t0) (same_rank at 2 form before false e t2 ∙ nothing_more (of_rank goal_keywords 2 before))

  pub no_lets_yet : (before : List Form) → of_rank goal_keywords 2 before ≡ [] → lets_in declared before ≡ []
  no_lets_yet before none = ap (lets_from declared (inputs_in before) []) none

  -- an input adds no let where there is none before it
  pub no_lets_more : (form : Form) (before : List Form) → rank goal_keywords form ≡ Some 0 → of_rank goal_keywords 2 before ≡ [] → lets_in declared (before ++ form ∷ []) ≡ []
  no_lets_more form before e none = no_lets_yet (before ++ form ∷ []) (same_rank 0 2 form before false e refl ∙ nothing_more (of_rank goal_keywords 2 before) ∙ none)

  pub one_let_in : (form : Form) (before : List Form) (l : SortedName) → rank goal_keywords form ≡ Some 2 → let_in (let_scope declared (inputs_in before) (lets_in declared before)) form ≡ Some l → lets_in declared (before ++ form ∷ []) ≡ lets_in declared before ++ l ∷ []
  one_let_in form before l e is =
      ap₂ (λ xs fs. lets_from declared xs [] fs) (other_inputs 2 form before e refl) (same_rank 2 2 form before true e refl) ∙ lets_from_more declared (inputs_in before) [] (of_rank goal_keywords 2 before) form
      ∙ ap (λ o. lets_in declared before ++ cons_option o []) is

module _ (declared : List DeclaredOp) (before : List Form) (form : Form) (d : Draft) (h : IsDraft declared before d) where
  -- an item that is no input, no let and no target leaves these as they are
  plain : (at : ℕ) (next : Draft) → rank goal_keywords form ≡ Some at → (at == 0) ≡ false → (at == 2) ≡ false → (at == 5) ≡ false → pool_read next.pool ≡ pool_in (before ++ form ∷ []) → next.scope ≡ d.scope → next.inputs ≡ d.inputs → next.lets ≡ d.lets → next.sets ≡ d.sets
      → IsDraft declared (before ++ form ∷ []) next
  plain at next e t0 t2 t4 pool scope inputs lets sets = record {
    scope = scope ∙ h.scope ∙ ap₂ (λ is ls. let_scope declared is ls) (sym (other_inputs at form before e t0)) (sym (other_lets declared at form before e t0 t2));
    inputs = inputs ∙ h.inputs ∙ sym (other_inputs at form before e t0);
    lets = ap names_of_lets lets ∙ h.lets ∙ ap sorted_names (sym (other_lets declared at form before e t0 t2));
    pool = pool;
    pins = ap pins_of_targets sets ∙ h.pins ∙ sym (other_pins at form before e t4);
    targets = ap names_of_targets sets ∙ h.targets ∙ sym (other_targets at form before e t4);
  }

  pool_stays : (at : ℕ) (next : Draft) → rank goal_keywords form ≡ Some at → (at == 1) ≡ false → next.pool ≡ d.pool → pool_read next.pool ≡ pool_in (before ++ form ∷ [])
  pool_stays at next e t1 same = ap pool_read same ∙ h.pool ∙ sym (other_pool at form before e t1)

  pub next_draft : (at : ℕ) (next : Draft) → rank goal_keywords form ≡ Some at → (at ≡ 0 → of_rank goal_keywords 2 before ≡ []) → (at ≡ 1 → of_rank goal_keywords 1 before ≡ []) → IsNext form d at next → IsDraft declared (before ++ form ∷ []) next
  next_draft at next e no_let no_pool (drafts.input i is same) =
      let inputs = one_input form before i e is in
      let was = no_lets_yet declared before (no_let refl) in
      let is_now = no_lets_more declared form before e (no_let refl) in
      let more = inputs_in before ++ i ∷ [] in
      let leaves : d.scope.leaves ++ input_leaf i ∷ [] ≡ (let_scope declared more []).leaves =
      ap (λ (s : Scope). s.leaves ++ input_leaf i ∷ []) (h.scope ∙ ap (λ ls. let_scope declared (inputs_in before) ls) was) ∙ ap (λ ls. ls ++ input_leaf i ∷ []) (nothing_more (goal_scope declared (inputs_in before)).leaves)
      ∙ ap (λ ls. ((goal_scope declared []).leaves) ++ ls) (sym (mapped_more input_leaf (inputs_in before) i)) ∙ sym (nothing_more (goal_scope declared more).leaves) in
      record {
        scope = ap (λ (x : Draft). x.scope) same ∙ ap (λ ls. record { declared = d.scope.declared; leaves = ls }) leaves
            ∙ ap (λ ds. record { declared = ds; leaves = (let_scope declared more []).leaves }) (ap (λ (s : Scope). s.declared) h.scope) ∙ ap₂ (λ xs ls. let_scope declared xs ls) (sym inputs) (sym is_now);
        inputs = ap (λ (x : Draft). x.inputs) same ∙ ap (λ xs. xs ++ i ∷ []) h.inputs ∙ sym inputs;
        lets = ap (λ (x : Draft). names_of_lets x.lets) same ∙ h.lets ∙ ap sorted_names (was ∙ sym is_now);
        pool = pool_stays 0 next e refl (ap (λ (x : Draft). x.pool) same);
        pins = ap (λ (x : Draft). pins_of_targets x.sets) same ∙ h.pins ∙ sym (other_pins 0 form before e refl);
        targets = ap (λ (x : Draft). names_of_targets x.sets) same ∙ h.targets ∙ sym (other_targets 0 form before e refl);
      }
  next_draft at next e no_let no_pool (drafts.pool registers is same) = plain 1 next e refl refl refl (ap (λ (x : Draft). pool_read x.pool) same ∙ is ∙ sym (one_pool form before e (no_pool refl))) (ap (λ (x : Draft). x.scope) same) (ap (λ (x : Draft). x.inputs) same) (ap (λ (x : Draft). x.lets) same) (ap (λ (x : Draft). x.sets) same)
  next_draft at next e no_let no_pool (drafts.binding one sort named value sorted same) =
      let before_lets = lets_in declared before in
      let l : SortedName = record { name = one.name; sort = sort } in
      let told : part_sort (let_scope declared (inputs_in before) before_lets) form 2 ≡ Some sort = subst (λ (s : Scope). part_sort s form 2 ≡ Some sort) h.scope sorted in
      let more = one_let_in declared form before l e (let_known (let_scope declared (inputs_in before) before_lets) form l named told) in
      let count : length d.lets ≡ length before_lets =
      (let n = ap length h.lets in let a = length-map d.lets (λ (x : Let). x.name) in let b = length-map before_lets (λ (x : SortedName). x.name) in omega (arith, n, a, b)) in
      let leaves : d.scope.leaves ++ let_leaf (length d.lets) one.name sort ∷ [] ≡ (let_scope declared (inputs_in before) (before_lets ++ l ∷ [])).leaves =
      ap (λ (s : Scope). s.leaves ++ let_leaf (length d.lets) one.name sort ∷ []) h.scope ∙ ap (λ n. (let_scope declared (inputs_in before) before_lets).leaves ++ let_leaf n one.name sort ∷ []) count
      ∙ scope_more declared (inputs_in before) before_lets l in
      record {
        scope = ap (λ (x : Draft). x.scope) same ∙ ap (λ ls. record { declared = d.scope.declared; leaves = ls }) leaves
            ∙ ap (λ ds. record { declared = ds; leaves = (let_scope declared (inputs_in before) (before_lets ++ l ∷ [])).leaves }) (ap (λ (s : Scope). s.declared) h.scope)
            ∙ ap₂ (λ xs ls. let_scope declared xs ls) (sym (other_inputs 2 form before e refl)) (sym more);
        inputs = ap (λ (x : Draft). x.inputs) same ∙ h.inputs ∙ sym (other_inputs 2 form before e refl);
        lets = ap (λ (x : Draft). names_of_lets x.lets) same ∙ mapped_more (λ (x : Let). x.name) d.lets one ∙ ap (λ ns. ns ++ one.name ∷ []) h.lets
            ∙ sym (mapped_more (λ (x : SortedName). x.name) before_lets l) ∙ ap sorted_names (sym more);
        pool = pool_stays 2 next e refl (ap (λ (x : Draft). x.pool) same);
        pins = ap (λ (x : Draft). pins_of_targets x.sets) same ∙ h.pins ∙ sym (other_pins 2 form before e refl);
        targets = ap (λ (x : Draft). names_of_targets x.sets) same ∙ h.targets ∙ sym (other_targets 2 form before e refl);
      }
  next_draft at next e no_let no_pool (drafts.assume one left right same) = plain 3 next e refl refl refl (pool_stays 3 next e refl (ap (λ (x : Draft). x.pool) same)) (ap (λ (x : Draft). x.scope) same) (ap (λ (x : Draft). x.inputs) same) (ap (λ (x : Draft). x.lets) same) (ap (λ (x : Draft). x.sets) same)
  next_draft at next e no_let no_pool (drafts.guard term is same) = plain 4 next e refl refl refl (pool_stays 4 next e refl (ap (λ (x : Draft). x.pool) same)) (ap (λ (x : Draft). x.scope) same) (ap (λ (x : Draft). x.inputs) same) (ap (λ (x : Draft). x.lets) same) (ap (λ (x : Draft). x.sets) same)
  next_draft at next e no_let no_pool (drafts.target one named pinned value same) = record {
    scope = ap (λ (x : Draft). x.scope) same ∙ h.scope ∙ ap₂ (λ is ls. let_scope declared is ls) (sym (other_inputs 5 form before e refl)) (sym (other_lets declared 5 form before e refl refl));
    inputs = ap (λ (x : Draft). x.inputs) same ∙ h.inputs ∙ sym (other_inputs 5 form before e refl);
    lets = ap (λ (x : Draft). names_of_lets x.lets) same ∙ h.lets ∙ ap sorted_names (sym (other_lets declared 5 form before e refl refl));
    pool = pool_stays 5 next e refl (ap (λ (x : Draft). x.pool) same);
    pins = ap (λ (x : Draft). pins_of_targets x.sets) same ∙ filter_more (λ (t : Set). t.pin) d.sets one ∙ ap (λ ps. ps ++ cons_option one.pin []) h.pins ∙ sym (one_pin form before one.pin e pinned);
    targets = ap (λ (x : Draft). names_of_targets x.sets) same ∙ mapped_more (λ (t : Set). t.name) d.sets one ∙ ap (λ ns. ns ++ one.name ∷ []) h.targets ∙ sym (one_target form before one.name e named);
  }

  abbrev roles_of : List DeclaredOp → List InputReg → Scope → List (List ℕ) → List (List ℕ) → List ℕ → ℕ → Role
  roles_of ds is scope leaves names taken at =
      get_or (a_list (roles.input ds is) ∷ a_list (roles.pool (input_registers is)) ∷ a_list (roles.binding scope leaves) ∷ a_list (roles.assume scope) ∷ a_list (roles.guard scope) ∷ a_list (roles.set scope names taken) ∷ []) at wrong

  -- what the code reads the item as is what the definition has
  pub role_same : (at : ℕ) → draft_role d at ≡ item_role declared before at
  role_same at =
      let taken = pool_read d.pool ++ pins_of_targets d.sets in
      let leaves = names_of_inputs d.inputs ++ names_of_lets d.lets in
      let all = names_of_inputs (inputs_in before) ++ sorted_names (lets_in declared before) in
      let scope = let_scope declared (inputs_in before) (lets_in declared before) in
      ap (λ ds. roles_of ds d.inputs d.scope leaves (names_of_targets d.sets) taken at) (ap (λ (s : Scope). s.declared) h.scope)
      ∙ ap (λ is. roles_of declared is d.scope leaves (names_of_targets d.sets) taken at) h.inputs
      ∙ ap (λ s. roles_of declared (inputs_in before) s leaves (names_of_targets d.sets) taken at) h.scope
      ∙ ap (λ ns. roles_of declared (inputs_in before) scope ns (names_of_targets d.sets) taken at) (ap₂ (λ xs ns. names_of_inputs xs ++ ns) h.inputs h.lets)
      ∙ ap (λ ns. roles_of declared (inputs_in before) scope all ns taken at) h.targets
      ∙ ap (λ rs. roles_of declared (inputs_in before) scope all (names_given (of_rank goal_keywords 5 before)) rs at) (ap₂ (λ p q. p ++ q) h.pool h.pins)

  pub admitted_role : (at : ℕ) → rank goal_keywords form ≡ Some at → IsAdmission goal_keywords before at (bound_at goal_bounds at).most Admitted → role_in goal_keywords goal_bounds before (item_role declared before) form ≡ draft_role d at
  admitted_role at e admitted = role_told goal_keywords goal_bounds before (item_role declared before) form at Admitted e admitted ∙ sym (role_same at)

-- ---- the faults of a goal
module _ (declared : List DeclaredOp) (names : List (List ℕ)) (form : Form) where
  abbrev pub whole : Role
  whole = a_list (goal declared names)

  pub goal_clear : 2 ≤ length (parts_of form) → list_any (is_of_rank goal_keywords 5) (items_of_goal form) ≡ true → (k : Kind) → IsOwn whole form k → ⊥
  goal_clear enough some k (too_few l) = absurd (omega (arith, enough, l))
  goal_clear enough some k (no_set e) = let f : true ≡ false = sym some ∙ e in cc

  pub item_at : (i : ℕ) (part : Form) → 2 ≤ i → slice_get (parts_of form) i ≡ Some part
      → part_role whole form i ≡ Some (role_in goal_keywords goal_bounds (items_before form i) (item_role declared (items_before form i)) part)
  item_at zero part l g = absurd (omega (arith, l))
  item_at (suc zero) part l g = absurd (omega (arith, l))
  item_at (suc (suc at)) part l g =
      subst (λ n. part_role whole form (suc (suc at)) ≡ Some (role_in goal_keywords goal_bounds (take n (items_of_goal form)) (item_role declared (take n (items_of_goal form))) part))
      (let e : at ≡ suc (suc at) - 2 = omega arith in e)
      (ap (λ o. option_map (role_in goal_keywords goal_bounds (take at (items_of_goal form)) (item_role declared (take at (items_of_goal form)))) o) (got_dropped (parts_of form) at ∙ g))

  pub before_next : (i : ℕ) (part : Form) → 2 ≤ i → slice_get (parts_of form) i ≡ Some part → items_before form (i + 1) ≡ items_before form i ++ part ∷ []
  before_next zero part l g = absurd (omega (arith, l))
  before_next (suc zero) part l g = absurd (omega (arith, l))
  before_next (suc (suc at)) part l g =
      ap (λ n. take n (items_of_goal form)) (let e : suc (suc at) + 1 - 2 ≡ at + 1 = omega arith in e) ∙ got_more (items_of_goal form) at part (got_dropped (parts_of form) at ∙ g)
      ∙ ap (λ n. take n (items_of_goal form) ++ part ∷ []) (let e : at ≡ suc (suc at) - 2 = omega arith in e)

  pub all_items : (i : ℕ) → length (parts_of form) ≤ i → items_before form i ≡ items_of_goal form
  all_items i most = take_all (i - 2) (drop 2 (parts_of form)) (let l = length-drop 2 (parts_of form) in omega (arith, l, most))

  pub clear_one : ClearTo IsOwn part_role whole form 1
  clear_one zero part other place kind l g e fault = let f : None ≡ Some other = e in absurd cc
  clear_one (suc j) part other place kind l g e fault = absurd (omega (arith, l))

  -- one part more without a fault
  pub clear_next : (i : ℕ) (part : Form) (role : Role) → slice_get (parts_of form) i ≡ Some part → part_role whole form i ≡ Some role → IsClear role part → ClearTo IsOwn part_role whole form i → ClearTo IsOwn part_role whole form (i + 1)
  clear_next i part role g e is clear j other as_role place kind below got role_is fault =
      elim (cases_order j i) [
        | inl same ↦
            let parts : Some part ≡ Some other = sym g ∙ ap (slice_get (parts_of form)) (sym same) ∙ got in
            let part_is : other ≡ part = cc in
            let both : Some as_role ≡ Some role = sym role_is ∙ ap (part_role whole form) same ∙ e in
            let role_same : as_role ≡ role = cc in
            is place kind (subst (λ (x : Role). IsFaultAs x part place kind) role_same (subst (λ (x : Form). IsFaultAs as_role x place kind) part_is fault))
        | inr (inl before) ↦ clear j other as_role place kind before got role_is fault
        | inr (inr after) ↦ absurd (omega (arith, below, after))
      ]

  pub whole_clear : (n : ℕ) → 2 ≤ length (parts_of form) → list_any (is_of_rank goal_keywords 5) (items_of_goal form) ≡ true → length (parts_of form) ≤ n → ClearTo IsOwn part_role whole form n → IsClear whole form
  whole_clear n enough some most clear =
      no_fault IsOwn part_role whole form (goal_clear enough some)
      (λ j part other place kind g e fault. clear j part other place kind (let l = got_within (parts_of form) j part g in omega (arith, l, most)) g e fault)

  module _ (low high : ℕ) (h : Stands low high form) where
    pub short_goal : length (parts_of form) < 2 → IsFirst (IsFaultAs whole form) (place_of form) BadForm
    short_goal l = first_own IsOwn part_role whole form low high BadForm h (too_few l) (λ k is. owns.own_at_least is)

    pub no_set_first : list_any (is_of_rank goal_keywords 5) (items_of_goal form) ≡ false → IsFirst (IsFaultAs whole form) (place_of form) BadForm
    no_set_first e = first_own IsOwn part_role whole form low high BadForm h (no_set e) (λ k is. owns.own_at_least is)

    pub part_first : (i : ℕ) (part : Form) (role : Role) (place : ℕ) (kind : Kind) → 2 ≤ length (parts_of form) → list_any (is_of_rank goal_keywords 5) (items_of_goal form) ≡ true
        → slice_get (parts_of form) i ≡ Some part → part_role whole form i ≡ Some role → ClearTo IsOwn part_role whole form i → IsFirst (IsFaultAs role part) place kind → IsFirst (IsFaultAs whole form) place kind
    part_first i part role place kind enough some g e clear first = first_inside IsOwn part_role whole form low high i part role place kind h (goal_clear enough some) g e clear first
