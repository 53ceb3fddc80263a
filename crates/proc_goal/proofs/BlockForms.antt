-- A block: its name, its guard, its sets, and where it leads to.
use Rattle.std.proofs.Common.{◌≡◌, ◌≢◌, ℕ, zero, suc, ◌+◌, ◌-◌, ◌<◌, ◌≤◌, ◌||◌, ◌++◌, Bool, true, false, Option, None, Some, List, [], ◌∷◌, length, map, take, drop, refl, sym, ap, ap₂, ◌∙◌, subst, arith, slice_get, option_map, codes, length-append}
use Rattle.std.specs.Prelude.{is_some}
use Rattle.std.proofs.lemmas.List.{append-nil, append_assoc, length-drop, length-take-le, take_all}
use Rattle.text_core.specs.Names.{is_among}
use Rattle.text_core.specs.declared.faults.Kind.{Kind}
use Rattle.text_core.specs.declared.faults.Kind.TheVariants.{BadForm}
use Rattle.text_core.specs.Faults.{IsFirst}
use Rattle.forms.specs.Forms.{Form, place_of, parts_of, name_in, Stands}
use Rattle.machine_table.specs.Grammar.{Each, IsListOf}
use Rattle.machine_table.specs.Roles.{has_head}
use Rattle.machine_table.proofs.Parts.{headed}
use Rattle.goal_meaning.specs.Views.{TargetTree}
use Rattle.goal_meaning.specs.declared.goals.InputReg.{InputReg}
use Rattle.goal_reader.specs.Reading.{IsClear}
use Rattle.goal_reader.specs.Roles.{fresh_name, IsFaultAs, items_of_goal}
use Rattle.goal_reader.proofs.ItemForms.{is_name}
use Rattle.goal_reader.proofs.NewNames.{fresh_name_clear}
use Rattle.proc_goal.specs.ProcGrammar.{WritesBlock, WritesGo, WritesSet, WritesWhen, unguarded}
use Rattle.proc_goal.specs.ProcReading.{AreClearTo, AreSets, EndsBefore, IsClearProc, IsEndFront, IsFirstAmong, IsFirstAs, IsGuardFault, IsGuardFront, IsGuardRead, IsLastItem, absent, there}
use Rattle.proc_goal.specs.ProcRoles.{ProcRole, of_goal, a_block, a_guard, a_go, no_go, has_list, lists_of, step_role}
use Rattle.proc_goal.specs.Views.{BlockTree, WhenTree}
use Rattle.proc_goal.specs.declared.procs.Target.{Target}
use Rattle.proc_goal.proofs.Embedded.{goal_clear, goal_first}
use Rattle.proc_goal.proofs.Items.{AllBegin, each_begins, has_both, has_none, lists_none, other_head, set_begins}
use Rattle.proc_goal.proofs.Leaves.{HasNone, ClearParts, clear_next, clear_silent, clear_zero, form_first, part_first, true_false}
use Rattle.proc_goal.proofs.Sequences.{after, both_clear, first_behind, front_clear, item_first, none_clear, one_more_clear, whole_clear}
use Rattle.proc_goal.proofs.SetSteps.{as_guard, as_none, end_clear}

-- ---- lists that are taken apart
pub parted : {X : Type 0} (n : ℕ) (xs : List X) → take n xs ++ drop n xs ≡ xs
parted zero xs = refl
parted (suc n) [] = refl
parted (suc n) (x ∷ xs) = ap (λ ys. x ∷ ys) (parted n xs)

first_dropped : (n : ℕ) (xs : List Form) → slice_get (drop n xs) 0 ≡ slice_get xs n
first_dropped zero xs = refl
first_dropped (suc n) [] = refl
first_dropped (suc n) (x ∷ xs) = first_dropped n xs

pub name_and_rest : (xs : List Form) (a : Form) → slice_get xs 1 ≡ Some a → drop 1 xs ≡ a ∷ drop 2 xs
name_and_rest [] a g = cc
name_and_rest (x ∷ []) a g = cc
name_and_rest (x ∷ y ∷ ys) a g = (let same : y ≡ a = cc in ap (λ v. v ∷ ys) same)

-- ---- the guard, where there is one
module _ (vars : List InputReg) (names : List (List ℕ)) (items : List Form) where
  abbrev R : List Form → Form → ProcRole
  R = step_role vars names

  pub guard_fault_first : (place : ℕ) (kind : Kind) → IsGuardFault vars names items place kind → IsFirstAmong R items place kind
  guard_fault_first place kind f = record {
    at = 0;
    form = f.form;
    there = f.there;
    clear = none_clear R items;
    first = subst (λ (r : ProcRole). IsFirstAs r f.form place kind) (sym (as_guard vars names [] f.form f.head refl)) f.first;
  }

  -- the guard as the front of the items
  pub record IsFront (n : ℕ) (when : Option WhenTree) : Type 0 where
    pub few : n ≤ 1
    pub within : n ≤ length items
    pub writes : WritesWhen vars names (take n items) when
    pub clear : AreClearTo R items n
    pub front : IsGuardFront (take n items)
    pub plain : n ≡ 0 → EndsBefore (codes "when") items 0

  first_taken : (xs : List Form) (f : Form) → slice_get xs 0 ≡ Some f → (take 1 xs ≡ f ∷ []) × (1 ≤ length xs)
  first_taken [] f g = cc
  first_taken (x ∷ xs) f g = (let same : x ≡ f = cc in (ap (λ v. v ∷ []) same, omega arith))

  abbrev pub count_of : Option WhenTree → ℕ
  count_of None = 0
  count_of (Some w) = 1

  pub front_is : (when : Option WhenTree) → IsGuardRead vars names items when → IsFront (count_of when) when
  front_is None (absent ends) = record {
    few = omega arith;
    within = omega arith;
    writes = unguarded;
    clear = none_clear R items;
    front = record { no_go = refl; no_set = refl };
    plain = λ e. ends;
  }
  front_is (Some w) (there form g h writes clear) =
      let t = first_taken items form g in
      record {
        few = omega arith;
        within = t.1;
        writes = subst (λ fs. WritesWhen vars names fs (Some w)) (sym t.0) writes;
        clear = one_more_clear R items 0 form g (subst (λ (r : ProcRole). IsClearProc r form) (sym (as_guard vars names [] form h refl)) clear) (none_clear R items);
        front = subst IsGuardFront (sym t.0) (record {
          no_go = ap (λ b. b || false) (other_head (codes "when") (codes "go") form h refl);
          no_set = lists_none (codes "when") (codes "set") (form ∷ []) (h, tt) refl;
        });
        plain = λ e. absurd (omega (arith, e));
      }

-- ---- what stands behind the guard and the sets
module _ (vars : List InputReg) (names : List (List ℕ)) (items : List Form) (n : ℕ) (when : Option WhenTree) (f : IsFront vars names items n when) (ts : List TargetTree) (s : AreSets vars (drop n items) ts) where
  abbrev whens : List Form
  whens = take n items

  abbrev steps : List Form
  steps = drop n items

  abbrev sets : List Form
  sets = take (length ts) steps

  abbrev rest : List Form
  rest = drop (length ts) steps

  abbrev front : List Form
  front = whens ++ sets

  pub items_parted : items ≡ front ++ rest
  items_parted = sym (append_assoc whens sets rest ∙ ap (λ fs. whens ++ fs) (parted (length ts) steps) ∙ parted n items)

  begin : AllBegin (codes "set") sets
  begin = each_begins (WritesSet vars) (codes "set") (set_begins vars) sets ts s.each

  no_go_front : has_list (codes "go") front ≡ false
  no_go_front = has_both (codes "go") whens sets ∙ ap₂ (λ a b. a || b) f.front.no_go (has_none (codes "set") (codes "go") sets begin refl)

  length_whens : length whens ≡ n
  length_whens = length-take-le n items f.within

  length_sets : length sets ≡ length ts
  length_sets = length-take-le (length ts) steps s.within

  -- where nothing stands before, the first item is no guard
  no_guard : (form : Form) → slice_get rest 0 ≡ Some form → has_head (codes "when") form ≡ true → length front ≡ 0 → ⊥
  no_guard form g h e =
      let total = length-append whens sets in
      let a = length_whens in
      let b = length_sets in
      let z : n ≡ 0 = omega (arith, e, total, a) in
      let y : length ts ≡ 0 = omega (arith, e, total, b) in
      let at : slice_get items 0 ≡ Some form = sym (ap (slice_get items) z) ∙ sym (first_dropped n items) ∙ sym (ap (slice_get steps) y) ∙ sym (first_dropped (length ts) steps) ∙ g in
      true_false h (f.plain z form at)

  no_set_next : (form : Form) → slice_get rest 0 ≡ Some form → has_head (codes "set") form ≡ false
  no_set_next form g = s.ends form (sym (first_dropped (length ts) steps) ∙ g)

  pub end_front : IsEndFront front rest
  end_front = record {
    no_go = no_go_front;
    next = λ form g h vs ns. as_none vs ns front form (no_guard form g) (no_set_next form g) h;
  }

  -- something is left, where the block leads somewhere
  pub some_left : has_list (codes "go") items ≡ true → 0 < length rest
  some_left e = by_rest rest (sym (ap (has_list (codes "go")) items_parted) ∙ e)
    where
      by_rest : (r : List Form) → has_list (codes "go") (front ++ r) ≡ true → 0 < length r
      by_rest [] t = absurd (true_false t (ap (has_list (codes "go")) (append-nil front) ∙ no_go_front))
      by_rest (x ∷ xs) t = omega arith

  sets_clear : AreClearTo (step_role vars names) (whens ++ steps) (length whens + length ts)
  sets_clear =
      both_clear (step_role vars names) whens steps (length ts)
      (subst (λ fs. AreClearTo (step_role vars names) fs (length whens)) (sym (parted n items)) (subst (λ m. AreClearTo (step_role vars names) items m) (sym length_whens) f.clear))
      (s.clear names whens f.front)

  front_read : AreClearTo (step_role vars names) (front ++ rest) (length front)
  front_read =
      let total = length-append whens sets in
      let b = length_sets in
      let same : length whens + length ts ≡ length front = omega (arith, total, b) in
      subst (λ m. AreClearTo (step_role vars names) (front ++ rest) m) same (subst (λ fs. AreClearTo (step_role vars names) fs (length whens + length ts)) (parted n items ∙ items_parted) sets_clear)

  -- a fault of the sets, and of what stands behind them
  pub sets_first : (place : ℕ) (kind : Kind) → IsFirstAmong (after whens (step_role vars names)) steps place kind → IsFirstAmong (step_role vars names) items place kind
  sets_first place kind one =
      subst (λ fs. IsFirstAmong (step_role vars names) fs place kind) (parted n items)
      (first_behind (step_role vars names) whens steps place kind
      (subst (λ fs. AreClearTo (step_role vars names) fs (length whens)) (sym (parted n items)) (subst (λ m. AreClearTo (step_role vars names) items m) (sym length_whens) f.clear)) one)

  pub end_first : (place : ℕ) (kind : Kind) → IsFirstAmong (after front (step_role vars names)) rest place kind → IsFirstAmong (step_role vars names) items place kind
  end_first place kind one =
      subst (λ fs. IsFirstAmong (step_role vars names) fs place kind) (sym items_parted) (first_behind (step_role vars names) front rest place kind front_read one)

  module _ (go : Target) (e : IsLastItem names rest go) where
    pub items_written : items ≡ whens ++ (sets ++ e.form ∷ [])
    items_written = items_parted ∙ append_assoc whens sets rest ∙ ap (λ fs. whens ++ (sets ++ fs)) e.alone

    pub items_clear : AreClearTo (step_role vars names) items (length items)
    items_clear =
        let last : AreClearTo (after front (step_role vars names)) rest 1 = end_clear vars names front rest end_front e.form (ap (λ fs. slice_get fs 0) e.alone) e.head e.clear in
        let all = both_clear (step_role vars names) front rest 1 front_read last in
        let count : length front + 1 ≡ length items =
        (let total = length-append front rest in let one = ap length e.alone in let is = ap length items_parted in omega (arith, total, one, is)) in
        subst (λ m. AreClearTo (step_role vars names) items m) count (subst (λ fs. AreClearTo (step_role vars names) fs (length front + 1)) (sym items_parted) all)

-- ---- the sets alone: the first fault of an item behind the guard
pub sets_fault_first : (vars : List InputReg) (names : List (List ℕ)) (items : List Form) (n : ℕ) (when : Option WhenTree) → IsFront vars names items n when → (place : ℕ) (kind : Kind)
    → IsFirstAmong (after (take n items) (step_role vars names)) (drop n items) place kind → IsFirstAmong (step_role vars names) items place kind
sets_fault_first vars names items n when f place kind one =
    subst (λ fs. IsFirstAmong (step_role vars names) fs place kind) (parted n items)
    (first_behind (step_role vars names) (take n items) (drop n items) place kind
    (subst (λ fs. AreClearTo (step_role vars names) fs (length (take n items))) (sym (parted n items)) (subst (λ m. AreClearTo (step_role vars names) items m) (sym (length-take-le n items f.within)) f.clear)) one)

-- ---- the block
module _ (vars : List InputReg) (names before : List (List ℕ)) (form : Form) where
  abbrev one_block : ProcRole
  one_block = a_block vars names before

  block_own : has_list (codes "go") (items_of_goal form) ≡ true → HasNone one_block form
  block_own e k (no_go h) = true_false e h

  pub no_go_first : (low high : ℕ) → Stands low high form → has_list (codes "go") (items_of_goal form) ≡ false → IsFirstAs one_block form (place_of form) BadForm
  no_go_first low high h e = form_first one_block form low high h (no_go e)

  keyword_clear : ClearParts one_block form 1
  keyword_clear = clear_silent one_block form 0 refl (clear_zero one_block form)

  module _ (e : has_list (codes "go") (items_of_goal form) ≡ true) (first : Form) (g : slice_get (parts_of form) 1 ≡ Some first) where
    pub block_name_first : (low high place : ℕ) (kind : Kind) → Stands low high form → IsFirst (IsFaultAs (fresh_name (codes "done" ∷ before)) first) place kind → IsFirstAs one_block form place kind
    block_name_first low high place kind h one =
        part_first one_block form low high 1 first (of_goal (fresh_name (codes "done" ∷ before))) place kind h (block_own e) g refl keyword_clear
        (goal_first (fresh_name (codes "done" ∷ before)) first place kind one)

    module _ (bytes : List ℕ) (n : name_in first ≡ Some bytes) (fresh : is_among (codes "done" ∷ before) bytes ≡ false) where
      name_read : ClearParts one_block form 2
      name_read =
          clear_next one_block form 1 first (of_goal (fresh_name (codes "done" ∷ before))) g refl
          (goal_clear (fresh_name (codes "done" ∷ before)) first (fresh_name_clear (codes "done" ∷ before) first bytes n fresh)) keyword_clear

      pub block_item_first : (low high place : ℕ) (kind : Kind) → Stands low high form → IsFirstAmong (step_role vars names) (items_of_goal form) place kind → IsFirstAs one_block form place kind
      block_item_first low high place kind h one =
          item_first one_block form (step_role vars names) (λ at. refl) (block_own e) name_read low high place kind h one

      pub block_clear : AreClearTo (step_role vars names) (items_of_goal form) (length (items_of_goal form)) → IsClearProc one_block form
      block_clear clear =
          whole_clear one_block form (step_role vars names) (λ at. refl) (block_own e) name_read
          (let l = length-drop 2 (parts_of form) in omega (arith, l)) clear

pub block_writes : (vars : List InputReg) (names : List (List ℕ)) (form first : Form) (b : BlockTree) → has_head (codes "block") form ≡ true → slice_get (parts_of form) 1 ≡ Some first → name_in first ≡ Some b.name
    → (n : ℕ) (f : IsFront vars names (items_of_goal form) n b.when) (s : AreSets vars (drop n (items_of_goal form)) b.sets) (e : IsLastItem names (drop (length b.sets) (drop n (items_of_goal form))) b.go) → WritesBlock vars names form b
block_writes vars names form first b h g named n f s e =
    let parts : drop 1 (parts_of form) ≡ first ∷ (take n (items_of_goal form) ++ (take (length b.sets) (drop n (items_of_goal form)) ++ e.form ∷ [])) =
    name_and_rest (parts_of form) first g ∙ ap (λ fs. first ∷ fs) (items_written vars names (items_of_goal form) n b.when f b.sets s b.go e) in
    record {
      name_form = first;
      whens = take n (items_of_goal form);
      sets = take (length b.sets) (drop n (items_of_goal form));
      last = e.form;
      is = subst (λ ps. IsListOf (codes "block") ps form) parts (headed (codes "block") form h);
      named = is_name first b.name named;
      guard = f.writes;
      each_set = s.each;
      go = e.writes;
    }
