-- The sets of a block, one after the other, and the item that comes last.
use Rattle.std.proofs.Common.{◌≡◌, ◌≢◌, ℕ, zero, suc, ◌+◌, ◌<◌, ◌≤◌, ◌||◌, ◌++◌, ◌==◌, if◌then◌else◌, Bool, true, false, Option, None, Some, List, [], ◌∷◌, length, map, take, refl, sym, ap, ap₂, ◌∙◌, subst, arith, slice_get, codes, length-append}
use Rattle.std.specs.Prelude.{AllPairs}
use Rattle.std.proofs.lemmas.Bool.Decides.{Decides-eqb}
use Rattle.std.proofs.lemmas.List.{append-nil}
use Rattle.text_core.specs.declared.faults.Kind.{Kind}
use Rattle.text_core.specs.declared.faults.Kind.TheVariants.{BadForm, LimitPassed}
use Rattle.forms.specs.Forms.{Form, place_of, Stands}
use Rattle.machine_table.specs.Grammar.{Each}
use Rattle.machine_table.specs.Roles.{has_head}
use Rattle.goal_meaning.specs.Views.{TargetTree, target_view}
use Rattle.goal_meaning.specs.declared.goals.InputReg.{InputReg}
use Rattle.goal_meaning.specs.declared.goals.Set.{Set}
use Rattle.goal_reader.specs.Reading.{names_of_targets}
use Rattle.goal_reader.specs.Roles.{names_given}
use Rattle.goal_reader.proofs.GoalSteps.{got_more}
use Rattle.goal_reader.proofs.Names.{not_true}
use Rattle.goal_reader.proofs.WrittenItems.{each_more}
use Rattle.proc_goal.specs.ProcGrammar.{WritesSet}
use Rattle.proc_goal.specs.ProcReading.{AreClearTo, IsClearProc, IsEndFront, IsFirstAmong, IsFirstAs, IsGuardFront}
use Rattle.proc_goal.specs.ProcRoles.{ProcRole, a_guard, a_set, a_go, not_there, has_list, lists_of, set_role, step_role, role_up_to}
use Rattle.proc_goal.proofs.Items.{has_both, other_head, set_here, set_past}
use Rattle.proc_goal.proofs.Leaves.{past_first, wrong_first}
use Rattle.proc_goal.proofs.Sequences.{after, none_clear, one_more_clear}

pub names_viewed : (sets : List Set) → map (λ (t : TargetTree). t.name) (map target_view sets) ≡ names_of_targets sets
names_viewed [] = refl
names_viewed (s ∷ ss) = ap (λ ns. s.name ∷ ns) (names_viewed ss)

abbrev pub names_set : List TargetTree → List (List ℕ)
names_set ts = map (λ (t : TargetTree). t.name) ts

-- ---- the front of the items behind the guard
module _ (vars : List InputReg) (items : List Form) (i : ℕ) (form : Form) (g : slice_get items i ≡ Some form) (ts : List TargetTree) (each : Each (WritesSet vars) (take i items) ts) (h : has_head (codes "set") form ≡ true) (counted : length (take i items) ≡ i) where
  module _ (names : List (List ℕ)) (front : List Form) (is : IsGuardFront front) (clear : AreClearTo (after front (step_role vars names)) items i) where
    role_is : i < 16 → step_role vars names (front ++ take i items) form ≡ a_set vars (names_set ts)
    role_is l = set_here vars front is (take i items) ts each names form h (omega (arith, counted, l))

    pub set_item_first : (place : ℕ) (kind : Kind) → i < 16 → IsFirstAs (a_set vars (names_set ts)) form place kind → IsFirstAmong (after front (step_role vars names)) items place kind
    set_item_first place kind l first = record {
      at = i;
      form = form;
      there = g;
      clear = clear;
      first = subst (λ (r : ProcRole). IsFirstAs r form place kind) (sym (role_is l)) first;
    }

    pub set_beyond_first : (low high : ℕ) → Stands low high form → 16 ≤ i → IsFirstAmong (after front (step_role vars names)) items (place_of form) LimitPassed
    set_beyond_first low high s l = record {
      at = i;
      form = form;
      there = g;
      clear = clear;
      first = subst (λ (r : ProcRole). IsFirstAs r form (place_of form) LimitPassed) (sym (set_past vars front is (take i items) ts each names form h (omega (arith, counted, l)))) (past_first form low high s);
    }

    pub set_item_clear : i < 16 → IsClearProc (a_set vars (names_set ts)) form → AreClearTo (after front (step_role vars names)) items (i + 1)
    set_item_clear l one = one_more_clear (after front (step_role vars names)) items i form g (subst (λ (r : ProcRole). IsClearProc r form) (sym (role_is l)) one) clear

  pub set_item_more : (t : TargetTree) → WritesSet vars form t → Each (WritesSet vars) (take (i + 1) items) (ts ++ t ∷ [])
  set_item_more t w = subst (λ fs. Each (WritesSet vars) fs (ts ++ t ∷ [])) (sym (got_more items i form g)) (each_more (WritesSet vars) (take i items) ts form t each w)

-- ---- the roles of the last item
module _ (vars : List InputReg) (names : List (List ℕ)) (before : List Form) (form : Form) where
  abbrev choose : Bool → Bool → Bool → ProcRole
  choose a b c =
      if a then (if length before == 0 then a_guard vars names else not_there) else if b then set_role vars before
      else if c then (if has_list (codes "go") before then not_there else a_go names) else not_there

  pub as_go : has_head (codes "go") form ≡ true → has_list (codes "go") before ≡ false → step_role vars names before form ≡ a_go names
  as_go h e =
      ap (λ x. choose x (has_head (codes "set") form) (has_head (codes "go") form)) (other_head (codes "go") (codes "when") form h refl)
      ∙ ap (λ x. choose false x (has_head (codes "go") form)) (other_head (codes "go") (codes "set") form h refl) ∙ ap (choose false false) h
      ∙ ap (λ b. if b then not_there else a_go names) e

  pub as_guard : has_head (codes "when") form ≡ true → length before ≡ 0 → step_role vars names before form ≡ a_guard vars names
  as_guard h e =
      ap (λ x. choose x (has_head (codes "set") form) (has_head (codes "go") form)) h
      ∙ ap (λ b. if b then a_guard vars names else not_there) ((Decides-eqb (length before) 0).1 e)

  -- neither a guard that stands there, nor a set, nor the last item
  pub as_none : (has_head (codes "when") form ≡ true → length before ≡ 0 → ⊥) → has_head (codes "set") form ≡ false → has_head (codes "go") form ≡ false → step_role vars names before form ≡ not_there
  as_none a b c =
      ap (λ x. choose (has_head (codes "when") form) x (has_head (codes "go") form)) b ∙ ap (λ x. choose (has_head (codes "when") form) false x) c
      ∙ by_head (has_head (codes "when") form) refl
    where
      by_head : (x : Bool) → has_head (codes "when") form ≡ x → choose x false false ≡ not_there
      by_head true e = ap (λ b. if b then a_guard vars names else not_there) (not_true (length before == 0) (λ t. a e ((Decides-eqb (length before) 0).0 t)))
      by_head false e = refl

  -- behind the last item nothing stands
  pub as_behind : has_list (codes "go") before ≡ true → step_role vars names before form ≡ not_there
  as_behind e =
      ap (λ (r : ProcRole). if has_head (codes "when") form then (if length before == 0 then a_guard vars names else not_there) else if has_head (codes "set") form then r else if has_head (codes "go") form then (if has_list (codes "go") before then not_there else a_go names) else not_there)
      (ap (λ b. if b then not_there else role_up_to 16 (lists_of (codes "set") before) (a_set vars (names_given (lists_of (codes "set") before)))) e)
      ∙ ap (λ b. if has_head (codes "when") form then (if length before == 0 then a_guard vars names else not_there) else if has_head (codes "set") form then not_there else if has_head (codes "go") form then (if b then not_there else a_go names) else not_there) e
      ∙ ap (λ b. if has_head (codes "when") form then (if b then a_guard vars names else not_there) else if has_head (codes "set") form then not_there else if has_head (codes "go") form then not_there else not_there) (some_before before e)
      ∙ all_same (has_head (codes "when") form) (has_head (codes "set") form) (has_head (codes "go") form)
    where
      some_before : (fs : List Form) → has_list (codes "go") fs ≡ true → (length fs == 0) ≡ false
      some_before [] t = cc
      some_before (f ∷ fs) t = not_true (length (f ∷ fs) == 0) (λ z. let e = (Decides-eqb (length (f ∷ fs)) 0).0 z in omega (arith, e))

      all_same : (a b c : Bool) → (if a then (if false then a_guard vars names else not_there) else if b then not_there else if c then not_there else not_there) ≡ not_there
      all_same true b c = refl
      all_same false true c = refl
      all_same false false true = refl
      all_same false false false = refl

-- ---- the last item
module _ (vars : List InputReg) (names : List (List ℕ)) (front items : List Form) (is : IsEndFront front items) (form : Form) (g : slice_get items 0 ≡ Some form) where
  abbrev R : List Form → Form → ProcRole
  R = after front (step_role vars names)

  bare : front ++ take 0 items ≡ front
  bare = append-nil front

  pub end_wrong_first : (low high : ℕ) → Stands low high form → has_head (codes "go") form ≡ false → IsFirstAmong R items (place_of form) BadForm
  end_wrong_first low high s h = record {
    at = 0;
    form = form;
    there = g;
    clear = none_clear R items;
    first = subst (λ (r : ProcRole). IsFirstAs r form (place_of form) BadForm) (sym (ap (λ fs. step_role vars names fs form) bare ∙ is.next form g h vars names)) (wrong_first form low high s);
  }

  module _ (h : has_head (codes "go") form ≡ true) where
    end_role : step_role vars names (front ++ take 0 items) form ≡ a_go names
    end_role = ap (λ fs. step_role vars names fs form) bare ∙ as_go vars names front form h is.no_go

    pub end_go_first : (place : ℕ) (kind : Kind) → IsFirstAs (a_go names) form place kind → IsFirstAmong R items place kind
    end_go_first place kind first = record {
      at = 0;
      form = form;
      there = g;
      clear = none_clear R items;
      first = subst (λ (r : ProcRole). IsFirstAs r form place kind) (sym end_role) first;
    }

    pub end_clear : IsClearProc (a_go names) form → AreClearTo R items 1
    end_clear clear = one_more_clear R items 0 form g (subst (λ (r : ProcRole). IsClearProc r form) (sym end_role) clear) (none_clear R items)

    pub end_second_first : (clear : IsClearProc (a_go names) form) (second : Form) (low high : ℕ) → Stands low high second → slice_get items 1 ≡ Some second → IsFirstAmong R items (place_of second) BadForm
    end_second_first clear second low high s g2 = record {
      at = 1;
      form = second;
      there = g2;
      clear = end_clear clear;
      first = subst (λ (r : ProcRole). IsFirstAs r second (place_of second) BadForm) (sym (as_behind vars names (front ++ take 1 items) second go_there)) (wrong_first second low high s);
    }
      where
        or_any : (b : Bool) → b || true ≡ true
        or_any true = refl
        or_any false = refl

        taken : (fs : List Form) → slice_get fs 0 ≡ Some form → take 1 fs ≡ form ∷ []
        taken [] e = cc
        taken (f ∷ fs) e = (let same : f ≡ form = cc in ap (λ x. x ∷ []) same)

        go_there : has_list (codes "go") (front ++ take 1 items) ≡ true
        go_there =
            has_both (codes "go") front (take 1 items) ∙ ap (λ fs. has_list (codes "go") front || has_list (codes "go") fs) (taken items g)
            ∙ ap (λ b. has_list (codes "go") front || (b || false)) h ∙ or_any (has_list (codes "go") front)
