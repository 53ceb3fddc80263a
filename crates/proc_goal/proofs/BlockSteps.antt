-- The blocks of a proc, one after the other.
use Rattle.std.proofs.Common.{◌≡◌, ◌≢◌, ℕ, zero, suc, ◌+◌, ◌<◌, ◌≤◌, ◌||◌, ◌++◌, Bool, true, false, None, Some, List, [], ◌∷◌, length, map, take, refl, sym, ap, ap₂, ◌∙◌, subst, arith, slice_get, bytes_eq, codes}
use Rattle.std.specs.Prelude.{AllPairs}
use Rattle.std.specs.List.{list_any}
use Rattle.std.proofs.lemmas.Bool.{or_parts}
use Rattle.std.proofs.lemmas.List.{append-nil}
use Rattle.std.proofs.lemmas.List.Elements.{All-nil, All-push}
use Rattle.std.proofs.lemmas.List.Folds.{list_any-append}
use Rattle.std.proofs.lemmas.List.Quantifiers.{all_pairs_push}
use Rattle.std.proofs.lemmas.Slice.Eq.{bytes_eq-Decides}
use Rattle.text_core.specs.Names.{is_among}
use Rattle.text_core.specs.declared.faults.Kind.{Kind}
use Rattle.text_core.specs.declared.faults.Kind.TheVariants.{BadForm, LimitPassed}
use Rattle.forms.specs.Forms.{Form, place_of, Stands}
use Rattle.machine_table.specs.Grammar.{Each}
use Rattle.machine_table.specs.Roles.{has_head}
use Rattle.goal_meaning.specs.Views.{TargetTree}
use Rattle.goal_meaning.specs.declared.goals.InputReg.{InputReg}
use Rattle.goal_reader.proofs.Different.{among_apart, pairs_nil}
use Rattle.goal_reader.proofs.GoalSteps.{got_more}
use Rattle.goal_reader.proofs.Keeping.{longer_by}
use Rattle.goal_reader.proofs.WrittenItems.{each_more}
use Rattle.proc_goal.specs.ProcGrammar.{WritesBlock}
use Rattle.proc_goal.specs.ProcReading.{AreClearTo, HaveOwnNames, IsClearProc, IsFirstAmong, IsFirstAs, IsProcFront}
use Rattle.proc_goal.specs.ProcRoles.{ProcRole, a_block, not_there, ends_variables, proc_item_role}
use Rattle.proc_goal.specs.Views.{BlockTree, names_of_blocks}
use Rattle.proc_goal.proofs.Items.{as_late, block_begins, block_here, block_past, each_begins, ends_block, AllBegin}
use Rattle.proc_goal.proofs.Leaves.{past_first, wrong_first}
use Rattle.proc_goal.proofs.Sequences.{after, one_more_clear}

pub no_blocks : HaveOwnNames []
no_blocks = record {
  differ = pairs_nil (λ (a b : BlockTree). a.name ≢ b.name);
  not_done = All-nil (λ (b : BlockTree). b.name ≢ codes "done");
  set_names = All-nil (λ (b : BlockTree). AllPairs (λ (s t : TargetTree). s.name ≢ t.name) b.sets);
  few_sets = All-nil (λ (b : BlockTree). length b.sets ≤ 16);
  few = omega arith;
}

pub more_blocks : (bs : List BlockTree) (b : BlockTree) → HaveOwnNames bs → is_among (codes "done" ∷ names_of_blocks bs) b.name ≡ false → AllPairs (λ (s t : TargetTree). s.name ≢ t.name) b.sets → length b.sets ≤ 16 → length bs < 64
    → HaveOwnNames (bs ++ b ∷ [])
more_blocks bs b k fresh pairs few_sets few =
    let split = or_parts (bytes_eq (codes "done") b.name) (is_among (names_of_blocks bs) b.name) fresh in
    record {
      differ = all_pairs_push (λ (x y : BlockTree). x.name ≢ y.name) bs b k.differ (among_apart (λ (x : BlockTree). x.name) bs b.name split.1);
      not_done = All-push (λ (x : BlockTree). x.name ≢ codes "done") bs b k.not_done (not_equal b.name split.0);
      set_names = All-push (λ (x : BlockTree). AllPairs (λ (s t : TargetTree). s.name ≢ t.name) x.sets) bs b k.set_names pairs;
      few_sets = All-push (λ (x : BlockTree). length x.sets ≤ 16) bs b k.few_sets few_sets;
      few = longer_by 64 bs b (length bs) refl few;
    }
  where
    not_equal : (name : List ℕ) → bytes_eq (codes "done") name ≡ false → name ≢ codes "done"
    not_equal name f e = (let t : true ≡ false = sym ((bytes_eq-Decides (codes "done") name).1 (sym e)) ∙ f in cc)

module _ (vars : List InputReg) (names : List (List ℕ)) (items : List Form) (i : ℕ) (form : Form) (g : slice_get items i ≡ Some form) (bs : List BlockTree) (each : Each (WritesBlock vars names) (take i items) bs) (counted : length (take i items) ≡ i) where
  pub block_item_more : (b : BlockTree) → WritesBlock vars names form b → Each (WritesBlock vars names) (take (i + 1) items) (bs ++ b ∷ [])
  block_item_more b w = subst (λ fs. Each (WritesBlock vars names) fs (bs ++ b ∷ [])) (sym (got_more items i form g)) (each_more (WritesBlock vars names) (take i items) bs form b each w)

  module _ (front : List Form) (is : IsProcFront vars front items) (clear : AreClearTo (after front (proc_item_role names)) items i) where
    abbrev R : List Form → Form → ProcRole
    R = after front (proc_item_role names)

    -- behind blocks nothing else stands
    other_role : has_head (codes "block") form ≡ false → proc_item_role names (front ++ take i items) form ≡ not_there
    other_role h = by_count i refl
      where
        some_ends : (fs : List Form) → AllBegin (codes "block") fs → 0 < length fs → list_any ends_variables fs ≡ true
        some_ends [] b l = absurd (omega (arith, l))
        some_ends (f ∷ fs) b l = ap (λ x. x || list_any ends_variables fs) (ends_block f b.0)

        or_any : (b : Bool) → b || true ≡ true
        or_any true = refl
        or_any false = refl

        by_count : (n : ℕ) → n ≡ i → proc_item_role names (front ++ take i items) form ≡ not_there
        by_count zero e =
            ap (λ m. proc_item_role names (front ++ take m items) form) (sym e) ∙ ap (λ fs. proc_item_role names fs form) (append-nil front)
            ∙ is.next form (ap (slice_get items) e ∙ g) h names
        by_count (suc n) e =
            as_late names (front ++ take i items) form
            (list_any-append ends_variables front (take i items)
            ∙ ap (λ b. list_any ends_variables front || b) (some_ends (take i items) (each_begins (WritesBlock vars names) (codes "block") (block_begins vars names) (take i items) bs each) (omega (arith, counted, e)))
            ∙ or_any (list_any ends_variables front)) h

    pub other_first : (low high : ℕ) → Stands low high form → has_head (codes "block") form ≡ false → IsFirstAmong R items (place_of form) BadForm
    other_first low high s h = record {
      at = i;
      form = form;
      there = g;
      clear = clear;
      first = subst (λ (r : ProcRole). IsFirstAs r form (place_of form) BadForm) (sym (other_role h)) (wrong_first form low high s);
    }

    module _ (h : has_head (codes "block") form ≡ true) where
      pub beyond_first : (low high : ℕ) → Stands low high form → 64 ≤ i → IsFirstAmong R items (place_of form) LimitPassed
      beyond_first low high s l = record {
        at = i;
        form = form;
        there = g;
        clear = clear;
        first = subst (λ (r : ProcRole). IsFirstAs r form (place_of form) LimitPassed) (sym (block_past vars names front items is (take i items) bs each form h (omega (arith, counted, l)))) (past_first form low high s);
      }

      role_is : i < 64 → proc_item_role names (front ++ take i items) form ≡ a_block vars names (names_of_blocks bs)
      role_is l = block_here vars names front items is (take i items) bs each form h (omega (arith, counted, l))

      pub block_first : (place : ℕ) (kind : Kind) → i < 64 → IsFirstAs (a_block vars names (names_of_blocks bs)) form place kind → IsFirstAmong R items place kind
      block_first place kind l first = record {
        at = i;
        form = form;
        there = g;
        clear = clear;
        first = subst (λ (r : ProcRole). IsFirstAs r form place kind) (sym (role_is l)) first;
      }

      pub block_item_clear : i < 64 → IsClearProc (a_block vars names (names_of_blocks bs)) form → AreClearTo R items (i + 1)
      block_item_clear l one = one_more_clear R items i form g (subst (λ (r : ProcRole). IsClearProc r form) (sym (role_is l)) one) clear
