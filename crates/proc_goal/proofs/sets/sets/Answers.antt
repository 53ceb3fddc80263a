use Rattle.std.proofs.Common.{◌≡◌, ◌≢◌, ◌≤◌, ◌<◌, ◌+◌, ◌++◌, ℕ, List, [], ◌∷◌, Some, codes, length, map, take, true, false, sym, ◌∙◌, ap, refl, subst, arith, slice_get, length-append}
use Rattle.std.specs.Prelude.{AllPairs}
use Rattle.std.proofs.lemmas.List.{length-map, length-take-le, map-append, take_all}
use Rattle.std.proofs.lemmas.List.Quantifiers.{all_pairs_push}
use Rattle.std.proofs.lemmas.Option.{same_Some}
use Rattle.std.proofs.lemmas.Result.{err_from_is_err_and}
use Rattle.text_core.specs.Faults.{IsFaultBy, IsFirst}
use Rattle.text_core.specs.declared.faults.Kind.TheVariants.{BadForm, LimitPassed}
use Rattle.forms.specs.Forms.{Form, place_of, sexp_form, sexp_forms}
use Rattle.forms.proofs.Told.{told, told_as}
use Rattle.goal_reader.proofs.Different.{among_apart, pairs_nil}
use Rattle.goal_reader.proofs.Fixed.{got_within}
use Rattle.goal_reader.proofs.GoalSteps.{mapped_more}
use Rattle.goal_reader.proofs.NewNames.{part_of}
use Rattle.goal_reader.proofs.TextEnd.{nth_form}
use Rattle.machine_table.specs.Grammar as grammar
use Rattle.machine_table.specs.Grammar.{Each}
use Rattle.machine_table.specs.Roles.{has_head}
use Rattle.goal_meaning.specs.Views.{TargetTree, target_view}
use Rattle.goal_meaning.specs.declared.goals.Set.{Set}
use Rattle.goal_reader.specs.Reading.{names_of_targets}
use Rattle.text_core.specs.Names.{is_among}
use Rattle.proc_goal.specs.ProcGrammar.{WritesSet}
use Rattle.proc_goal.specs.ProcReading.{AreClearTo, IsClearProc, IsFirstAmong, IsFirstAs}
use Rattle.proc_goal.specs.ProcRoles as roles
use Rattle.proc_goal.specs.ProcRoles.{IsProcFaultAs, step_role}
use Rattle.proc_goal.proofs.Sequences.{after, none_clear}
use Rattle.proc_goal.proofs.SetSteps.{names_viewed, set_beyond_first, set_item_clear, set_item_first, set_item_more}
use Rattle.proc_goal.proofs.sets.sets.Goals as goal

pub loop-index-init : goal.loop-index-init
loop-index-init c =
    let vars = c.args.vars.now in
    let items = sexp_forms c.args.text.now c.args.items.now in
    let empty = c.new-sets.ensures in
    record {
      count = ap length empty;
      few = omega arith;
      within = omega arith;
      each = subst (λ ts. Each (WritesSet vars) [] (map target_view ts)) (sym empty) grammar.none;
      clear = λ names front is. none_clear (after front (step_role vars names)) items;
      differ = subst (λ ts. AllPairs (λ (s t : TargetTree). s.name ≢ t.name) (map target_view ts)) (sym empty) (pairs_nil (λ (s t : TargetTree). s.name ≢ t.name));
    }

pub set-requires-clause-head : goal.set-requires-clause-head
set-requires-clause-head c = sym c.has_head.ensures ∙ c.if-not-has_head.false

pub returns-then-not-has_head-clause-sets : goal.returns-then-not-has_head-clause-sets
returns-then-not-has_head-clause-sets c =
    let text = c.args.text.now in
    let items = sexp_forms text c.args.items.now in
    let i = c.loop-index.index in
    let inv = c.loop-index.invariant in
    let form = sexp_form text c.index-items-index.result in
    let g = nth_form text c.args.items.now i c.index-items-index.result c.loop-index-test.true c.index-items-index.is in
    let vars = c.args.vars.now in
    let sets = c.loop-index.sets in
    let n = length-map sets target_view in
    let count = inv.count in
    let same : length (map target_view sets) ≡ i = omega (arith, n, count) in
    let total = length-map c.args.items.now (sexp_form text) in
    let below = c.loop-index-test.true in
    let few = inv.few in
    record {
      within = omega (arith, same, total, below);
      each = subst (λ m. Each (WritesSet vars) (take m items) (map target_view sets)) (sym same) inv.each;
      clear = λ names front is. subst (λ m. AreClearTo (after front (step_role vars names)) items m) (sym same) (inv.clear names front is);
      differ = inv.differ;
      few = omega (arith, same, few);
      ends = λ f got. subst (λ (x : Form). has_head (codes "set") x ≡ false) (same_Some form f (sym g ∙ ap (slice_get items) (sym same) ∙ got)) (sym c.has_head.ensures ∙ c.if-not-has_head.true);
    }

pub returns-then-index-ge-MOST_SETS-clause-fault : goal.returns-then-index-ge-MOST_SETS-clause-fault
returns-then-index-ge-MOST_SETS-clause-fault c = λ names front is.
    let text = c.args.text.now in
    let items = sexp_forms text c.args.items.now in
    let i = c.loop-index.index in
    let inv = c.loop-index.invariant in
    let form = sexp_form text c.index-items-index.result in
    let g = nth_form text c.args.items.now i c.index-items-index.result c.loop-index-test.true c.index-items-index.is in
    let total = length-map c.args.items.now (sexp_form text) in
    let below = c.loop-index-test.true in
    let counted : length (take i items) ≡ i = length-take-le i items (omega (arith, total, below)) in
    let of = c.sexps_are_forms.ensures.stands text c.index-items-index.result (part_of text c.args.items.now i c.index-items-index.result c.requires.of c.loop-index-test.true c.index-items-index.is) in
    let vars = c.args.vars.now in
    let R = after front (step_role vars names) in
    let one = set_beyond_first vars items i form g (map target_view c.loop-index.sets) inv.each (sym c.has_head.ensures ∙ c.if-not-has_head.false) counted names front is (inv.clear names front is) of.0 of.1 of.2 c.if-index-ge-MOST_SETS.true in
    subst (λ f. IsFaultBy (IsFirstAmong R items) f) (sym c.at.ensures) (subst (λ p. IsFirstAmong R items p LimitPassed) (sym (c.place.ensures text)) one)

pub returns-in_err-one-clause-fault : goal.returns-in_err-one-clause-fault
returns-in_err-one-clause-fault c =
    let p = err_from_is_err_and c.from_residual.result c.from_residual.ensures.1 in
    let text = c.args.text.now in
    let items = sexp_forms text c.args.items.now in
    let i = c.loop-index.index in
    let inv = c.loop-index.invariant in
    let form = sexp_form text c.index-items-index.result in
    let g = nth_form text c.args.items.now i c.index-items-index.result c.loop-index-test.true c.index-items-index.is in
    let total = length-map c.args.items.now (sexp_form text) in
    let below = c.loop-index-test.true in
    let counted : length (take i items) ≡ i = length-take-le i items (omega (arith, total, below)) in
    let vars = c.args.vars.now in
    let l = c.if-index-ge-MOST_SETS.false in
    let ts = map target_view c.loop-index.sets in
    let given : names_of_targets c.as_slice.result.now ≡ map (λ (t : TargetTree). t.name) ts = ap names_of_targets c.as_slice.ensures ∙ sym (names_viewed c.loop-index.sets) in
    rw (p.1, p.2)
    (λ names front is. (told_as (IsFirst (IsProcFaultAs (roles.a_set vars (map (λ (t : TargetTree). t.name) ts)) form)) (IsFirstAmong (after front (step_role vars names)) items)
    (λ place kind one. set_item_first vars items i form g ts inv.each (sym c.has_head.ensures ∙ c.if-not-has_head.false) counted names front is (inv.clear names front is) place kind (omega (arith, l)) one)
    c.in_err-one.field-0.0 (subst (λ ns. IsFaultBy (IsFirst (IsProcFaultAs (roles.a_set vars ns) form)) c.in_err-one.field-0.0) given c.in_err-one.ensures.fault)))

pub loop-index-preserved : goal.loop-index-preserved
loop-index-preserved c =
    let text = c.args.text.now in
    let items = sexp_forms text c.args.items.now in
    let i = c.loop-index.index in
    let inv = c.loop-index.invariant in
    let form = sexp_form text c.index-items-index.result in
    let g = nth_form text c.args.items.now i c.index-items-index.result c.loop-index-test.true c.index-items-index.is in
    let total = length-map c.args.items.now (sexp_form text) in
    let below = c.loop-index-test.true in
    let counted : length (take i items) ≡ i = length-take-le i items (omega (arith, total, below)) in
    let vars = c.args.vars.now in
    let sets = c.loop-index.sets in
    let ts = map target_view sets in
    let l = c.if-index-ge-MOST_SETS.false in
    let h = sym c.has_head.ensures ∙ c.if-not-has_head.false in
    let one = c.in_ok-one.one in
    let given : names_of_targets c.as_slice.result.now ≡ map (λ (t : TargetTree). t.name) ts = ap names_of_targets c.as_slice.ensures ∙ sym (names_viewed sets) in
    let clear = subst (λ ns. IsClearProc (roles.a_set vars ns) form) given c.in_ok-one.ensures.clear in
    let fresh = subst (λ ns. is_among ns one.name ≡ false) given c.in_ok-one.ensures.fresh in
    let new = c.in_ok-push.ensures.ok in
    let view : map target_view c.push.new.self ≡ ts ++ target_view one ∷ [] = ap (map target_view) new ∙ mapped_more target_view sets one in
    let count = inv.count in
    let longer = length-append sets (one ∷ []) in
    let next : length (sets ++ one ∷ []) ≡ i + 1 = omega (arith, longer, count) in
    record {
      count = ap length new ∙ next;
      few = omega (arith, l);
      within = omega (arith, below);
      each = subst (λ xs. Each (WritesSet vars) (take (i + 1) items) xs) (sym view) (set_item_more vars items i form g ts inv.each h counted (target_view one) c.in_ok-one.ensures.set);
      clear = λ names front is. set_item_clear vars items i form g ts inv.each h counted names front is (inv.clear names front is) (omega (arith, l)) clear;
      differ = subst (λ xs. AllPairs (λ (s t : TargetTree). s.name ≢ t.name) xs) (sym view)
          (all_pairs_push (λ (s t : TargetTree). s.name ≢ t.name) ts (target_view one) inv.differ (among_apart (λ (t : TargetTree). t.name) ts one.name fresh));
    }

pub returns-clause-sets : goal.returns-clause-sets
returns-clause-sets c =
    let text = c.args.text.now in
    let items = sexp_forms text c.args.items.now in
    let i = c.loop-index.index in
    let inv = c.loop-index.invariant in
    let vars = c.args.vars.now in
    let sets = c.loop-index.sets in
    let n = length-map sets target_view in
    let count = inv.count in
    let same : length (map target_view sets) ≡ i = omega (arith, n, count) in
    let total = length-map c.args.items.now (sexp_form text) in
    let above = c.loop-index-test.false in
    let in_all = inv.within in
    let few = inv.few in
    record {
      within = omega (arith, same, total, in_all);
      each = subst (λ m. Each (WritesSet vars) (take m items) (map target_view sets)) (sym same) inv.each;
      clear = λ names front is. subst (λ m. AreClearTo (after front (step_role vars names)) items m) (sym same) (inv.clear names front is);
      differ = inv.differ;
      few = omega (arith, same, few);
      ends = λ f got. (let l = got_within items (length (map target_view sets)) f got in absurd (omega (arith, same, total, above, l)));
    }
