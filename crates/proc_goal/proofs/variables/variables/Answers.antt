use Rattle.std.proofs.Common.{◌≡◌, ◌≢◌, ◌≤◌, ◌<◌, ◌+◌, ◌++◌, ℕ, List, [], ◌∷◌, Some, codes, length, map, take, true, false, sym, ◌∙◌, ap, refl, subst, arith, slice_get, length-append}
use Rattle.std.specs.Prelude.{AllPairs}
use Rattle.std.proofs.lemmas.List.{length-map, length-take-le, take_all}
use Rattle.std.proofs.lemmas.Option.{same_Some}
use Rattle.std.proofs.lemmas.Result.{err_from_is_err_and}
use Rattle.text_core.specs.Faults.{IsFaultBy, IsFirst}
use Rattle.text_core.specs.declared.faults.Kind.TheVariants.{BadForm, LimitPassed}
use Rattle.forms.specs.Forms.{Form, place_of, sexp_form, sexp_forms}
use Rattle.forms.proofs.Told.{told, told_as}
use Rattle.goal_reader.proofs.Fixed.{got_within}
use Rattle.goal_reader.specs.Reading.{IsClear}
use Rattle.goal_reader.proofs.NewNames.{part_of}
use Rattle.goal_reader.proofs.TextEnd.{nth_form}
use Rattle.machine_table.specs.Grammar as grammar
use Rattle.machine_table.specs.Grammar.{Each}
use Rattle.machine_table.specs.Roles.{has_head}
use Rattle.goal_reader.specs.Roles.{IsFaultAs, a_list, input}
use Rattle.proc_goal.specs.ProcGrammar.{WritesVariable}
use Rattle.proc_goal.specs.ProcReading.{AreClearTo, AreLeading, AreVariables, IsFirstAmong}
use Rattle.proc_goal.specs.ProcRoles.{proc_item_role}
use Rattle.proc_goal.proofs.Sequences.{none_clear}
use Rattle.proc_goal.proofs.VariableSteps.{beyond_first, more_variables, no_variables, variable_clear, variable_first, variable_more}
use Rattle.proc_goal.proofs.variables.variables.Goals as goal

pub loop-index-init : goal.loop-index-init
loop-index-init c =
    let items = sexp_forms c.args.text.now c.args.items.now in
    let empty = c.new-vars.ensures in
    record {
      count = ap length empty;
      few = omega arith;
      within = omega arith;
      each = subst (λ vs. Each WritesVariable [] vs) (sym empty) grammar.none;
      clear = λ names. none_clear (proc_item_role names) items;
      keep = subst AreVariables (sym empty) no_variables;
    }

pub variable-requires-clause-head : goal.variable-requires-clause-head
variable-requires-clause-head c = sym c.has_head.ensures ∙ c.if-not-has_head.false

pub returns-then-not-has_head-clause-variables : goal.returns-then-not-has_head-clause-variables
returns-then-not-has_head-clause-variables c =
    let text = c.args.text.now in
    let items = sexp_forms text c.args.items.now in
    let i = c.loop-index.index in
    let inv = c.loop-index.invariant in
    let form = sexp_form text c.index-items-index.result in
    let g = nth_form text c.args.items.now i c.index-items-index.result c.loop-index-test.true c.index-items-index.is in
    let vars = c.loop-index.vars in
    let count = inv.count in
    let total = length-map c.args.items.now (sexp_form text) in
    let below = c.loop-index-test.true in
    let few = inv.few in
    record {
      within = omega (arith, count, total, below);
      each = subst (λ n. Each WritesVariable (take n items) vars) (sym count) inv.each;
      clear = λ names. subst (λ n. AreClearTo (proc_item_role names) items n) (sym count) (inv.clear names);
      keep = inv.keep;
      few = omega (arith, count, few);
      ends = λ f got. subst (λ (x : Form). has_head (codes "var") x ≡ false) (same_Some form f (sym g ∙ ap (slice_get items) (sym count) ∙ got)) (sym c.has_head.ensures ∙ c.if-not-has_head.true);
    }

pub returns-then-index-ge-MOST_INPUTS-clause-fault : goal.returns-then-index-ge-MOST_INPUTS-clause-fault
returns-then-index-ge-MOST_INPUTS-clause-fault c = λ names.
    let text = c.args.text.now in
    let items = sexp_forms text c.args.items.now in
    let i = c.loop-index.index in
    let inv = c.loop-index.invariant in
    let form = sexp_form text c.index-items-index.result in
    let g = nth_form text c.args.items.now i c.index-items-index.result c.loop-index-test.true c.index-items-index.is in
    let total = length-map c.args.items.now (sexp_form text) in
    let below = c.loop-index-test.true in
    let counted : length (take i items) ≡ i = length-take-le i items (omega (arith, total, below)) in
    let of = c.sexps_are_forms.ensures.stands text c.index-items-index.result (part_of text c.args.items.now i c.index-items-index.result c.requires.of c.loop-index-test.true c.index-items-index.is) in
    let one = beyond_first items i form g c.loop-index.vars inv.each (sym c.has_head.ensures ∙ c.if-not-has_head.false) counted names of.0 of.1 of.2 c.if-index-ge-MOST_INPUTS.true (inv.clear names) in
    subst (λ f. IsFaultBy (IsFirstAmong (proc_item_role names) items) f) (sym c.at.ensures) (subst (λ p. IsFirstAmong (proc_item_role names) items p LimitPassed) (sym (c.place.ensures text)) one)

pub returns-in_err-one-clause-fault : goal.returns-in_err-one-clause-fault
returns-in_err-one-clause-fault c =
    let p = err_from_is_err_and c.from_residual.result c.from_residual.ensures.1 in
    let text = c.args.text.now in
    let items = sexp_forms text c.args.items.now in
    let i = c.loop-index.index in
    let inv = c.loop-index.invariant in
    let form = sexp_form text c.index-items-index.result in
    let g = nth_form text c.args.items.now i c.index-items-index.result c.loop-index-test.true c.index-items-index.is in
    let total = length-map c.args.items.now (sexp_form text) in
    let below = c.loop-index-test.true in
    let counted : length (take i items) ≡ i = length-take-le i items (omega (arith, total, below)) in
    let l = c.if-index-ge-MOST_INPUTS.false in
    rw (p.1, p.2)
    (λ names. (told_as (IsFirst (IsFaultAs (a_list (input [] c.loop-index.vars)) form)) (IsFirstAmong (proc_item_role names) items)
    (λ place kind one. variable_first items i form g c.loop-index.vars inv.each (sym c.has_head.ensures ∙ c.if-not-has_head.false) counted names place kind (omega (arith, l)) (inv.clear names) one)
    c.in_err-one.field-0.0 (subst (λ vs. IsFaultBy (IsFirst (IsFaultAs (a_list (input [] vs)) form)) c.in_err-one.field-0.0) c.as_slice.ensures c.in_err-one.ensures.fault)))

pub loop-index-preserved : goal.loop-index-preserved
loop-index-preserved c =
    let text = c.args.text.now in
    let items = sexp_forms text c.args.items.now in
    let i = c.loop-index.index in
    let inv = c.loop-index.invariant in
    let form = sexp_form text c.index-items-index.result in
    let g = nth_form text c.args.items.now i c.index-items-index.result c.loop-index-test.true c.index-items-index.is in
    let total = length-map c.args.items.now (sexp_form text) in
    let below = c.loop-index-test.true in
    let counted : length (take i items) ≡ i = length-take-le i items (omega (arith, total, below)) in
    let vars = c.loop-index.vars in
    let l = c.if-index-ge-MOST_INPUTS.false in
    let h = sym c.has_head.ensures ∙ c.if-not-has_head.false in
    let v = c.in_ok-one.one in
    let clear = subst (λ vs. IsClear (a_list (input [] vs)) form) c.as_slice.ensures c.in_ok-one.ensures.clear in
    let new = c.in_ok-push.ensures.ok in
    let count = inv.count in
    let longer = length-append vars (v ∷ []) in
    let next : length (vars ++ v ∷ []) ≡ i + 1 = omega (arith, longer, count) in
    record {
      count = ap length new ∙ next;
      few = omega (arith, l);
      within = omega (arith, c.loop-index-test.true);
      each = subst (λ vs. Each WritesVariable (take (i + 1) items) vs) (sym new) (variable_more items i form g vars inv.each h counted v c.in_ok-one.ensures.variable);
      clear = λ names. variable_clear items i form g vars inv.each h counted names (omega (arith, l)) (inv.clear names) clear;
      keep = subst AreVariables (sym new) (more_variables vars form v c.in_ok-one.ensures.variable clear inv.keep);
    }

pub returns-clause-variables : goal.returns-clause-variables
returns-clause-variables c =
    let text = c.args.text.now in
    let items = sexp_forms text c.args.items.now in
    let i = c.loop-index.index in
    let inv = c.loop-index.invariant in
    let vars = c.loop-index.vars in
    let count = inv.count in
    let total = length-map c.args.items.now (sexp_form text) in
    let above = c.loop-index-test.false in
    let few = inv.few in
    record {
      within = omega (arith, count, total, above, inv.within);
      each = subst (λ n. Each WritesVariable (take n items) vars) (sym count) inv.each;
      clear = λ names. subst (λ n. AreClearTo (proc_item_role names) items n) (sym count) (inv.clear names);
      keep = inv.keep;
      few = omega (arith, count, few);
      ends = λ f got. absurd (omega (arith, count, total, above, got_within items (length vars) f got));
    }
