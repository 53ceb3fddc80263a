use Rattle.std.proofs.Common.{◌≡◌, ◌≢◌, false, ◌≤◌, ◌∷◌, ◌++◌, ◌∙◌, [], List, length, map, take, refl, sym, ap, subst, arith}
use Rattle.std.specs.Prelude.{AllPairs}
use Rattle.std.proofs.lemmas.Bool.Decides.{Decides-eqb}
use Rattle.std.proofs.lemmas.List.{length-append, length-map}
use Rattle.std.proofs.lemmas.List.Quantifiers.{all_pairs_push}
use Rattle.std.proofs.lemmas.Result.{err_from_is_err_and}
use Rattle.text_core.specs.Names.{is_among}
use Rattle.text_core.specs.declared.faults.Kind.TheVariants.{BadForm}
use Rattle.forms.specs.Forms.{sexp_form, sexp_forms}
use Rattle.forms.proofs.Told.{told, told_of_part}
use Rattle.machine_table.specs.Grammar as grammar
use Rattle.machine_table.specs.Grammar.{Each}
use Rattle.goal_reader.proofs.Different.{among_apart, pairs_nil}
use Rattle.goal_reader.proofs.GoalSteps.{got_more, mapped_more}
use Rattle.goal_reader.proofs.TextEnd.{nth_form}
use Rattle.goal_reader.proofs.WrittenItems.{each_more}
use Rattle.code_lift.specs.LiftGrammar.{WritesLift}
use Rattle.code_lift.specs.LiftRoles as roles
use Rattle.code_lift.specs.LiftRoles.{IsLiftFaultAs, IsLiftsFault}
use Rattle.code_lift.specs.Views.{LiftTree, lift_view, names_of_lifts}
use Rattle.code_lift.specs.declared.lifts.Lift.{Lift}
use Rattle.code_lift.proofs.SliceForms.{no_forms}
use Rattle.code_lift.proofs.LiftTexts.{lift_form_first, lifts_before, lifts_clear, no_lift_first}
use Rattle.code_lift.proofs.reading.lifts.Goals as goal

pub returns-then-is_empty-clause-fault : goal.returns-then-is_empty-clause-fault
returns-then-is_empty-clause-fault c =
    let text = c.args.text.now in
    let forms = sexp_forms text c.args.forms.now in
    let none = no_forms text c.args.forms.now ((Decides-eqb (length c.args.forms.now) 0).0 (sym c.is_empty.ensures ∙ c.if-is_empty.true)) in
    told (IsLiftsFault (length text) forms) c.at.result (length text) (length text) BadForm c.at.ensures refl (no_lift_first (length text) forms none)

pub loop-index-init : goal.loop-index-init
loop-index-init c =
    let empty = c.new-lifts.ensures in
    let count = ap length empty in
    record {
      count = count;
      few = omega (arith, count);
      each = subst (λ ls. Each WritesLift [] (map lift_view ls)) (sym empty) grammar.none;
      differ = subst (λ ls. AllPairs (λ (a b : LiftTree). a.name ≢ b.name) (map lift_view ls)) (sym empty) (pairs_nil (λ (a b : LiftTree). a.name ≢ b.name));
    }

pub returns-in_err-lift-clause-fault : goal.returns-in_err-lift-clause-fault
returns-in_err-lift-clause-fault c =
    let p = err_from_is_err_and c.from_residual.result c.from_residual.ensures.1 in
    let text = c.args.text.now in
    let forms = sexp_forms text c.args.forms.now in
    let i = c.loop-index.index in
    let inv = c.loop-index.invariant in
    let lifts = map lift_view c.loop-index.lifts in
    let form = sexp_form text c.index-forms-index.result in
    let g = nth_form text c.args.forms.now i c.index-forms-index.result c.loop-index-test.true c.index-forms-index.is in
    let few : length lifts ≤ 64 = (let n = length-map c.loop-index.lifts lift_view in let m = inv.few in omega (arith, n, m)) in
    let front = lifts_before lifts inv.differ few (take i forms) inv.each in
    let now = c.as_slice.ensures in
    let counted = front.count ∙ length-map c.loop-index.lifts lift_view ∙ ap length (sym now) in
    let names = front.names ∙ ap (λ (ls : List Lift). names_of_lifts (map lift_view ls)) (sym now) in
    rw (p.1, p.2)
    (told_of_part (IsLiftFaultAs (roles.next_lift_role (take i forms) form) form) (IsLiftsFault (length text) forms)
    (λ k kind one. lift_form_first (length text) forms c.requires.stand.0 c.requires.stand.1 i form k kind g (lifts_clear lifts inv.differ few forms i inv.each) one)
    c.in_err-lift.field-0.0 (c.in_err-lift.ensures.fault (take i forms) counted names))

pub loop-index-preserved : goal.loop-index-preserved
loop-index-preserved c =
    let text = c.args.text.now in
    let forms = sexp_forms text c.args.forms.now in
    let i = c.loop-index.index in
    let inv = c.loop-index.invariant in
    let before = c.loop-index.lifts in
    let lifts = map lift_view before in
    let one = c.in_ok-lift.lift in
    let form = sexp_form text c.index-forms-index.result in
    let g = nth_form text c.args.forms.now i c.index-forms-index.result c.loop-index-test.true c.index-forms-index.is in
    let new = c.in_ok-push.ensures.ok in
    let view : map lift_view c.push.new.self ≡ lifts ++ lift_view one ∷ [] = ap (map lift_view) new ∙ mapped_more lift_view before one in
    let longer = ap length new ∙ length-append before (one ∷ []) in
    let count = inv.count in
    let below = c.in_ok-lift.ensures.few in
    let now = ap length c.as_slice.ensures in
    let fresh : is_among (names_of_lifts lifts) (lift_view one).name ≡ false = sym (ap (λ (ls : List Lift). is_among (names_of_lifts (map lift_view ls)) (lift_view one).name) c.as_slice.ensures) ∙ c.in_ok-lift.ensures.fresh in
    record {
      count = omega (arith, longer, count);
      few = omega (arith, longer, below, now);
      each = subst (λ fs. Each WritesLift fs (map lift_view c.push.new.self)) (sym (got_more forms i form g))
          (subst (λ ls. Each WritesLift (take i forms ++ form ∷ []) ls) (sym view) (each_more WritesLift (take i forms) lifts form (lift_view one) inv.each c.in_ok-lift.ensures.lift));
      differ = subst (λ ls. AllPairs (λ (a b : LiftTree). a.name ≢ b.name) ls) (sym view)
          (all_pairs_push (λ (a b : LiftTree). a.name ≢ b.name) lifts (lift_view one) inv.differ (among_apart (λ (l : LiftTree). l.name) lifts (lift_view one).name fresh));
    }
