use Rattle.std.proofs.Common.{◌++◌, List, [], ◌∷◌, length, map, take, sym, ap, subst, arith, refl}
use Rattle.std.proofs.lemmas.List.{length-map, nil_from_length, take_all}
use Rattle.std.proofs.lemmas.Result.{err_from_is_err_and}
use Rattle.forms.specs.Forms.{Form, sexp_form, sexp_forms}
use Rattle.forms.proofs.Told.{told, told_of_part}
use Rattle.machine_table.specs.Grammar.{Each}
use Rattle.machine_table.specs.Grammar as grammar
use Rattle.goal_meaning.specs.Views.{goal_view}
use Rattle.code_check.specs.CodeGrammar.{WritesCode}
use Rattle.code_check.specs.CodeRoles as roles
use Rattle.code_check.specs.CodeRoles.{IsCodeFaultAs, IsCodesFault}
use Rattle.code_check.proofs.FormLists.{each_length, each_more, got_more, none_left, nth_form, part_of, some_left}
use Rattle.code_check.proofs.CodeTexts.{code_first, no_code_first, none_clear, one_more_clear}
use Rattle.code_check.proofs.Searches.{few_taken}
use Rattle.code_check.proofs.reading.read_codes.Goals as goal

pub loop-index-init : goal.loop-index-init
loop-index-init c =
    let goals = map goal_view c.args.goals.now in
    let forms = sexp_forms c.args.text.now c.args.forms.now in
    record {
      each = subst (λ cs. Each (WritesCode goals) [] cs) (sym c.new-codes.ensures.items) grammar.none;
      clear = none_clear goals forms;
      few = omega arith;
    }

pub next_code-requires : goal.next_code-requires
next_code-requires c = record {
  of = part_of c.args.text.now c.args.forms.now c.loop-index.index c.index-forms-index.result c.requires.of c.loop-index-test.true c.index-forms-index.is;
  small = c.requires.small;
  goals = c.requires.goals;
}

pub returns-in_err-code-clause-fault : goal.returns-in_err-code-clause-fault
returns-in_err-code-clause-fault c =
    let p = err_from_is_err_and c.from_residual.result c.from_residual.ensures.1 in
    let text = c.args.text.now in
    let goals = map goal_view c.args.goals.now in
    let forms = sexp_forms text c.args.forms.now in
    let i = c.loop-index.index in
    let form = sexp_form text c.index-forms-index.result in
    let g = nth_form text c.args.forms.now i c.index-forms-index.result c.loop-index-test.true c.index-forms-index.is in
    rw (p.1, p.2)
    (told_of_part (IsCodeFaultAs (roles.top_role goals i form) form) (IsCodesFault goals (length text) forms)
    (λ k kind one. code_first goals forms c.requires.stand.0 (length text) c.requires.stand.1 i form k kind g c.loop-index.invariant.clear one)
    c.in_err-code.field-0.0 c.in_err-code.ensures.fault)

pub loop-index-preserved : goal.loop-index-preserved
loop-index-preserved c =
    let text = c.args.text.now in
    let goals = map goal_view c.args.goals.now in
    let forms = sexp_forms text c.args.forms.now in
    let i = c.loop-index.index in
    let inv = c.loop-index.invariant in
    let form = sexp_form text c.index-forms-index.result in
    let g = nth_form text c.args.forms.now i c.index-forms-index.result c.loop-index-test.true c.index-forms-index.is in
    let each = each_more (WritesCode goals) (take i forms) c.loop-index.codes.items form c.in_ok-code.code inv.each c.in_ok-code.ensures.code in
    record {
      each = subst (λ (fs : List Form). Each (WritesCode goals) fs c.push.new.self.items) (sym (got_more forms i form g)) (subst (λ cs. Each (WritesCode goals) (take i forms ++ form ∷ []) cs) (sym c.in_ok-push.ensures.items) each);
      clear = one_more_clear goals forms i form g c.in_ok-code.ensures.clear inv.clear;
      few = (let l = c.in_ok-code.ensures.few in omega (arith, l));
    }

pub returns-then-is_empty-clause-fault : goal.returns-then-is_empty-clause-fault
returns-then-is_empty-clause-fault c =
    let text = c.args.text.now in
    let goals = map goal_view c.args.goals.now in
    let forms = sexp_forms text c.args.forms.now in
    let none = none_left (length c.args.forms.now) c.is_empty.result c.is_empty.ensures c.if-is_empty.true in
    let n = length-map c.args.forms.now (sexp_form text) in
    told (IsCodesFault goals (length text) forms) c.at.result _ (length text) _ c.at.ensures refl
    (no_code_first goals forms (length text) (nil_from_length forms (omega (arith, none, n))))

pub returns-clause-codes : goal.returns-clause-codes
returns-clause-codes c =
    let text = c.args.text.now in
    let goals = map goal_view c.args.goals.now in
    let forms = sexp_forms text c.args.forms.now in
    let i = c.loop-index.index in
    let all = take_all i forms (let n = length-map c.args.forms.now (sexp_form text) in let f = c.loop-index-test.false in omega (arith, n, f)) in
    subst (λ cs. Each (WritesCode goals) forms cs) (sym c.from.ensures)
    (subst (λ (fs : List Form). Each (WritesCode goals) fs c.loop-index.codes.items) all c.loop-index.invariant.each)

pub returns-clause-few : goal.returns-clause-few
returns-clause-few c =
    let text = c.args.text.now in
    let goals = map goal_view c.args.goals.now in
    let forms = sexp_forms text c.args.forms.now in
    let i = c.loop-index.index in
    let inv = c.loop-index.invariant in
    let n = length-map c.args.forms.now (sexp_form text) in
    let f = c.loop-index-test.false in
    let counted = each_length (WritesCode goals) (take i forms) c.loop-index.codes.items inv.each in
    let whole = ap length (take_all i forms (omega (arith, n, f))) in
    let some = some_left (length c.args.forms.now) c.is_empty.result c.is_empty.ensures c.if-is_empty.false in
    let few = inv.few in
    let from = ap length c.from.ensures in
    let most = few_taken i forms (length c.loop-index.codes.items) counted few in
    (omega (arith, some, counted, whole, n, from), omega (arith, most, from))
