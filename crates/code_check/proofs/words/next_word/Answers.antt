use Rattle.std.proofs.Common.{◌&&◌, sym, ap, ap₂, subst, ◌∙◌}
use Rattle.std.proofs.lemmas.Result.{err_from_is_err_and}
use Rattle.alpha_machine.specs.Runs.{MayStandAt}
use Rattle.forms.specs.Forms.{place_of, sexp_form}
use Rattle.forms.proofs.Told.{told}
use Rattle.code_check.specs.CodeRoles as roles
use Rattle.code_check.specs.CodeRoles.{IsCodeFaultAs, is_branch_word}
use Rattle.code_check.proofs.CodeWords.{not_second}
use Rattle.code_check.proofs.Leaves.{second_first, stray_first}
use Rattle.code_check.proofs.words.next_word.Goals as goal
use Rattle.code_check.proofs.words.next_word.Goals.{else-has_branch-via-then-has_branch+else-is_branch, else-has_branch-via-else-has_branch}

pub returns-in_err-word-clause-fault : goal.returns-in_err-word-clause-fault
returns-in_err-word-clause-fault c =
    let p = err_from_is_err_and c.from_residual.result c.from_residual.ensures.1 in
    rw (p.1, p.2) (λ before counted branch. c.in_err-word.ensures.fault c.args.count before)

pub returns-then-not-may_stand-clause-fault : goal.returns-then-not-may_stand-clause-fault
returns-then-not-may_stand-clause-fault c = λ before counted branch.
    let text = c.args.text.now in
    let form = sexp_form text c.args.form.now in
    let s = c.sexps_are_forms.ensures.stands text c.args.form.now c.requires.of in
    told (IsCodeFaultAs (roles.a_word c.args.count before) form) c.at.result c.place.result (place_of form) _ c.at.ensures (c.place.ensures text)
    (stray_first c.args.count before form s.0 s.1 c.in_ok-word.word s.2 c.in_ok-word.ensures.word
    (λ h. c.may_stand.ensures.no c.if-not-may_stand.true (subst (λ n. MayStandAt c.args.count n c.in_ok-word.word) (sym counted) h.1)))

pub returns-then-is_branch-clause-fault : goal.returns-then-is_branch-clause-fault
returns-then-is_branch-clause-fault c = λ before counted branch.
    let text = c.args.text.now in
    let form = sexp_form text c.args.form.now in
    let s = c.sexps_are_forms.ensures.stands text c.args.form.now c.requires.of in
    told (IsCodeFaultAs (roles.a_word c.args.count before) form) c.at-then-is_branch.result c.place-then-is_branch.result (place_of form) _ c.at-then-is_branch.ensures (c.place-then-is_branch.ensures text)
    (second_first c.args.count before form s.0 s.1 c.in_ok-word.word s.2 c.in_ok-word.ensures.word (sym c.is_branch.ensures ∙ c.if-is_branch.true) (sym branch ∙ c.if-has_branch.true))

pub returns-clause-next : goal.returns-clause-next
returns-clause-next c = record {
  low = c.in_ok-word.ensures.low;
  stands = c.may_stand.ensures.yes c.if-not-may_stand.false;
  one_branch = not_second c.args.has_branch (is_branch_word c.in_ok-word.word) (elim c.else-has_branch.branch [
    | else-has_branch-via-then-has_branch+else-is_branch w ↦ ap₂ (λ a b. a && b) w.if-has_branch.true (sym w.is_branch.ensures ∙ w.if-is_branch.false)
    | else-has_branch-via-else-has_branch w ↦ ap (λ a. a && is_branch_word c.in_ok-word.word) w.if-has_branch.false
  ]);
}
