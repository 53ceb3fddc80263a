use Rattle.std.proofs.Common.{◌≡◌, ◌<◌, None, Some, List, [], ◌∷◌, codes, length, slice_get, sym, ◌∙◌, ap, refl, subst, arith}
use Rattle.std.proofs.lemmas.Result.{err_from_is_err_and}
use Rattle.text_core.specs.Faults.{IsFirst}
use Rattle.forms.specs.Forms.{sexp_form, sexp_forms}
use Rattle.forms.proofs.Told.{told_as}
use Rattle.proc_goal.specs.ProcReading.{IsGuardFault, absent, there}
use Rattle.proc_goal.specs.ProcRoles as roles
use Rattle.proc_goal.specs.ProcRoles.{IsProcFaultAs}
use Rattle.std.specs.Option.{option_copied}
use Rattle.proc_goal.proofs.Slices.{first_form, nothing_first, other_first}
use Rattle.proc_goal.proofs.sets.first_guard.Goals as goal

pub guard-requires-clause-head : goal.guard-requires-clause-head
guard-requires-clause-head c = sym c.has_head.ensures ∙ c.if-not-has_head.false

pub returns-in_default-clause-guard : goal.returns-in_default-clause-guard
returns-in_default-clause-guard c = absent (nothing_first c.args.text.now (codes "when") c.args.items.now (sym c.first.ensures.value ∙ ap option_copied c.in_default.is))

pub returns-then-not-has_head-clause-guard : goal.returns-then-not-has_head-clause-guard
returns-then-not-has_head-clause-guard c =
    absent
    (other_first c.args.text.now (codes "when") c.args.items.now c.in-Some.item.now (sym c.first.ensures.value ∙ ap option_copied c.in-Some.is)
    (sym c.has_head.ensures ∙ c.if-not-has_head.true))

pub returns-clause-guard : goal.returns-clause-guard
returns-clause-guard c =
    let text = c.args.text.now in
    there (sexp_form text c.in-Some.item.now) (first_form text c.args.items.now c.in-Some.item.now (sym c.first.ensures.value ∙ ap option_copied c.in-Some.is)) (sym c.has_head.ensures ∙ c.if-not-has_head.false)
    c.in_ok-guard.ensures.when c.in_ok-guard.ensures.clear
