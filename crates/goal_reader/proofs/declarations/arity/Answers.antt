use Rattle.std.proofs.Common.{◌≢◌, ◌<◌, arith, Some, sym, ◌∙◌, ap}
use Rattle.forms.specs.Forms.{place_of, sexp_form}
use Rattle.forms.proofs.Told.{told}
use Rattle.goal_reader.specs.Roles as roles
use Rattle.goal_reader.specs.Roles.{Role, Shape, IsFaultAs, arity_named, ◌>>=◌}
use Rattle.goal_reader.proofs.Arities.{no_arity_first, arity_0_first, above_first}
use Rattle.goal_reader.proofs.declarations.arity.Goals as goal

pub returns-in_default-clause-fault : goal.returns-in_default-clause-fault
returns-in_default-clause-fault c =
    let text = c.args.text.now in
    let form = sexp_form text c.args.form.now in
    let s = c.sexps_are_forms.ensures.stands text c.args.form.now c.requires.of in
    told (IsFaultAs roles.an_arity form) c.at.result c.place.result (place_of form) _ c.at.ensures (c.place.ensures text)
    (no_arity_first form s.0 s.1 s.2 (sym (c.in_default.ensures text)))

pub returns-in-0-clause-fault : goal.returns-in-0-clause-fault
returns-in-0-clause-fault c =
    let text = c.args.text.now in
    let form = sexp_form text c.args.form.now in
    let s = c.sexps_are_forms.ensures.stands text c.args.form.now c.requires.of in
    told (IsFaultAs roles.an_arity form) c.at-in-0.result c.place-in-0.result (place_of form) _ c.at-in-0.ensures (c.place-in-0.ensures text)
    (arity_0_first form s.0 s.1 s.2 (sym (c.in-Some.ensures text) ∙ ap Some c.in-0.is))

pub returns-in_default-count-clause-fault : goal.returns-in_default-count-clause-fault
returns-in_default-count-clause-fault c =
    let text = c.args.text.now in
    let form = sexp_form text c.args.form.now in
    let s = c.sexps_are_forms.ensures.stands text c.args.form.now c.requires.of in
    let is = sym (c.in-Some.ensures text) in
    let above : 4 < c.in-Some.count = (let other = c.in_default-count in omega (arith, other)) in
    let some : c.in-Some.count ≢ 0 = λ e. omega (arith, above, e) in
    told (IsFaultAs roles.an_arity form) c.at-in_default-count.result c.place-in_default-count.result (place_of form) _ c.at-in_default-count.ensures (c.place-in_default-count.ensures text)
    (above_first form s.0 s.1 s.2 c.in-Some.count is some above)
