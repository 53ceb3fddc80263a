use Rattle.std.proofs.Common.{[]}
use Rattle.forms.specs.Forms.{place_of, sexp_form}
use Rattle.forms.proofs.Told.{told}
use Rattle.goal_reader.specs.Roles as roles
use Rattle.goal_reader.specs.Roles.{IsFaultAs}
use Rattle.goal_reader.proofs.NewNames.{no_fresh_first}
use Rattle.proc_goal.proofs.reading.any_name.Goals as goal

pub returns-in-None-clause-fault : goal.returns-in-None-clause-fault
returns-in-None-clause-fault c =
    let text = c.args.text.now in
    let form = sexp_form text c.args.form.now in
    let s = c.sexps_are_forms.ensures.stands text c.args.form.now c.requires.of in
    told (IsFaultAs (roles.fresh_name []) form) c.at.result c.place.result (place_of form) _ c.at.ensures (c.place.ensures text) (no_fresh_first [] form s.0 s.1 s.2 c.in-None.ensures.name)
