use Rattle.std.proofs.Common.{◌∷◌, codes, map, sym, ◌∙◌}
use Rattle.forms.specs.Forms.{place_of, sexp_form}
use Rattle.forms.proofs.Told.{told}
use Rattle.goal_reader.specs.Roles as roles
use Rattle.goal_reader.specs.Roles.{IsFaultAs}
use Rattle.goal_reader.proofs.NewNames.{no_fresh_first, taken_first}
use Rattle.proc_goal.specs.Views.{block_view, names_of_blocks}
use Rattle.proc_goal.proofs.blocks.block_name.Goals as goal

pub returns-in_default-clause-fault : goal.returns-in_default-clause-fault
returns-in_default-clause-fault c =
    let text = c.args.text.now in
    let form = sexp_form text c.args.form.now in
    let names = codes "done" ∷ names_of_blocks (map block_view c.args.before.now) in
    let s = c.sexps_are_forms.ensures.stands text c.args.form.now c.requires.of in
    told (IsFaultAs (roles.fresh_name names) form) c.at.result c.place.result (place_of form) _ c.at.ensures (c.place.ensures text)
    (no_fresh_first names form s.0 s.1 s.2 c.in_default.ensures.name)

pub returns-then-is_taken-clause-fault : goal.returns-then-is_taken-clause-fault
returns-then-is_taken-clause-fault c =
    let text = c.args.text.now in
    let form = sexp_form text c.args.form.now in
    let names = codes "done" ∷ names_of_blocks (map block_view c.args.before.now) in
    let s = c.sexps_are_forms.ensures.stands text c.args.form.now c.requires.of in
    told (IsFaultAs (roles.fresh_name names) form) c.at-then-is_taken.result c.place-then-is_taken.result (place_of form) _ c.at-then-is_taken.ensures (c.place-then-is_taken.ensures text)
    (taken_first names form s.0 s.1 s.2 c.in-Some.bytes.now c.in-Some.ensures.name (sym c.is_taken.ensures ∙ c.if-is_taken.true))
