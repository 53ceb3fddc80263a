use Rattle.std.proofs.Common.{◌++◌, List, refl, arith}
use Rattle.forms.specs.Forms.{place_of, sexp_form}
use Rattle.forms.proofs.Told.{told}
use Rattle.goal_reader.specs.Roles as roles
use Rattle.goal_reader.specs.Roles.{Role, Shape, IsFaultAs, goal_keywords, is_pinned, set_roles, ◌>>=◌}
use Rattle.goal_reader.specs.Reading.{names_of_targets, pins_of_targets}
use Rattle.goal_reader.proofs.Fixed.{short_first}
use Rattle.goal_reader.proofs.NewNames.{count_form, set_only, short_set}
use Rattle.goal_reader.proofs.Ranks.{has_parts}
use Rattle.goal_reader.proofs.targets.target.Goals as goal

pub unreachable-requires : goal.unreachable-requires
unreachable-requires c =
    has_parts goal_keywords 5 (sexp_form c.args.text.now c.args.form.now) c.requires.keyword (c.in_default.ensures.parts c.args.text.now)

pub returns-then-parts-lt3-clause-fault : goal.returns-then-parts-lt3-clause-fault
returns-then-parts-lt3-clause-fault c =
    let text = c.args.text.now in
    let form = sexp_form text c.args.form.now in
    let scope = c.args.scope.now in
    let names = names_of_targets c.args.targets.now in
    let taken = c.args.pool.now ++ pins_of_targets c.args.targets.now in
    let s = c.sexps_are_forms.ensures.stands text c.args.form.now c.requires.of in
    let parts = c.in-Some.parts.now in
    let is = c.in-Some.ensures.parts text in
    let shape : Shape = roles.set scope names taken in
    let each : List Role = set_roles scope names taken form (is_pinned form) in
    let count = count_form text form (place_of form) parts is in
    told (IsFaultAs (roles.a_list shape) form) c.at.result c.place.result (place_of form) _ c.at.ensures (c.place.ensures text)
    (short_first shape form each s.0 s.1 s.2 (set_only scope names taken form) (λ at. refl) (short_set scope names taken form (let f = c.if-parts-lt3.true in omega (arith, count, f))))
