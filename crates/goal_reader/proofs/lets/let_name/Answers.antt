use Rattle.std.proofs.Common.{◌≡◌, ◌||◌, true, ◌++◌, sym, ◌∙◌}
use Rattle.forms.specs.Forms.{place_of, sexp_form}
use Rattle.forms.proofs.Told.{told}
use Rattle.goal_reader.specs.Roles as roles
use Rattle.goal_reader.specs.Roles.{Role, IsFaultAs, register_number, ◌>>=◌}
use Rattle.goal_meaning.specs.Names.{names_of_declared}
use Rattle.goal_reader.specs.Reading.{names_of_inputs, names_of_lets}
use Rattle.goal_meaning.specs.Names.{is_reserved}
use Rattle.text_core.specs.Names.{is_among}
use Rattle.goal_reader.proofs.NewNames.{no_name_first, used_first, among_both, or_first, or_last}
use Rattle.goal_reader.proofs.lets.let_name.Goals as goal
use Rattle.goal_reader.proofs.lets.let_name.Goals.{then-is_reserved-via-then-is_reserved, then-is_reserved-via-else-is_reserved+then-is_declared, then-is_reserved-via-else-is_reserved+else-is_declared+then-is_input, then-is_reserved-via-else-is_reserved+else-is_declared+else-is_input+then-is_let}

pub returns-in_default-clause-fault : goal.returns-in_default-clause-fault
returns-in_default-clause-fault c =
    let text = c.args.text.now in
    let form = sexp_form text c.args.form.now in
    let s = c.sexps_are_forms.ensures.stands text c.args.form.now c.requires.of in
    told (IsFaultAs (roles.own_name (names_of_declared c.args.declared.now ++ (names_of_inputs c.args.inputs.now ++ names_of_lets c.args.lets.now))) form) c.at.result c.place.result (place_of form) _ c.at.ensures (c.place.ensures text)
    (no_name_first (names_of_declared c.args.declared.now ++ (names_of_inputs c.args.inputs.now ++ names_of_lets c.args.lets.now)) form s.0 s.1 s.2 c.in_default.ensures.name)

pub returns-then-is_reserved-clause-fault : goal.returns-then-is_reserved-clause-fault
returns-then-is_reserved-clause-fault c =
    let text = c.args.text.now in
    let form = sexp_form text c.args.form.now in
    let s = c.sexps_are_forms.ensures.stands text c.args.form.now c.requires.of in
    let used : is_reserved c.in-Some.bytes.now || is_among (names_of_declared c.args.declared.now ++ (names_of_inputs c.args.inputs.now ++ names_of_lets c.args.lets.now)) c.in-Some.bytes.now ≡ true = elim c.then-is_reserved.branch [
      | then-is_reserved-via-then-is_reserved w ↦ or_first (is_reserved c.in-Some.bytes.now) (is_among (names_of_declared c.args.declared.now ++ (names_of_inputs c.args.inputs.now ++ names_of_lets c.args.lets.now)) c.in-Some.bytes.now) (sym c.is_reserved.ensures ∙ w.if-is_reserved.true)
      | then-is_reserved-via-else-is_reserved+then-is_declared w ↦ or_last (is_reserved c.in-Some.bytes.now) (is_among (names_of_declared c.args.declared.now ++ (names_of_inputs c.args.inputs.now ++ names_of_lets c.args.lets.now)) c.in-Some.bytes.now) (among_both (names_of_declared c.args.declared.now) (names_of_inputs c.args.inputs.now ++ names_of_lets c.args.lets.now) c.in-Some.bytes.now ∙ or_first (is_among (names_of_declared c.args.declared.now) c.in-Some.bytes.now) (is_among (names_of_inputs c.args.inputs.now ++ names_of_lets c.args.lets.now) c.in-Some.bytes.now) (sym w.is_declared.ensures ∙ w.if-is_declared.true))
      | then-is_reserved-via-else-is_reserved+else-is_declared+then-is_input w ↦ or_last (is_reserved c.in-Some.bytes.now) (is_among (names_of_declared c.args.declared.now ++ (names_of_inputs c.args.inputs.now ++ names_of_lets c.args.lets.now)) c.in-Some.bytes.now) (among_both (names_of_declared c.args.declared.now) (names_of_inputs c.args.inputs.now ++ names_of_lets c.args.lets.now) c.in-Some.bytes.now ∙ or_last (is_among (names_of_declared c.args.declared.now) c.in-Some.bytes.now) (is_among (names_of_inputs c.args.inputs.now ++ names_of_lets c.args.lets.now) c.in-Some.bytes.now) (among_both (names_of_inputs c.args.inputs.now) (names_of_lets c.args.lets.now) c.in-Some.bytes.now ∙ or_first (is_among (names_of_inputs c.args.inputs.now) c.in-Some.bytes.now) (is_among (names_of_lets c.args.lets.now) c.in-Some.bytes.now) (sym w.is_input.ensures ∙ w.if-is_input.true)))
      | then-is_reserved-via-else-is_reserved+else-is_declared+else-is_input+then-is_let w ↦ or_last (is_reserved c.in-Some.bytes.now) (is_among (names_of_declared c.args.declared.now ++ (names_of_inputs c.args.inputs.now ++ names_of_lets c.args.lets.now)) c.in-Some.bytes.now) (among_both (names_of_declared c.args.declared.now) (names_of_inputs c.args.inputs.now ++ names_of_lets c.args.lets.now) c.in-Some.bytes.now ∙ or_last (is_among (names_of_declared c.args.declared.now) c.in-Some.bytes.now) (is_among (names_of_inputs c.args.inputs.now ++ names_of_lets c.args.lets.now) c.in-Some.bytes.now) (among_both (names_of_inputs c.args.inputs.now) (names_of_lets c.args.lets.now) c.in-Some.bytes.now ∙ or_last (is_among (names_of_inputs c.args.inputs.now) c.in-Some.bytes.now) (is_among (names_of_lets c.args.lets.now) c.in-Some.bytes.now) (sym w.is_let.ensures ∙ w.if-is_let.true)))
    ] in
    told (IsFaultAs (roles.own_name (names_of_declared c.args.declared.now ++ (names_of_inputs c.args.inputs.now ++ names_of_lets c.args.lets.now))) form) c.at-then-is_reserved.result c.place-then-is_reserved.result (place_of form) _ c.at-then-is_reserved.ensures (c.place-then-is_reserved.ensures text)
    (used_first (names_of_declared c.args.declared.now ++ (names_of_inputs c.args.inputs.now ++ names_of_lets c.args.lets.now)) form s.0 s.1 s.2 c.in-Some.bytes.now c.in-Some.ensures.name used)
