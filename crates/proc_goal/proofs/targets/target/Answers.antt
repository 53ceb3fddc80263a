use Rattle.std.proofs.Common.{◌≡◌, ◌||◌, false, true, ℕ, zero, suc, Some, None, List, [], ◌∷◌, codes, bytes_eq, slice_get, refl, sym, ◌∙◌, ap, ap₂, subst}
use Rattle.std.proofs.lemmas.Bool.{or_right}
use Rattle.std.proofs.lemmas.Slice.Eq.{bytes_eq-Decides}
use Rattle.text_core.specs.Names.{is_among}
use Rattle.forms.specs.Forms.{place_of, sexp_form}
use Rattle.forms.proofs.Told.{told}
use Rattle.goal_reader.proofs.ItemForms.{is_name}
use Rattle.machine_table.specs.Grammar.{IsNameOf}
use Rattle.proc_goal.specs.ProcGrammar.{block, done}
use Rattle.proc_goal.specs.ProcRoles as roles
use Rattle.proc_goal.specs.ProcRoles.{IsProcFaultAs}
use Rattle.proc_goal.proofs.Leaves.{form_first, target_clear, unknown_target_first}
use Rattle.proc_goal.proofs.ListForms.{name_among}
use Rattle.proc_goal.proofs.targets.target.Goals as goal

pub returns-in_default-clause-fault : goal.returns-in_default-clause-fault
returns-in_default-clause-fault c =
    let text = c.args.text.now in
    let form = sexp_form text c.args.form.now in
    let s = c.sexps_are_forms.ensures.stands text c.args.form.now c.requires.of in
    told (IsProcFaultAs (roles.a_target c.args.names.now) form) c.at.result c.place.result (place_of form) _ c.at.ensures (c.place.ensures text)
    (form_first (roles.a_target c.args.names.now) form s.0 s.1 s.2 (roles.no_target c.in_default.ensures.name))

pub returns-then-is_done-clause-target : goal.returns-then-is_done-clause-target
returns-then-is_done-clause-target c =
    let same : codes "done" ≡ c.in-Some.bytes.now = (bytes_eq-Decides (codes "done") c.in-Some.bytes.now).0 (sym c.is_done.ensures ∙ c.if-is_done.true) in
    done (subst (λ n. IsNameOf n (sexp_form c.args.text.now c.args.form.now)) (sym same) (is_name (sexp_form c.args.text.now c.args.form.now) c.in-Some.bytes.now c.in-Some.ensures.name))

pub returns-then-is_done-clause-clear : goal.returns-then-is_done-clause-clear
returns-then-is_done-clause-clear c =
    target_clear c.args.names.now (sexp_form c.args.text.now c.args.form.now) c.in-Some.bytes.now c.in-Some.ensures.name
    (ap (λ b. b || is_among c.args.names.now c.in-Some.bytes.now) (sym c.is_done.ensures ∙ c.if-is_done.true))

pub returns-in-Some-block_number-clause-target : goal.returns-in-Some-block_number-clause-target
returns-in-Some-block_number-clause-target c =
    let form = sexp_form c.args.text.now c.args.form.now in
    block c.in-Some-block_number.ensures (is_name form c.in-Some.bytes.now c.in-Some.ensures.name)

pub returns-in-Some-block_number-clause-clear : goal.returns-in-Some-block_number-clause-clear
returns-in-Some-block_number-clause-clear c =
    let names = c.args.names.now in
    let bytes = c.in-Some.bytes.now in
    target_clear names (sexp_form c.args.text.now c.args.form.now) bytes c.in-Some.ensures.name
    (or_right (bytes_eq (codes "done") bytes) (is_among names bytes) (name_among names c.in-Some-block_number.number bytes c.in-Some-block_number.ensures))

pub returns-in-None-clause-fault : goal.returns-in-None-clause-fault
returns-in-None-clause-fault c =
    let text = c.args.text.now in
    let form = sexp_form text c.args.form.now in
    let names = c.args.names.now in
    let bytes = c.in-Some.bytes.now in
    let s = c.sexps_are_forms.ensures.stands text c.args.form.now c.requires.of in
    told (IsProcFaultAs (roles.a_target names) form) c.at-in-None.result c.place-in-None.result (place_of form) _ c.at-in-None.ensures (c.place-in-None.ensures text)
    (unknown_target_first names form s.0 s.1 bytes s.2 c.in-Some.ensures.name (ap₂ (λ a b. a || b) (sym c.is_done.ensures ∙ c.if-is_done.false) c.in-None.ensures))
