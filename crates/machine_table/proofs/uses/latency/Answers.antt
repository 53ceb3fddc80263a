use Rattle.std.proofs.Common.{sym, inl, inr}
use Rattle.forms.proofs.Told.{told}
use Rattle.forms.specs.Forms.{place_of, sexp_form}
use Rattle.machine_table.proofs.Leaves.{First, form_first, latency_0_first, latency_above_first}
use Rattle.machine_table.specs.Reading.{IsTableFault}
use Rattle.machine_table.specs.Roles as roles
use Rattle.machine_table.specs.Roles.{no_latency}
use Rattle.text_core.specs.declared.faults.Kind.TheVariants.{BadLatency}
use Rattle.machine_table.proofs.uses.latency.Goals as goal

pub returns-in_default-clause-fault : goal.returns-in_default-clause-fault
returns-in_default-clause-fault c =
    let text = c.args.text.now in
    let form = sexp_form text c.args.form.now in
    let s = c.sexps_are_forms.ensures.stands text c.args.form.now c.requires.of in
    told (IsTableFault roles.latency form) c.at.result c.place.result (place_of form) _ c.at.ensures (c.place.ensures text)
    (form_first form s.0 s.1 s.2 roles.latency (no_latency (sym (c.in_default.ensures text))))

pub returns-then-latency-eq0-clause-fault : goal.returns-then-latency-eq0-clause-fault
returns-then-latency-eq0-clause-fault c =
    let text = c.args.text.now in
    let form = sexp_form text c.args.form.now in
    let s = c.sexps_are_forms.ensures.stands text c.args.form.now c.requires.of in
    let first : First roles.latency form (place_of form) BadLatency =
    elim c.then-latency-eq0.either [
      | inl zero ↦ latency_0_first form s.0 s.1 s.2 c.in-Some.latency (sym (c.in-Some.ensures text)) zero
      | inr above ↦ latency_above_first form s.0 s.1 s.2 c.in-Some.latency (sym (c.in-Some.ensures text)) above.1
    ] in
    told (IsTableFault roles.latency form) c.at-then-latency-eq0.result c.place-then-latency-eq0.result (place_of form) _ c.at-then-latency-eq0.ensures (c.place-then-latency-eq0.ensures text) first
