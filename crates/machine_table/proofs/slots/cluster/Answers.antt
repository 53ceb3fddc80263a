use Rattle.std.proofs.Common.{sym}
use Rattle.forms.proofs.Told.{told}
use Rattle.forms.specs.Forms.{place_of, sexp_form}
use Rattle.machine_table.proofs.Leaves.{form_first, cluster_first}
use Rattle.machine_table.specs.Reading.{IsTableFault}
use Rattle.machine_table.specs.Roles as roles
use Rattle.machine_table.specs.Roles.{no_cluster}
use Rattle.machine_table.proofs.slots.cluster.Goals as goal

pub returns-in_default-clause-fault : goal.returns-in_default-clause-fault
returns-in_default-clause-fault c =
    let text = c.args.text.now in
    let form = sexp_form text c.args.form.now in
    let s = c.sexps_are_forms.ensures.stands text c.args.form.now c.requires.of in
    told (IsTableFault roles.cluster form) c.at.result c.place.result (place_of form) _ c.at.ensures (c.place.ensures text)
    (form_first form s.0 s.1 s.2 roles.cluster (no_cluster (sym (c.in_default.ensures text))))

pub returns-then-cluster-gt3-clause-fault : goal.returns-then-cluster-gt3-clause-fault
returns-then-cluster-gt3-clause-fault c =
    let text = c.args.text.now in
    let form = sexp_form text c.args.form.now in
    let s = c.sexps_are_forms.ensures.stands text c.args.form.now c.requires.of in
    told (IsTableFault roles.cluster form) c.at-then-cluster-gt3.result c.place-then-cluster-gt3.result (place_of form) _ c.at-then-cluster-gt3.ensures (c.place-then-cluster-gt3.ensures text)
    (cluster_first form s.0 s.1 s.2 c.in-Some.cluster (sym (c.in-Some.ensures text)) c.if-cluster-gt3.true)
