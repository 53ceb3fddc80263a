use Rattle.forms.proofs.Told.{gives, refuses}
use Rattle.forms.specs.Forms.{sexp_form}
use Rattle.text_core.proofs.Outcomes.{first_once}
use Rattle.goal_reader.specs.Grammar.{WritesAxiom}
use Rattle.goal_reader.specs.Roles as roles
use Rattle.goal_reader.specs.Roles.{IsFaultAs}
use Rattle.goal_meaning.specs.Views.{axiom_view}
use Rattle.text_core.specs.Faults.{IsFirst}
use Rattle.goal_reader.proofs.AxiomClear.{written_axiom_clear}
use Rattle.goal_reader.proofs.ReadParts.{axiom_once}
use Rattle.goal_reader.proofs.axioms.axiom.Goals as goal

pub returns-clause-read : goal.returns-clause-read
returns-clause-read c =
    let form = sexp_form c.args.text.now c.args.form.now in
    let declared = c.args.declared in
    let IsAt = IsFaultAs (roles.a_list (roles.equation declared)) form in
    gives (λ read. axiom_view read.0) (WritesAxiom declared form) (IsFirst IsAt) (axiom_once declared form)
    (λ a place kind w first. written_axiom_clear declared form a w place kind first.found) (first_once IsAt) c.read_axiom.result c.read_axiom.ensures.axiom c.read_axiom.ensures.fault

pub returns-clause-refused : goal.returns-clause-refused
returns-clause-refused c =
    let form = sexp_form c.args.text.now c.args.form.now in
    let declared = c.args.declared in
    let IsAt = IsFaultAs (roles.a_list (roles.equation declared)) form in
    refuses (λ read. axiom_view read.0) (WritesAxiom declared form) (IsFirst IsAt) (axiom_once declared form)
    (λ a place kind w first. written_axiom_clear declared form a w place kind first.found) (first_once IsAt) c.read_axiom.result c.read_axiom.ensures.axiom c.read_axiom.ensures.fault
