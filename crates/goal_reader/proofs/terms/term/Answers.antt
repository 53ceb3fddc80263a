use Rattle.word_terms.specs.View.{tree_of}
use Rattle.text_core.specs.Faults.{IsFirst}
use Rattle.forms.specs.Forms.{sexp_form}
use Rattle.forms.proofs.Told.{gives, refuses}
use Rattle.text_core.proofs.Outcomes.{first_once}
use Rattle.goal_reader.specs.Roles as roles
use Rattle.goal_reader.specs.Roles.{IsFaultAs, WritesTerm}
use Rattle.goal_reader.proofs.OneTerm.{term_once, term_apart}
use Rattle.goal_reader.proofs.terms.term.Goals as goal

pub returns-clause-read : goal.returns-clause-read
returns-clause-read c =
    let form = sexp_form c.args.text.now c.args.form.now in
    let Has = WritesTerm c.args.scope.now c.args.wanted form in
    let First = IsFirst (IsFaultAs (roles.term c.args.scope.now c.args.wanted) form) in
    gives tree_of Has First (term_once c.args.scope.now c.args.wanted form) (term_apart c.args.scope.now c.args.wanted form) (first_once (IsFaultAs (roles.term c.args.scope.now c.args.wanted) form)) c.read_term.result c.read_term.ensures.term c.read_term.ensures.fault

pub returns-clause-refused : goal.returns-clause-refused
returns-clause-refused c =
    let form = sexp_form c.args.text.now c.args.form.now in
    let Has = WritesTerm c.args.scope.now c.args.wanted form in
    let First = IsFirst (IsFaultAs (roles.term c.args.scope.now c.args.wanted) form) in
    refuses tree_of Has First (term_once c.args.scope.now c.args.wanted form) (term_apart c.args.scope.now c.args.wanted form) (first_once (IsFaultAs (roles.term c.args.scope.now c.args.wanted) form)) c.read_term.result c.read_term.ensures.term c.read_term.ensures.fault
