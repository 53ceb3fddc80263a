use Rattle.std.proofs.Common.{List, subst}
use Rattle.std.specs.Prelude.{OnOk, IfErr}
use Rattle.cnf_core.specs.declared.line.Line.{Line}
use Rattle.cnf_core.specs.Refutation.{Refutes, IsEmptyOnlyLast, IsFirstRefusal}
use Rattle.refutation_check.proofs.Checking.{exact-from, sound-from}
use Rattle.refutation_check.proofs.lines.check.Goals as goal

pub returns-clause-exact : goal.returns-clause-exact
returns-clause-exact c =
    exact-from (IsEmptyOnlyLast c.args.lines.now.lines) c.args.cnf.now c.args.lines.now.lines c.check_lines.result
    (subst (λ (ls : List Line). OnOk c.check_lines.result (Refutes c.args.cnf.now ls)) c.as_slice.ensures c.check_lines.ensures.ok)
    (subst (λ (ls : List Line). IfErr c.check_lines.result (λ e. IsFirstRefusal (IsEmptyOnlyLast ls) c.args.cnf.now ls e.line e.why)) c.as_slice.ensures c.check_lines.ensures.err)

pub returns-clause-sound : goal.returns-clause-sound
returns-clause-sound c =
    sound-from c.refutations_leave_no_solution.ensures c.args.cnf.now c.args.lines.now.lines c.check_lines.result
    (subst (λ (ls : List Line). OnOk c.check_lines.result (Refutes c.args.cnf.now ls)) c.as_slice.ensures c.check_lines.ensures.ok)
