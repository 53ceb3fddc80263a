use Rattle.std.proofs.Common.{List, subst}
use Rattle.std.specs.Prelude.{OnOk, IfErr}
use Rattle.cnf_core.specs.declared.line.Line.{Line}
use Rattle.cnf_core.specs.Refutation.{AreLemmas, IsFilled, IsFirstRefusal}
use Rattle.refutation_check.proofs.Checking.{exact-from}
use Rattle.refutation_check.proofs.lines.check_lemmas.Goals as goal

pub returns-clause-exact : goal.returns-clause-exact
returns-clause-exact c =
    exact-from IsFilled c.args.cnf.now c.args.lines.now.lines c.check_lines.result
    (subst (λ (ls : List Line). OnOk c.check_lines.result (AreLemmas c.args.cnf.now ls)) c.as_slice.ensures c.check_lines.ensures.ok)
    (subst (λ (ls : List Line). IfErr c.check_lines.result (λ e. IsFirstRefusal IsFilled c.args.cnf.now ls e.line e.why)) c.as_slice.ensures c.check_lines.ensures.err)
