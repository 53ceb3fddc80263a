use Rattle.std.proofs.Common.{◌+◌, true, List, take, rules, sym, subst}
use Rattle.cnf_core.specs.Refutation.{known_clauses}
use Rattle.refutation_check.specs.declared.values.Mark.{Mark}
use Rattle.refutation_check.specs.Marked.{NoneIsLater, Follows}
use Rattle.refutation_check.proofs.Following.{follows-more, follows-stuck, bound-set}
use Rattle.refutation_check.proofs.hints.follow.Goals as goal

pub returns-in-None-clause-led : goal.returns-in-None-clause-led
returns-in-None-clause-led c =
    follows-stuck (known_clauses c.args.cnf.now.clauses c.args.earlier.now) c.args.hints.now c.loop-hint.hint-index _ c.args.line c.args.marks.now c.loop-hint.marks c.loop-hint.marks c.named.result.now c.args.cnf.now.vars
    c.loop-hint-test.true c.loop-hint.invariant.1 c.named.ensures.value (search rules) c.named.ensures.exist c.in-None.ensures

pub loop-hint-preserved : goal.loop-hint-preserved
loop-hint-preserved c =
    subst (λ (ms : List Mark). NoneIsLater c.args.line ms × Follows true (known_clauses c.args.cnf.now.clauses c.args.earlier.now) (take (c.loop-hint.hint-index + 1) c.args.hints.now) c.args.line c.args.marks.now ms) (sym c.set_true.ensures) (
      bound-set c.args.line c.loop-hint.marks c.in-Some.lit c.loop-hint.invariant.0,
      follows-more (known_clauses c.args.cnf.now.clauses c.args.earlier.now) c.args.hints.now c.loop-hint.hint-index _ c.args.line c.args.marks.now c.loop-hint.marks c.named.result.now c.args.cnf.now.vars c.in-Some.lit
          c.loop-hint-test.true c.loop-hint.invariant.1 c.named.ensures.value (search rules) c.named.ensures.exist c.in-Some.ensures,
    )
