use Rattle.std.proofs.Common.{◌≡◌, ◌+◌, true, false, take, rules, sym, subst, List, ◌∙◌}
use Rattle.std.proofs.lemmas.Bool.{false≢true}
use Rattle.refutation_check.specs.declared.values.Mark.{Mark}
use Rattle.refutation_check.proofs.Assuming.{AssumedSoFar, assumed-none, assumed-more, not-apart}
use Rattle.refutation_check.proofs.lines.assume.Goals as goal

pub loop-lit-init : goal.loop-lit-init
loop-lit-init c = assumed-none c.args.line c.args.marks.now c.args.lits.now c.requires.some c.requires.fresh

pub returns-then-not-is_free-clause-apart : goal.returns-then-not-is_free-clause-apart
returns-then-not-is_free-clause-apart c =
    let busy : c.is_free.result ≡ false = search rules in (
      (λ e. absurd (false≢true e)),
      (λ apart. absurd (not-apart c.args.line c.loop-lit.marks c.args.lits.now c.loop-lit.lit-index _ c.loop-lit-test.true c.loop-lit.invariant (search rules) (λ free. false≢true (sym busy ∙ c.is_free.ensures.1 free)) _ apart)),
    )

pub loop-lit-preserved : goal.loop-lit-preserved
loop-lit-preserved c =
    let free : c.is_free.result ≡ true = search rules in
    subst (λ (ms : List Mark). AssumedSoFar c.args.line ms (take (c.loop-lit.lit-index + 1) c.args.lits.now)) (search rules)
    (assumed-more c.args.line c.loop-lit.marks c.args.lits.now c.loop-lit.lit-index _ c.loop-lit-test.true c.loop-lit.invariant (search rules) (c.is_free.ensures.0 free))
