use Rattle.std.proofs.Common.{◌<◌, ◌≤◌, subst}
use Rattle.least_launch.proofs.Saying.{found_tail, no_tail_more, none_at_end}
use Rattle.least_launch.proofs.tail_lines.tail_line.Goals as goal

pub returns-then-has_form-clause-found : goal.returns-then-has_form-clause-found
returns-then-has_form-clause-found c =
    found_tail c.args.text.now c.loop-line.line
    (subst (λ n. c.loop-line.line < n) c.count-line-end.ensures.count c.loop-line-test.true)
    (c.has_form.ensures.0 c.if-has_form.true) c.loop-line.invariant

pub loop-line-preserved : goal.loop-line-preserved
loop-line-preserved c =
    no_tail_more c.args.text.now c.loop-line.line c.has_form.result c.has_form.ensures.1 c.if-has_form.false
    c.loop-line.invariant

pub returns-clause-found : goal.returns-clause-found
returns-clause-found c =
    none_at_end c.args.text.now c.loop-line.line
    (subst (λ n. n ≤ c.loop-line.line) c.count-line-end.ensures.count c.loop-line-test.false) c.loop-line.invariant
