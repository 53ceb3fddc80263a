use Rattle.std.proofs.Common.{sym, ◌∙◌}
use Rattle.std.proofs.lemmas.List.{take_all}
use Rattle.std.proofs.lemmas.Result.{err_from_is_err_and}
use Rattle.least_launch.proofs.Behind.{all_said, behind_fault, goal_fault, none_said, one_said}
use Rattle.least_launch.proofs.tail_reading.read_tails.Goals as goal

pub loop-goal-init : goal.loop-goal-init
loop-goal-init c =
    none_said c.args.text.now c.args.from c.args.goals.now c.new-said.result c.new-said.ensures c.requires

pub returns-in_err-tail-clause-fault : goal.returns-in_err-tail-clause-fault
returns-in_err-tail-clause-fault c =
    let p = err_from_is_err_and c.from_residual.result c.from_residual.ensures.1 in
    rw (p.1, p.2)
    (goal_fault c.args.text.now c.args.from c.args.goals.now c.loop-goal.line c.loop-goal.goal-index c.loop-goal.said
    c.goal-item.result _ c.loop-goal.invariant c.loop-goal-test.true c.goal-item.is c.in_err-tail.ensures.fault)

pub loop-goal-preserved : goal.loop-goal-preserved
loop-goal-preserved c =
    one_said c.args.text.now c.args.from c.args.goals.now c.loop-goal.line c.in_ok-tail.next c.loop-goal.goal-index
    c.loop-goal.said
    _ c.goal-item.result c.in_ok-tail.tail c.loop-goal.invariant c.loop-goal-test.true c.goal-item.is
    c.in_ok-tail.ensures.ok
    c.in_ok-tail.ensures.few c.in_ok-tail.ensures.within c.in_ok-push.ensures.ok

pub returns-then-line-count-clause-fault : goal.returns-then-line-count-clause-fault
returns-then-line-count-clause-fault c =
    behind_fault c.args.text.now c.args.from c.args.goals.now c.loop-goal.line c.loop-goal.goal-index c.loop-goal.said _
    c.loop-goal.invariant (take_all c.loop-goal.goal-index c.args.goals.now c.loop-goal-test.false)
    (λ e. c.if-line-count.true (e ∙ sym c.count.ensures.count)) c.bad_line.ensures

pub returns-clause-ok : goal.returns-clause-ok
returns-clause-ok c =
    all_said c.args.text.now c.args.from c.args.goals.now c.loop-goal.line c.loop-goal.goal-index c.loop-goal.said
    c.loop-goal.invariant (take_all c.loop-goal.goal-index c.args.goals.now c.loop-goal-test.false)
    (c.if-line-count.false ∙ c.count.ensures.count)

pub returns-clause-few : goal.returns-clause-few
returns-clause-few c = c.loop-goal.invariant.few
