use Rattle.std.proofs.Common.{◌≡◌, ◌∙◌, sym, arith}
use Rattle.std.proofs.lemmas.Result.{err_from_is_err_and}
use Rattle.answer_texts.proofs.PartsNextGoal.{none_read, one_read, all_read, next_fault, many_fault}
use Rattle.answer_texts.proofs.goal_reading.read_goals.Goals as goal

pub loop-done-init : goal.loop-done-init
loop-done-init c = none_read c.args.text.now c.args.version c.args.table.now c.args.from c.new-goals.result c.new-goals.ensures c.requires

pub returns-in_err-goal-clause-fault : goal.returns-in_err-goal-clause-fault
returns-in_err-goal-clause-fault c =
    let p = err_from_is_err_and c.from_residual.result c.from_residual.ensures.1 in
    rw (p.1, p.2)
    (next_fault c.args.text.now c.args.version c.args.table.now c.args.from c.loop-done.line c.loop-done.done c.loop-done.goals _
    c.loop-done.invariant c.loop-done-test.true c.in_err-goal.ensures.fault)

pub returns-then-line-count-clause-ok : goal.returns-then-line-count-clause-ok
returns-then-line-count-clause-ok c =
    all_read c.args.text.now c.args.version c.args.table.now c.args.from c.loop-done.line c.in_ok-goal.next c.loop-done.done
    c.loop-done.goals _ c.in_ok-goal.goal c.loop-done.invariant c.loop-done-test.true c.in_ok-goal.ensures.ok
    (c.if-line-count.true ∙ c.count.ensures.count) c.in_ok-push.ensures.ok

pub loop-done-preserved : goal.loop-done-preserved
loop-done-preserved c =
    one_read c.args.text.now c.args.version c.args.table.now c.args.from c.loop-done.line c.in_ok-goal.next c.loop-done.done
    c.loop-done.goals _ c.in_ok-goal.goal c.loop-done.invariant c.loop-done-test.true c.in_ok-goal.ensures.ok
    (λ e. c.if-line-count.false (e ∙ sym c.count.ensures.count)) c.in_ok-push.ensures.ok

pub returns-clause-fault : goal.returns-clause-fault
returns-clause-fault c =
    let all : c.loop-done.done ≡ 64 = omega arith in
    many_fault c.args.text.now c.args.version c.args.table.now c.args.from c.loop-done.line c.loop-done.done c.loop-done.goals _
    c.loop-done.invariant all c.bad_line.ensures
