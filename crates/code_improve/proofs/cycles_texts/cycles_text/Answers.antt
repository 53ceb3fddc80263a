use Rattle.std.proofs.Common.{◌∙◌, ◌≤◌, List, All, ap, length, map, subst, sym}
use Rattle.code_lift.specs.Views.{lift_view}
use Rattle.code_lift.specs.WellFormed.{IsLift}
use Rattle.code_lift.specs.declared.lifts.Lift.{Lift}
use Rattle.reports.specs.Statuses.{greater}
use Rattle.code_improve.proofs.Counted.{AreCountedTo, all_counted, counted_more, counted_none, lift_at}
use Rattle.code_improve.proofs.cycles_texts.cycles_text.Goals as goal

pub loop-lift-init : goal.loop-lift-init
loop-lift-init c =
    counted_none c.in_ok-lifts.lifts.table c.args.cycles c.args.conflicts c.as_slice-lift-items.result.now c.new-bytes.result.items
    c.new-bytes.ensures.items

pub count_cycles-requires-clause-lift : goal.count_cycles-requires-clause-lift
count_cycles-requires-clause-lift c =
    lift_at c.as_slice-lift-items.result.now c.loop-lift.lift-index c.lift-item.result
    (subst (λ (ls : List Lift). All IsLift (map lift_view ls)) (sym c.as_slice-lift-items.ensures) c.in_ok-lifts.ensures.well_formed.each)
    c.loop-lift-test.true c.lift-item.is

pub loop-lift-preserved : goal.loop-lift-preserved
loop-lift-preserved c =
    counted_more c.in_ok-lifts.lifts.table c.args.cycles c.args.conflicts c.as_slice-lift-items.result.now c.loop-lift.lift-index
    c.lift-item.result c.in_ok-count.count c.loop-lift.bytes.items c.put_count.new.text.items c.loop-lift.status
    c.or_greater-status.result c.loop-lift-test.true c.lift-item.is c.loop-lift.invariant c.in_ok-count.ensures.count
    c.in_ok-put_count.ensures (c.or_greater-status.ensures ∙ ap (greater c.loop-lift.status) c.status_of.ensures)

pub returns-clause-answered : goal.returns-clause-answered
returns-clause-answered c =
    let all = subst (λ (ls : List Lift). AreCountedTo c.in_ok-lifts.lifts.table c.args.cycles c.args.conflicts ls c.loop-lift.lift-index c.loop-lift.bytes.items c.loop-lift.status)
    c.as_slice-lift-items.ensures c.loop-lift.invariant in
    all_counted c.args.text.now c.in_ok-lifts.lifts c.args.cycles c.args.conflicts c.loop-lift.lift-index c.loop-lift.bytes.items c.loop-lift.status
    c.in_ok-lifts.ensures.lifts
    (subst (λ (ls : List Lift). length ls ≤ c.loop-lift.lift-index) c.as_slice-lift-items.ensures c.loop-lift-test.false) all
