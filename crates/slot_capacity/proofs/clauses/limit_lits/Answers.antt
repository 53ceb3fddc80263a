use Rattle.std.proofs.Common.{◌∙◌, min, get_or, ap}
use Rattle.cycle_encoding.specs.Shapes.{numbered, vars_of}
use Rattle.slot_capacity.specs.CapacityClauses.{all_launched, is_launched_at}
use Rattle.slot_capacity.specs.declared.deadlines.Deadline.{Deadline}
use Rattle.slot_capacity.proofs.ClauseSteps.{flat-pushed}
use Rattle.slot_capacity.proofs.Things.{no_deadline}
use Rattle.slot_capacity.proofs.clauses.limit_lits.Goals as goal

pub loop-one-preserved : goal.loop-one-preserved
loop-one-preserved c =
    let ps = numbered c.args.first (all_launched c.args.counted.now) in
    let f = λ (x : Deadline). vars_of (is_launched_at x.class (min c.args.limit.now.cycle x.last)) ps in
    flat-pushed f c.as_slice-one-items.result.now c.args.limit.now.due c.loop-one.one-index no_deadline
    c.as_slice-one-items.ensures
    c.loop-one-test.true c.loop-one.lits.items c.push_lit.new.lits.items _ c.loop-one.invariant c.in_ok-push_lit.ensures
    (c.launched_var.ensures ∙ ap (λ t. vars_of (is_launched_at
    (get_or c.as_slice-one-items.result.now c.loop-one.one-index no_deadline).class t) ps) c.min-cycle.ensures)
