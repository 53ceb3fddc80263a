use Rattle.std.proofs.Common.{◌≡◌, ◌∙◌, ◌-◌, ap, map, arith}
use Rattle.std.specs.List.{range_with_len}
use Rattle.cnf_core.specs.Formula.{Formula}
use Rattle.cycle_encoding.specs.Steps.{with_clauses}
use Rattle.order_encoding.specs.OrderSteps.{needed_before}
use Rattle.order_encoding.proofs.NeedSteps.{cycle_step, cycle_room, none_earlier}
use Rattle.order_encoding.proofs.needs.add_class_earlier.Goals as goal

pub loop-cycle-init : goal.loop-cycle-init
loop-cycle-init c = record { is = none_earlier c.args.before c.args.cnf.now; within = omega arith }

pub add_implied-requires-clause-room : goal.add_implied-requires-clause-room
add_implied-requires-clause-room c = (let from = c.loop-cycle.auto.cycle in let to = c.loop-cycle-test.true in let room = c.requires.room in cycle_room c.args.before c.args.k c.loop-cycle.cycle c.args.cnf.now c.loop-cycle.cnf c.loop-cycle.invariant.is from to room)

pub add_implied-requires-clause-var : goal.add_implied-requires-clause-var
add_implied-requires-clause-var c =
    let same = ap (λ (f : Formula). f.vars) c.loop-cycle.invariant.is in
    let to = c.loop-cycle-test.true in
    let exist = c.requires.exist in
    record { above = omega arith; within = omega arith }

pub loop-cycle-preserved : goal.loop-cycle-preserved
loop-cycle-preserved c =
    let from = c.loop-cycle.auto.cycle in
    let to = c.loop-cycle-test.true in
    record {
      is = cycle_step c.args.before c.loop-cycle.cycle c.args.cnf.now c.loop-cycle.cnf c.loop-cycle.invariant.is from c.add_implied.new.cnf c.in_ok-add_implied.ensures;
      within = omega (arith, from, to);
    }

pub returns : goal.returns
returns c =
    let end : c.loop-cycle.cycle - 1 ≡ c.args.k - 1 = (let a = c.loop-cycle-test.false in let b = c.loop-cycle.auto.cycle in let d = c.loop-cycle.invariant.within in omega (arith, a, b, d)) in
    c.loop-cycle.invariant.is ∙ ap (λ n. with_clauses c.args.cnf.now (map (needed_before c.args.before) (range_with_len 1 n))) end
