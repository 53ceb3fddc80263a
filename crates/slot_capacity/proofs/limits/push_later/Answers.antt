use Rattle.std.proofs.Common.{◌≡◌, ◌∙◌, ◌+◌, ◌-◌, ◌++◌, ap, arith}
use Rattle.std.specs.List.{flat_map, range_with_len}
use Rattle.slot_capacity.specs.Limits.{last_of, limit_at}
use Rattle.slot_capacity.proofs.LimitLists.{last-early, later-more}
use Rattle.slot_capacity.proofs.limits.push_later.Goals as goal

pub overflow_add-cycle-end : goal.overflow_add-cycle-end
overflow_add-cycle-end c =
    let early = last-early c.args.later.now 24 c.requires.early in
    let last = c.last_of-cycle-end.ensures in
    omega arith

pub push_limit-requires-clause-to : goal.push_limit-requires-clause-to
push_limit-requires-clause-to c =
    let early = last-early c.args.later.now 24 c.requires.early in
    let last = c.last_of-cycle-end.ensures in
    let lt = c.loop-cycle-test.true in
    omega arith

pub loop-cycle-preserved : goal.loop-cycle-preserved
loop-cycle-preserved c = record {
  is =
      later-more c.args.group.now c.args.later.now c.args.e c.args.limits.now.items c.loop-cycle.limits.items
      c.push_limit.new.limits.items c.loop-cycle.cycle c.loop-cycle.auto.cycle c.loop-cycle.invariant.is
      c.in_ok-push_limit.ensures;
  within = (let last = c.last_of-cycle-end.ensures in let lt = c.loop-cycle-test.true in omega arith);
}

pub returns : goal.returns
returns c =
    let last = c.last_of-cycle-end.ensures in
    let past = c.loop-cycle-test.false in
    let within = c.loop-cycle.invariant.within in
    let same : c.loop-cycle.cycle - c.args.e ≡ last_of c.args.later.now + 1 - c.args.e = omega arith in
    c.loop-cycle.invariant.is
    ∙ ap (λ n. c.args.limits.now.items ++ flat_map (limit_at c.args.group.now c.args.later.now c.args.e)
    (range_with_len c.args.e n))
    same
