use Rattle.std.proofs.Common.{◌-◌, length, subst, arith}
use Rattle.cycle_encoding.specs.CycleFormula.{allocation_in}
use Rattle.least_launch.specs.Steps.{IsStep}
use Rattle.least_launch.proofs.Searched.{proof_at}
use Rattle.least_launch.proofs.searching.lessen.Goals as goal

pub overflow_cast-count : goal.overflow_cast-count
overflow_cast-count c =
    let few = c.fitting_schedules_are_small.ensures.few c.args.facts.now c.args.table.now
    (allocation_in c.args.scope.now) c.args.k c.loop-alloc.schedule.launches
    c.requires.table c.loop-alloc.invariant.fits in
    let cycles = c.requires.cycles in
    let size = c.len-count.ensures in
    omega (arith, few, cycles, size)

pub returns-then-count-eq0 : goal.returns-then-count-eq0
returns-then-count-eq0 c = record {
  fits = c.loop-alloc.invariant.fits;
  no_more = c.loop-alloc.invariant.no_more;
  proof_is = (let zero = c.if-count-eq0.true in let size = c.len-count.ensures in omega (arith, zero, size));
}

pub try_fewer-requires-clause-launches : goal.try_fewer-requires-clause-launches
try_fewer-requires-clause-launches c =
    let few = c.fitting_schedules_are_small.ensures.few c.args.facts.now c.args.table.now
    (allocation_in c.args.scope.now) c.args.k c.loop-alloc.schedule.launches
    c.requires.table c.loop-alloc.invariant.fits in
    let cycles = c.requires.cycles in
    let size = c.len-count.ensures in
    omega (arith, few, cycles, size)

pub loop-alloc-preserved : goal.loop-alloc-preserved
loop-alloc-preserved c =
    let step = subst (IsStep c.args.facts.now c.args.table.now (allocation_in c.args.scope.now) c.args.k
    c.args.conflicts (c.len-count.result - 1)) c.in-Fewer.is c.in_ok-fewer.ensures in
    let few = step.1 in
    let before = c.loop-alloc.invariant.no_more in
    let size = c.len-count.ensures in
    record { fits = step.0; no_more = omega (arith, few, before, size) }

pub loop-alloc-smaller : goal.loop-alloc-smaller
loop-alloc-smaller c =
    let step = subst (IsStep c.args.facts.now c.args.table.now (allocation_in c.args.scope.now) c.args.k
    c.args.conflicts (c.len-count.result - 1)) c.in-Fewer.is c.in_ok-fewer.ensures in
    let few = step.1 in
    let some = c.if-count-eq0.false in
    let size = c.len-count.ensures in
    omega (arith, few, some, size)

pub returns-in-Ended : goal.returns-in-Ended
returns-in-Ended c =
    let some = c.if-count-eq0.false in
    let size = c.len-count.ensures in
    record {
      fits = c.loop-alloc.invariant.fits;
      no_more = c.loop-alloc.invariant.no_more;
      proof_is = proof_at c.args.facts.now c.args.table.now (allocation_in c.args.scope.now) c.args.k c.args.conflicts
          (c.len-count.result - 1) (length c.loop-alloc.schedule.launches) c.in-Ended.proof (omega (arith, some, size))
          (subst (IsStep c.args.facts.now c.args.table.now (allocation_in c.args.scope.now) c.args.k c.args.conflicts
          (c.len-count.result - 1)) c.in-Ended.is c.in_ok-fewer.ensures);
    }
