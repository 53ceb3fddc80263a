use Rattle.std.proofs.Common.{◌≡◌, ap, arith}
use Rattle.order_encoding.specs.OrderSteps.{starts_before}
use Rattle.order_encoding.proofs.HoldPlaces.{starts-more}
use Rattle.order_encoding.proofs.holds.starts_before.Goals as goal

pub loop-one-preserved : goal.loop-one-preserved
loop-one-preserved c =
    let more = starts-more c.args.k c.loop-one.one in
    let is = c.loop-one.invariant.is in
    let small = c.loop-one.invariant.small in
    let few = c.requires.cycles in
    record { is = omega arith; small = omega arith }

pub returns-clause-value : goal.returns-clause-value
returns-clause-value c =
    let end : c.loop-one.one ≡ c.args.start = (let a = c.loop-one-test.false in let b = c.loop-one.auto.one-end in omega arith) in
    let e = ap (starts_before c.args.k) end in
    let is = c.loop-one.invariant.is in
    omega arith
