use Rattle.std.proofs.Common.{◌-◌, ◌≤◌, arith}
use Rattle.std.proofs.Math.Nat.{mul-le-mul_left}
use Rattle.schedule_meaning.specs.Limits.{most_launches}
use Rattle.least_launch.proofs.counting.counter_size.Goals as goal

pub overflow_mul-result-2 : goal.overflow_mul-result-2
overflow_mul-result-2 c =
    let few = c.requires.few in
    let low = c.requires.low in
    let same = c.from-width.ensures in
    let narrow : c.from-width.result - 1 ≤ most_launches = omega (arith, low, same) in
    let most = mul-le-mul_left {m = c.from-width.result - 1} {n = 192} (c.args.literals - 1 - 1) narrow in
    omega (arith, few, most)
