use Rattle.std.proofs.Common.{◌≡◌, ◌*◌, ◌≤◌}
use Rattle.order_encoding.specs.OrderSteps.{starts_before}
use Rattle.order_encoding.proofs.holds.starts_before.Given as goal

abbrev pub invariant-loop-one : goal.invariant-loop-one
invariant-loop-one l = record { is : l.before ≡ starts_before l.k l.one; small : l.before ≤ l.one * 24 }
