use Rattle.std.proofs.Common.{◌≡◌, ◌≤◌, ◌+◌, ◌-◌, ◌*◌}
use Rattle.std.specs.List.{sum_by, range_with_len}
use Rattle.order_encoding.proofs.live_counts.cycles_from.Given as goal

abbrev pub invariant-loop-step : goal.invariant-loop-step
invariant-loop-step l = record { is : l.count ≡ sum_by (λ t. 1 + (l.k - (t + 1))) (range_with_len l.first l.step); small : l.count ≤ l.step * 24 }
