use Rattle.std.proofs.Common.{◌≡◌, ◌≤◌, ◌&&◌, take}
use Rattle.std.specs.List.{count_by}
use Rattle.cycle_encoding.specs.Families.{is_made_target}
use Rattle.order_encoding.specs.OrderCounts.{is_pooled_in}
use Rattle.order_encoding.proofs.live_counts.target_count.Given as goal

abbrev pub invariant-loop-place : goal.invariant-loop-place
invariant-loop-place l = record { is : l.count ≡ count_by (λ s. is_made_target l.pooled.frame.facts.now s && is_pooled_in l.pooled.frame.facts.now l.pooled.frame.table.now l.pooled.frame.k l.pooled.frame.scope.now s.class) (take l.place l.pooled.frame.facts.now.sets); small : l.count ≤ l.place }
