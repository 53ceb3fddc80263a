use Rattle.std.proofs.Common.{◌≡◌, ◌≤◌, ◌+◌, ◌-◌, ◌*◌, take}
use Rattle.std.specs.List.{sum_by}
use Rattle.slot_capacity.proofs.counts.launched_count.Given as goal

abbrev pub invariant-loop-one : goal.invariant-loop-one
invariant-loop-one l = record {
  is : l.count ≡ sum_by (λ x. x.last + 1 - x.first) (take l.one-index l.counted);
  small : l.count ≤ l.one-index * 25;
}
