use Rattle.std.proofs.Common.{◌≡◌, ◌≤◌, ◌+◌, ◌-◌, ◌++◌}
use Rattle.std.specs.List.{flat_map, range_with_len}
use Rattle.slot_capacity.specs.Limits.{last_of, limit_at}
use Rattle.slot_capacity.proofs.limits.push_later.Given as goal

abbrev pub invariant-loop-cycle : goal.invariant-loop-cycle
invariant-loop-cycle l = record {
  is : l.limits.items
      ≡ l.initial.limits.items ++ flat_map (limit_at l.group l.later l.e) (range_with_len l.e (l.cycle - l.e));
  within : l.cycle - l.e ≤ last_of l.later + 1 - l.e;
}
