use Rattle.std.proofs.Common.{◌≡◌, [], take}
use Rattle.std.specs.Prelude.{fold}
use Rattle.cycle_encoding.specs.Variables.{slots_of}
use Rattle.slot_capacity.specs.Limits.{with_group}
use Rattle.slot_capacity.proofs.groups.groups.Given as goal

abbrev pub invariant-loop-one : goal.invariant-loop-one
invariant-loop-one l =
    l.groups.items ≡ fold (λ groups u. with_group groups (slots_of l.table u)) [] (take l.one-index l.table.uses)
