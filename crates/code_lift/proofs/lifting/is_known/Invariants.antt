use Rattle.std.proofs.Common.{◌≡◌, drop}
use Rattle.std.specs.List.{list_any}
use Rattle.code_lift.specs.Lifted.{is_same_address}
use Rattle.code_lift.proofs.lifting.is_known.Given as goal

abbrev pub invariant-loop-other : goal.invariant-loop-other
invariant-loop-other l = list_any (is_same_address l.address) l.addresses ≡ list_any (is_same_address l.address) (drop l.other-index l.addresses)
