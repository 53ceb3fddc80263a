use Rattle.std.proofs.Common.{◌≡◌, ◌-◌, ◌++◌, map}
use Rattle.std.specs.Prelude.{replicate}
use Rattle.code_lift.specs.Lifted.{first_numbers}
use Rattle.code_lift.specs.declared.lifting.Value.TheVariants.{Entry, Zero}
use Rattle.code_lift.proofs.lifting.Lifting.new.Given as goal

abbrev pub invariant-loop-register : goal.invariant-loop-register
invariant-loop-register l = l.latest ≡ map Entry (first_numbers l.register) ++ replicate (32 - l.register) Zero
