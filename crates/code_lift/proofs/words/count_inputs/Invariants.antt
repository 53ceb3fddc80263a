use Rattle.std.proofs.Common.{◌≡◌, ◌≤◌, false, length}
use Rattle.std.specs.Prelude.{filter, slice_index_or}
use Rattle.code_lift.specs.Lifted.{first_numbers}
use Rattle.code_lift.proofs.words.count_inputs.Given as goal

abbrev pub invariant-loop-register : goal.invariant-loop-register
invariant-loop-register l = record {
  counted : l.count ≡ length (filter (λ r. slice_index_or l.lifting.is_read r false) (first_numbers l.register));
  few : l.count ≤ l.register;
}
