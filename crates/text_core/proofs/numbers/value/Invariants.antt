use Rattle.std.proofs.Common.{◌≡◌, take}
use Rattle.std.specs.Str.Parse.{digits_value}
use Rattle.text_core.specs.Numbers.{IsBelowLimit}
use Rattle.text_core.proofs.numbers.value.Given as goal

-- The number is that of the digits so far.
abbrev pub invariant-loop-byte : goal.invariant-loop-byte
invariant-loop-byte l = record {
  digits : IsBelowLimit l.base (take l.byte-index l.digits);
  number : l.number ≡ digits_value l.base (take l.byte-index l.digits);
}
