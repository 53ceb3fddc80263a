use Rattle.std.proofs.Common.{◌≡◌, take}
use Rattle.std.specs.Str.Parse.{AllDigits, digits_value}
use Rattle.run_texts.proofs.line_reading.hex_word.Given as goal

-- The word is that of the digits so far.
abbrev pub invariant-loop-byte : goal.invariant-loop-byte
invariant-loop-byte l = record {
  each : AllDigits 16 (take l.byte-index l.digits);
  word : l.word ≡ digits_value 16 (take l.byte-index l.digits);
}
