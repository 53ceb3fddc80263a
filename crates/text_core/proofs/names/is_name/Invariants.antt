use Rattle.std.specs.Prelude.{◌≡◌, true, take}
use Rattle.std.specs.List.{list_all}
use Rattle.text_core.specs.Pieces.{is_word_byte}
use Rattle.text_core.proofs.names.is_name.Given as goal

abbrev pub invariant-loop-byte : goal.invariant-loop-byte
invariant-loop-byte l = list_all is_word_byte (take l.byte-index l.bytes) ≡ true
