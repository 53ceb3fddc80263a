use Rattle.std.proofs.Common.{◌≡◌, take, true}
use Rattle.std.specs.List.{list_all}
use Rattle.text_core.specs.Lines.{is_line_byte}
use Rattle.text_core.proofs.splitter.refused_byte.Given as goal

-- The bytes so far are allowed.
abbrev pub invariant-loop-at : goal.invariant-loop-at
invariant-loop-at l = list_all is_line_byte (take l.at l.text) ≡ true
