use Rattle.std.proofs.Common.{◌≡◌, take, true}
use Rattle.std.specs.List.{list_all}
use Rattle.text_core.specs.Pieces.{goes_on}
use Rattle.text_core.proofs.pieces.run.Given as goal

-- The bytes so far go on with the piece.
abbrev pub invariant-loop-index : goal.invariant-loop-index
invariant-loop-index l = list_all (goes_on l.kind) (take l.index l.text) ≡ true
