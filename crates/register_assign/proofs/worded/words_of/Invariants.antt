use Rattle.std.proofs.Common.{◌≡◌, ◌<◌, ◌^◌, map, take}
use Rattle.std.specs.Prelude.{All}
use Rattle.alpha_encode.specs.Formats.{encoded}
use Rattle.register_assign.specs.Outcomes.{AreWordsOf}
use Rattle.register_assign.proofs.worded.words_of.Given as goal

abbrev pub invariant-loop-item : goal.invariant-loop-item
invariant-loop-item l =
    AreWordsOf (take l.item-index l.items) l.words.items
    × (l.words.items ≡ map (λ a. encoded a.instr) (take l.item-index l.items))
    × All (λ word. word < 2 ^ 32) l.words.items
