use Rattle.std.proofs.Common.{◌≡◌, ◌++◌, take}
use Rattle.std.specs.List.{flat_map}
use Rattle.refutation_check.specs.LineText.{hint_text}
use Rattle.refutation_check.proofs.text.print_hints.Given as goal

abbrev pub invariant-loop-hint : goal.invariant-loop-hint
invariant-loop-hint l = l.text.items ≡ l.initial.text.items ++ flat_map hint_text (take l.hint-index l.hints)
