use Rattle.std.proofs.Common.{◌≡◌, ◌++◌, take}
use Rattle.std.specs.List.{flat_map}
use Rattle.refutation_check.specs.LineText.{literal_text}
use Rattle.refutation_check.proofs.text.print_literals.Given as goal

abbrev pub invariant-loop-lit : goal.invariant-loop-lit
invariant-loop-lit l = l.text.items ≡ l.initial.text.items ++ flat_map literal_text (take l.lit-index l.lits)
