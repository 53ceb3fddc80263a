use Rattle.std.proofs.Common.{◌≡◌, ℕ, List, map, take}
use Rattle.refute_trim.specs.Marks.{AreNewNumbers}
use Rattle.refute_trim.specs.Trimmed.{new_number}
use Rattle.refute_trim.proofs.numbers.renumbered_hints.Given as goal

abbrev pub invariant-loop-hint : goal.invariant-loop-hint
invariant-loop-hint l =
    (places : List ℕ) → AreNewNumbers l.clauses places l.numbers → l.renumbered ≡ map (new_number l.clauses places) (take l.hint-index l.hints)
