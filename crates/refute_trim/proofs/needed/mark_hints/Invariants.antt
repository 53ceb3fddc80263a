use Rattle.std.proofs.Common.{take}
use Rattle.refute_trim.specs.Marks.{AreMarked}
use Rattle.refute_trim.proofs.needed.mark_hints.Given as goal

abbrev pub invariant-loop-hint : goal.invariant-loop-hint
invariant-loop-hint l = AreMarked l.clauses (take l.hint-index l.hints) l.initial.needed l.needed
