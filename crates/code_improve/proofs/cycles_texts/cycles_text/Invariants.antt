use Rattle.code_improve.proofs.Counted.{AreCountedTo}
use Rattle.code_improve.proofs.cycles_texts.cycles_text.Given as goal

abbrev pub invariant-loop-lift : goal.invariant-loop-lift
invariant-loop-lift l = AreCountedTo l.table l.cycles l.conflicts l.lift-items l.lift-index l.bytes.items l.status
