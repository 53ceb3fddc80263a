use Rattle.refute_trim.proofs.Marking.{AreVisitedBack}
use Rattle.refute_trim.proofs.needed.mark_needed.Given as goal

abbrev pub invariant-loop-done : goal.invariant-loop-done
invariant-loop-done l = AreVisitedBack l.lines l.done l.needed
