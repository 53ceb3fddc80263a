use Rattle.std.proofs.Common.{◌≡◌, [], length}
use Rattle.sat_core.specs.Notes.{AreNotes}
use Rattle.sat_core.proofs.notes.Notes.clear.Given as goal

abbrev pub invariant-loop-index : goal.invariant-loop-index
invariant-loop-index l = record {
  notes : AreNotes (length l.initial.self.findings.items) l.self;
  whole : l.self.whole ≡ l.initial.self.whole;
  met : l.self.met.items ≡ [];
}

abbrev pub decreases-loop-index : goal.decreases-loop-index
decreases-loop-index l = length l.self.found.items
