use Rattle.std.proofs.Common.{◌≡◌, length}
use Rattle.sat_core.specs.Notes.{AreNotes, AreFrames}
use Rattle.sat_core.proofs.notes.Notes.give_up.Given as goal

abbrev pub invariant-loop-frame : goal.invariant-loop-frame
invariant-loop-frame l = record {
  notes : AreNotes (length l.initial.self.findings.items) l.self;
  frames : AreFrames (length l.initial.self.findings.items) l.self.stack.items;
  whole : l.self.whole ≡ l.initial.self.whole;
}

abbrev pub decreases-loop-frame : goal.decreases-loop-frame
decreases-loop-frame l = length l.self.stack.items
