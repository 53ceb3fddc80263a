use Rattle.std.proofs.Common.{◌≡◌, length}
use Rattle.sat_core.specs.Notes.{AreNotes, AreFrames}
use Rattle.sat_core.specs.Steps.{var_count}
use Rattle.sat_core.proofs.notes.Notes.is_implied.Given as goal

abbrev pub invariant-loop : goal.invariant-loop
invariant-loop l = record {
  notes : AreNotes (var_count l.trail) l.self;
  frames : AreFrames (length l.trail.steps.items) l.self.stack.items;
  whole : l.self.whole ≡ l.initial.self.whole;
}
