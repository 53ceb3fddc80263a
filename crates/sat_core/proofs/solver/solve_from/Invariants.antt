use Rattle.std.proofs.Common.{◌≡◌, length}
use Rattle.sat_core.specs.Steps.{var_count}
use Rattle.pick_rule.specs.declared.pick.Pick.TheVariants.{Busy}
use Rattle.sat_core.specs.Notes.{AreNotes}
use Rattle.sat_core.specs.Picks.{AreScores, Offers}
use Rattle.sat_core.specs.Walks.{AreNoMarks}
use Rattle.sat_core.specs.Watches.{AreWatched}
use Rattle.sat_core.proofs.Searching.{IsSearch}
use Rattle.sat_core.proofs.solver.solve_from.Given as goal

abbrev pub invariant-loop-made : goal.invariant-loop-made
invariant-loop-made l = record {
  search : IsSearch l.cnf l.lines l.clauses l.trail;
  watched : AreWatched l.clauses (var_count l.trail) l.trail.steps.items l.watches;
  offers : Offers l.trail.values.items l.decider;
  pick : l.decider.pick ≡ l.pick;
  scored : l.pick ≡ Busy → AreScores (var_count l.trail) l.scores l.lines l.decider.scores.items;
  notes : AreNotes (var_count l.trail) l.notes;
  unmarked : AreNoMarks (var_count l.trail) l.seen.items;
  count : length l.lines ≡ l.made;
}
