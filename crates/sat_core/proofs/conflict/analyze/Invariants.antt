use Rattle.std.proofs.Common.{◌≤◌, length}
use Rattle.std.specs.Prelude.{reverse}
use Rattle.cnf_core.specs.Refutation.{clause_at}
use Rattle.sat_core.specs.Notes.{AreNotes}
use Rattle.sat_core.specs.Steps.{var_count}
use Rattle.sat_core.specs.Walks.{IsLastDecision, IsWalked, LeadsToConflict, IsBackjump, IsDecisionOrEnd}
use Rattle.sat_core.proofs.conflict.analyze.Given as goal

-- the walk visited the steps from the index on
abbrev pub invariant-loop-analysis : goal.invariant-loop-analysis
invariant-loop-analysis l = record {
  within : l.index ≤ length l.trail.steps.items;
  last : IsLastDecision l.trail.steps.items l.analysis.last;
  walked : IsWalked l.clauses (var_count l.trail) l.trail.steps.items l.index l.analysis;
  leads : LeadsToConflict l.clauses l.trail.steps.items l.index l.analysis.seen.items l.analysis.lits.items (reverse l.analysis.hints.items) (clause_at l.clauses l.id);
  stays : IsBackjump l.trail.steps.items l.index l.analysis.backjump l.analysis.lits.items;
  back : IsDecisionOrEnd l.trail.steps.items l.analysis.backjump;
  notes : AreNotes (var_count l.trail) l.notes;
}

abbrev pub decreases-loop-analysis : goal.decreases-loop-analysis
decreases-loop-analysis l = l.index
