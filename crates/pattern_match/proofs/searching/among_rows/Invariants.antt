use Rattle.std.proofs.Common.{false, length}
use Rattle.word_terms.specs.Tree.{application, operands_of}
use Rattle.word_terms.specs.View.{trees_of}
use Rattle.pattern_match.specs.Bindings.{AreMatches, IsSubstitutionByRow}
use Rattle.pattern_match.proofs.RowSteps.{WalkedTo, rows_left}
use Rattle.pattern_match.proofs.searching.among_rows.Given as goal

abbrev pub invariant-loop-place : goal.invariant-loop-place
invariant-loop-place l =
    WalkedTo false l.graph l.fn.op 0 l.place (λ end. AreMatches l.graph (application l.fn.op (operands_of (trees_of l.operands))) (IsSubstitutionByRow l.graph l.fn.op (operands_of (trees_of l.operands)) l.count end) l.out.items)

abbrev pub decreases-loop-place : goal.decreases-loop-place
decreases-loop-place l = rows_left (length l.graph.rows) l.place
