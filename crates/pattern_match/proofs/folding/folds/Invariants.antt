use Rattle.std.proofs.Common.{take}
use Rattle.pattern_match.specs.Listing.{Chosen}
use Rattle.pattern_match.specs.Matches.{IsFoldOf}
use Rattle.pattern_match.proofs.folding.folds.Given as goal

abbrev pub invariant-loop-at : goal.invariant-loop-at
invariant-loop-at l = Chosen (IsFoldOf l.graph) (take l.at l.graph.rows) l.found.items
