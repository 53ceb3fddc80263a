use Rattle.std.proofs.Common.{map, take}
use Rattle.pattern_match.specs.Found.{classes_in}
use Rattle.pattern_match.specs.Listing.{Chosen}
use Rattle.pattern_match.proofs.Choosing.{AsItself}
use Rattle.pattern_match.proofs.ComputedMatching.{IsGiven}
use Rattle.pattern_match.proofs.computed.calc_matches.Given as goal

abbrev pub invariant-loop-one : goal.invariant-loop-one
invariant-loop-one l = Chosen (AsItself (IsGiven l.graph l.kind) (IsGiven l.graph l.kind)) (map classes_in (take l.one-index l.one-items)) (map classes_in l.found.items)
