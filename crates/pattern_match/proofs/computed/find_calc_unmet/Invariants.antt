use Rattle.std.proofs.Common.{All, map, take}
use Rattle.pattern_match.specs.Bindings.{AreUnmet}
use Rattle.pattern_match.specs.Found.{classes_in}
use Rattle.pattern_match.specs.Listing.{Chosen}
use Rattle.pattern_match.specs.Matches.{IsUnmetCalc}
use Rattle.pattern_match.proofs.Choosing.{AsItself}
use Rattle.pattern_match.proofs.computed.find_calc_unmet.Given as goal

abbrev pub invariant-loop-one : goal.invariant-loop-one
invariant-loop-one l = record {
  chosen : Chosen (AsItself (AreUnmet l.graph l.kind) (AreUnmet l.graph l.kind)) (map classes_in (take l.one-index l.one-items)) (map classes_in l.found.items);
  each : All (IsUnmetCalc l.graph l.kind) l.found.items;
}
