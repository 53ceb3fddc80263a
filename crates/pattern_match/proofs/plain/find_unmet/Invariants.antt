use Rattle.std.proofs.Common.{◌≤◌, All, map, take, length}
use Rattle.pattern_match.specs.Found.{classes_in}
use Rattle.pattern_match.specs.Listing.{Chosen}
use Rattle.pattern_match.specs.Matches.{IsUnmet}
use Rattle.pattern_match.specs.declared.found.Match.{Match}
use Rattle.pattern_match.proofs.Choosing.{AsItself}
use Rattle.pattern_match.proofs.Matching.{Differ}
use Rattle.pattern_match.proofs.plain.find_unmet.Given as goal

abbrev pub invariant-loop-one : goal.invariant-loop-one
invariant-loop-one l = record {
  chosen : Chosen (AsItself (Differ l.graph l.rule.left l.rule.right) (Differ l.graph l.rule.left l.rule.right)) (map classes_in (take l.one-index l.one-items)) (map classes_in l.found.items);
  each : All (λ (m : Match). IsUnmet l.graph l.rule m.classes m.class) l.found.items;
  few : length l.found.items ≤ l.most;
}
