use Rattle.std.proofs.Common.{◌≡◌, map}
use Rattle.std.specs.List.{flat_map, filter, range_with_len}
use Rattle.cycle_encoding.specs.CycleFormula.{wants_in}
use Rattle.cycle_encoding.specs.Facts.{is_unsafe_shown}
use Rattle.cycle_encoding.specs.Steps.{clusters_seen, seen_before}
use Rattle.cycle_encoding.proofs.seen.seen_vars.Given as goal

abbrev pub invariant-loop-class : goal.invariant-loop-class
invariant-loop-class l = record {
  seen : l.seen.items ≡ flat_map (clusters_seen l.frame.table.now l.frame.k 4) (filter (is_unsafe_shown l.frame.facts.now (wants_in l.frame.scope.now)) (range_with_len 0 l.class));
  starts : l.starts.items ≡ map (seen_before l.frame.facts.now (wants_in l.frame.scope.now) l.frame.table.now l.frame.k) (range_with_len 0 l.class);
}
