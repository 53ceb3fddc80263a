use Rattle.std.proofs.Common.{◌≡◌, ◌≤◌, length}
use Rattle.pattern_match.specs.ByOperator.{AreLists}
use Rattle.pattern_match.proofs.row_lists.RowLists.new.Given as goal

abbrev pub invariant-loop-at : goal.invariant-loop-at
invariant-loop-at l = record {
  lists : AreLists l.by_class l.graph l.at l.lists.firsts.entries l.lists.nexts.items;
  count : length l.lists.nexts.items ≡ length l.graph.rows;
  within : l.at ≤ length l.graph.rows;
}

abbrev pub decreases-loop-at : goal.decreases-loop-at
decreases-loop-at l = l.at
