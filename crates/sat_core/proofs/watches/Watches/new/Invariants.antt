use Rattle.std.proofs.Common.{◌≡◌, List, [], length}
use Rattle.std.specs.List.{All}
use Rattle.sat_core.specs.declared.watches.Watcher.{Watcher}
use Rattle.sat_core.proofs.watches.Watches.new.Given as goal

abbrev pub invariant-loop : goal.invariant-loop
invariant-loop l = record {
  count : length l.lists.items ≡ l.counter;
  empty : All (λ (xs : List Watcher). xs ≡ []) l.lists.items;
}
