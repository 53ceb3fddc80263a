use Rattle.std.proofs.Common.{◌≡◌, drop}
use Rattle.std.specs.List.{list_any}
use Rattle.schedule_meaning.specs.Lifetimes.{is_unpinned_of}
use Rattle.schedule_meaning.proofs.lifetimes.has_unpinned_of.Given as goal

abbrev pub invariant-loop-set : goal.invariant-loop-set
invariant-loop-set l =
    list_any (is_unpinned_of l.class) l.graph.sets ≡ list_any (is_unpinned_of l.class) (drop l.set-index l.graph.sets)
