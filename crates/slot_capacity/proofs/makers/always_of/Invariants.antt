use Rattle.std.proofs.Common.{◌≡◌, take}
use Rattle.std.specs.List.{filter, list_all}
use Rattle.slot_capacity.specs.Makers.{has, reads_of}
use Rattle.slot_capacity.proofs.makers.always_of.Given as goal

abbrev pub invariant-loop-class : goal.invariant-loop-class
invariant-loop-class l =
    l.always.items
    ≡ filter (λ class. list_all (λ r. has (reads_of l.reads.facts.now r) class) l.rows) (take l.class-index l.class-items)
