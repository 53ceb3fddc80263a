use Rattle.std.proofs.Common.{◌≡◌, drop}
use Rattle.std.specs.List.{list_any}
use Rattle.schedule_meaning.specs.Readers.{touches}
use Rattle.schedule_meaning.proofs.readers.is_intact.Given as goal

abbrev pub invariant-loop-other : goal.invariant-loop-other
invariant-loop-other l = list_any (touches l.graph l.reader l.register) l.list ≡ list_any (touches l.graph l.reader l.register) (drop l.other-index l.list)
