use Rattle.std.proofs.Common.{◌≡◌, drop}
use Rattle.std.specs.Prelude.{fold}
use Rattle.slot_capacity.specs.DeadlinesSteps.{before_reader}
use Rattle.slot_capacity.proofs.deadlines.lowered.Given as goal

abbrev pub invariant-loop-reader : goal.invariant-loop-reader
invariant-loop-reader l =
    fold (before_reader l.own l.delay) l.last (drop l.reader-index l.readers)
    ≡ fold (before_reader l.own l.delay) l.own.last l.readers
