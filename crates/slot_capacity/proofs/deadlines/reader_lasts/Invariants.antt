use Rattle.std.proofs.Common.{◌≡◌, map, take}
use Rattle.cycle_encoding.specs.Variables.{classes_of}
use Rattle.slot_capacity.specs.DeadlinesSteps.{lasts_for}
use Rattle.slot_capacity.proofs.deadlines.reader_lasts.Given as goal

abbrev pub invariant-loop-reader : goal.invariant-loop-reader
invariant-loop-reader l =
    l.lists.items
    ≡ map (lasts_for l.makers.frame.facts.now l.makers.spans.items (take l.reader-index l.deadlines)) (classes_of l.makers.frame.facts.now)
