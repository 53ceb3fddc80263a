use Rattle.std.proofs.Common.{◌≡◌}
use Rattle.std.specs.Prelude.{is_some}
use Rattle.std.specs.List.{filter, range_with_len}
use Rattle.schedule_meaning.specs.Launches.{pin_of}
use Rattle.schedule_meaning.specs.declared.schedules.To.TheVariants.{Set}
use Rattle.cycle_encoding.proofs.facts.pins.Given as goal

abbrev pub invariant-loop-set : goal.invariant-loop-set
invariant-loop-set l = l.pins.items ≡ filter (λ j. is_some (pin_of l.graph (Set j))) (range_with_len 0 l.set)
