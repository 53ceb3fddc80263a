use Rattle.std.proofs.Common.{◌≡◌, ◌≤◌}
use Rattle.std.specs.List.{count_by, range_with_len}
use Rattle.cycle_encoding.specs.CycleFormula.{wants_in}
use Rattle.cycle_encoding.specs.Facts.{is_unsafe_shown}
use Rattle.cycle_encoding.proofs.sizes.shown_count.Given as goal

abbrev pub invariant-loop-class : goal.invariant-loop-class
invariant-loop-class l = record { is : l.count ≡ count_by (is_unsafe_shown l.facts (wants_in l.scope)) (range_with_len 0 l.class); small : l.count ≤ l.class }
