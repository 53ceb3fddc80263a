use Rattle.std.proofs.Common.{◌≡◌, ◌++◌}
use Rattle.std.specs.List.{flat_map, range_with_len}
use Rattle.cycle_encoding.specs.Shapes.{numbered, vars_of}
use Rattle.order_encoding.specs.LiveVariables.{all_holds}
use Rattle.order_encoding.specs.LiveFamilies.{is_hold_at}
use Rattle.order_encoding.proofs.holds.push_slot_lits.Given as goal

abbrev pub invariant-loop-start : goal.invariant-loop-start
invariant-loop-start l = l.lits.items ≡ l.initial.lits.items ++ flat_map (λ start. vars_of (is_hold_at l.slot start l.cycle) (numbered l.holds.first (all_holds l.holds.table.now l.holds.k))) (range_with_len 0 l.start)
