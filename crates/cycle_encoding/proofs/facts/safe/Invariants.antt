use Rattle.std.proofs.Common.{◌≡◌, not, take, map}
use Rattle.std.specs.Prelude.{◌==◌, ◌&&◌}
use Rattle.std.specs.List.{list_any, range_with_len}
use Rattle.cycle_encoding.specs.Variables.{is_pin}
use Rattle.cycle_encoding.proofs.facts.safe.Given as goal

abbrev pub invariant-loop-input : goal.invariant-loop-input
invariant-loop-input l = l.table.items ≡ map (λ c. list_any (λ i. (i.class == c) && not (is_pin l.graph i.reg)) (take l.input-index l.graph.inputs)) (range_with_len 0 l.classes)
