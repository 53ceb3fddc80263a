use Rattle.std.proofs.Common.{◌≡◌, take, map}
use Rattle.std.specs.List.{range_with_len}
use Rattle.std.specs.Prelude.{◌==◌}
use Rattle.std.specs.List.{list_any}
use Rattle.cycle_encoding.proofs.facts.inputs.Given as goal

abbrev pub invariant-loop-input : goal.invariant-loop-input
invariant-loop-input l = l.table.items ≡ map (λ c. list_any (λ i. i.class == c) (take l.input-index l.graph.inputs)) (range_with_len 0 l.classes)
