use Rattle.std.proofs.Common.{◌≡◌, take, map}
use Rattle.std.specs.List.{range_with_len}
use Rattle.graph_meaning.specs.WellFormed.{next_class}
use Rattle.cycle_encoding.specs.Steps.{given_in}
use Rattle.cycle_encoding.proofs.families.makers.Given as goal

abbrev pub invariant-loop-index : goal.invariant-loop-index
invariant-loop-index l = l.makers.items ≡ map (λ class. given_in l.facts class (take l.index l.launches)) (range_with_len 0 (next_class l.facts.rows))
