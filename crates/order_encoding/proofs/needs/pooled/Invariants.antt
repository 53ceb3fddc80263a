use Rattle.std.proofs.Common.{◌≡◌, take, map}
use Rattle.std.specs.List.{list_any, range_with_len}
use Rattle.graph_meaning.specs.WellFormed.{next_class}
use Rattle.order_encoding.specs.LiveVariables.{pools}
use Rattle.order_encoding.proofs.needs.pooled.Given as goal

abbrev pub invariant-loop-launch : goal.invariant-loop-launch
invariant-loop-launch l = l.marks.items ≡ map (λ c. list_any (λ x. pools l.facts c x) (take l.launch-index l.launches)) (range_with_len 0 (next_class l.facts.rows))
