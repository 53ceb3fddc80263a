use Rattle.std.proofs.Common.{◌≡◌, take}
use Rattle.cycle_encoding.specs.Shapes.{numbered, implied}
use Rattle.cycle_encoding.specs.Steps.{with_clauses}
use Rattle.order_encoding.specs.LiveVariables.{all_needs, pooled_classes}
use Rattle.order_encoding.specs.LiveFamilies.{operand_needs}
use Rattle.order_encoding.proofs.needs.add_needs.Given as goal

abbrev pub invariant-loop-index : goal.invariant-loop-index
invariant-loop-index l = l.cnf ≡ with_clauses l.initial.cnf (implied (numbered 0 (take l.index l.live.launches.now)) (operand_needs l.live.facts.now (numbered 0 l.live.launches.now) (numbered l.live.needs.first (all_needs l.live.needs.cycles (pooled_classes l.live.facts.now (numbered 0 l.live.launches.now))))))
