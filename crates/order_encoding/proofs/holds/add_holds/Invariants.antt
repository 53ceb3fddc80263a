use Rattle.std.proofs.Common.{◌≡◌, take}
use Rattle.cycle_encoding.specs.Shapes.{numbered, implied}
use Rattle.cycle_encoding.specs.Steps.{with_clauses}
use Rattle.order_encoding.specs.LiveVariables.{all_holds, all_needs, pooled_classes}
use Rattle.order_encoding.specs.LiveFamilies.{holds_register}
use Rattle.order_encoding.proofs.holds.add_holds.Given as goal

abbrev pub invariant-loop-index : goal.invariant-loop-index
invariant-loop-index l = l.cnf ≡ with_clauses l.initial.cnf (implied (numbered 0 (take l.index l.live.launches.now)) (holds_register l.live.facts.now l.live.needs.cycles (numbered l.live.needs.first (all_needs l.live.needs.cycles (pooled_classes l.live.facts.now (numbered 0 l.live.launches.now)))) (numbered l.first (all_holds l.live.table.now l.live.needs.cycles))))
