use Rattle.std.proofs.Common.{◌≡◌, take}
use Rattle.cycle_encoding.specs.Variables.{all_overwritten}
use Rattle.cycle_encoding.specs.Shapes.{numbered}
use Rattle.cycle_encoding.specs.Steps.{with_clauses}
use Rattle.order_encoding.specs.LiveVariables.{all_needs, pooled_classes}
use Rattle.order_encoding.specs.LiveFamilies.{target_groups}
use Rattle.order_encoding.proofs.needs.add_last_needs.Given as goal

abbrev pub invariant-loop-set : goal.invariant-loop-set
invariant-loop-set l = l.cnf ≡ with_clauses l.initial.cnf (target_groups l.live.facts.now l.live.needs.cycles (numbered 0 l.live.launches.now) (numbered l.live.needs.first (all_needs l.live.needs.cycles (pooled_classes l.live.facts.now (numbered 0 l.live.launches.now)))) (numbered l.live.over.now.first (all_overwritten l.live.facts.now l.live.over.now.cycles)) (take l.set-index l.live.facts.now.sets))
