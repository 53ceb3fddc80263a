use Rattle.std.proofs.Common.{◌≡◌, take}
use Rattle.cycle_encoding.specs.Shapes.{numbered}
use Rattle.cycle_encoding.specs.Steps.{of_thing, with_clauses}
use Rattle.schedule_meaning.specs.Launches.{operands_at}
use Rattle.order_encoding.specs.LiveVariables.{all_needs, pooled_classes}
use Rattle.order_encoding.specs.LiveFamilies.{operands_needed}
use Rattle.order_encoding.proofs.needs.add_launch_needs.Given as goal

abbrev pub invariant-loop-at : goal.invariant-loop-at
invariant-loop-at l = l.cnf ≡ with_clauses l.initial.cnf (of_thing l.made.var (operands_needed l.live.facts.now (numbered 0 l.live.launches.now) (numbered l.live.needs.first (all_needs l.live.needs.cycles (pooled_classes l.live.facts.now (numbered 0 l.live.launches.now)))) l.made.launch.cycle (take l.at (operands_at l.live.facts.now l.made.launch.row))))
