use Rattle.std.proofs.Common.{◌≡◌, ◌+◌, length}
use Rattle.std.specs.List.{filter, flat_map, range_with_len}
use Rattle.cycle_encoding.specs.Shapes.{numbered}
use Rattle.cycle_encoding.specs.Steps.{with_clauses}
use Rattle.cycle_encoding.specs.Variables.{is_overwriting, all_overwritten}
use Rattle.order_encoding.specs.PinFamilies.{set_clauses}
use Rattle.cycle_encoding.specs.Steps.{set_overwritten}
use Rattle.order_encoding.proofs.pins.add_overwritten.Given as goal

abbrev pub invariant-loop-set : goal.invariant-loop-set
invariant-loop-set l = record {
  before : l.before ≡ l.plan.over.now.first + length (flat_map (set_overwritten l.plan.frame.k) (filter (is_overwriting l.plan.frame.facts.now) (range_with_len 0 l.set)));
  cnf : l.cnf ≡ with_clauses l.initial.cnf (flat_map (set_clauses l.plan.frame.k (numbered 0 l.plan.launches.now) (numbered l.plan.over.now.first (all_overwritten l.plan.frame.facts.now l.plan.frame.k))) (filter (is_overwriting l.plan.frame.facts.now) (range_with_len 0 l.set)));
}
