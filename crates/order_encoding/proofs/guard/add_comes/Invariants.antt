use Rattle.std.proofs.Common.{◌≡◌, [], ◌∷◌}
use Rattle.std.specs.List.{range_with_len}
use Rattle.cycle_encoding.specs.Shapes.{numbered, implied, vars_of}
use Rattle.cycle_encoding.specs.Steps.{with_clauses}
use Rattle.order_encoding.specs.OrderFamilies.{branches_by}
use Rattle.order_encoding.proofs.guard.add_comes.Given as goal

abbrev pub invariant-loop-cycle : goal.invariant-loop-cycle
invariant-loop-cycle l = l.cnf ≡ with_clauses l.initial.cnf (implied (numbered l.first (range_with_len 0 l.cycle)) (λ t. vars_of (branches_by l.plan.frame.facts.now t) (numbered 0 l.plan.launches.now) ∷ []))
