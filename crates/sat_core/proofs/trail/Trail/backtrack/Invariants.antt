use Rattle.std.proofs.Common.{◌≡◌, List, take, length}
use Rattle.std.specs.List.{All}
use Rattle.cnf_core.specs.declared.literal.Lit.{Lit}
use Rattle.cnf_core.specs.Formula.{IsLitOf}
use Rattle.sat_core.specs.Steps.{IsTrailState, var_count}
use Rattle.sat_core.proofs.trail.Trail.backtrack.Given as goal

-- the steps so far are a front that has all the steps that stay
abbrev pub invariant-loop-self : goal.invariant-loop-self
invariant-loop-self l = record {
  state : (clauses : List (List Lit)) → IsTrailState clauses (var_count l.initial.self) l.initial.self → IsTrailState clauses (var_count l.initial.self) l.self;
  size : var_count l.self ≡ var_count l.initial.self;
  exist : All (λ s. IsLitOf (var_count l.initial.self) s.lit) l.self.steps.items;
  front : take l.count l.self.steps.items ≡ take l.count l.initial.self.steps.items;
}

abbrev pub decreases-loop-self : goal.decreases-loop-self
decreases-loop-self l = length l.self.steps.items
