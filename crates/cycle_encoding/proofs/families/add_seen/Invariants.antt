use Rattle.std.proofs.Common.{◌≡◌, ◌∷◌, [], take}
use Rattle.cycle_encoding.specs.Shapes.{numbered, implied, vars_of}
use Rattle.cycle_encoding.specs.Families.{makes}
use Rattle.cycle_encoding.specs.Steps.{with_clauses}
use Rattle.cycle_encoding.proofs.families.add_seen.Given as goal

abbrev pub invariant-loop-index : goal.invariant-loop-index
invariant-loop-index l = l.cnf ≡ with_clauses l.initial.cnf (implied (numbered l.vars.seen.first (take l.index l.vars.seen.seen.items)) (λ d. vars_of (makes l.vars.frame.facts.now l.vars.frame.table.now d) (numbered 0 l.vars.launches.now) ∷ []))
