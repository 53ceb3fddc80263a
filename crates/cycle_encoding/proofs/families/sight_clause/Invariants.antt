use Rattle.std.proofs.Common.{◌≡◌, ◌∷◌, take, map}
use Rattle.std.specs.List.{filter}
use Rattle.cycle_encoding.specs.Shapes.{negative, positive}
use Rattle.cycle_encoding.specs.Steps.{is_ready}
use Rattle.cycle_encoding.proofs.families.sight_clause.Given as goal

abbrev pub invariant-loop-maker : goal.invariant-loop-maker
invariant-loop-maker l = l.clause.items ≡ negative l.sight.var ∷ map (λ p. positive p.0) (filter (λ p. is_ready l.frame.facts.now l.frame.table.now l.sight.thing p.1) (take l.maker-index l.given))
