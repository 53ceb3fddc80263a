use Rattle.std.proofs.Common.{◌≡◌, ◌++◌, take}
use Rattle.std.specs.List.{flat_map}
use Rattle.cycle_encoding.specs.Families.{is_lost}
use Rattle.cycle_encoding.specs.Shapes.{numbered, negated}
use Rattle.cycle_encoding.specs.Steps.{set_overwritten}
use Rattle.cycle_encoding.proofs.overwriting.push_lost.Given as goal

abbrev pub invariant-loop-place : goal.invariant-loop-place
invariant-loop-place l = l.clause.items ≡ l.initial.clause.items ++ negated (is_lost l.facts l.class l.cycle) (numbered l.vars.first (flat_map (set_overwritten l.vars.cycles) (take l.place l.vars.sets.items)))
