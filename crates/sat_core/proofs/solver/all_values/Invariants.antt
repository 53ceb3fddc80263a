use Rattle.std.proofs.Common.{◌≡◌, take, map, false}
use Rattle.std.specs.Prelude.{unwrap_or}
use Rattle.sat_core.specs.Steps.{truth_value}
use Rattle.sat_core.proofs.solver.all_values.Given as goal

abbrev pub invariant-loop-value : goal.invariant-loop-value
invariant-loop-value l = l.all ≡ map (λ v. unwrap_or (truth_value v) false) (take l.value-index l.values)
