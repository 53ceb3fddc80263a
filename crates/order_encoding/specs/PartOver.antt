-- What is said of a formula and its plan on the lists of the plan's encoding. Source: this project.
use Rattle.std.specs.Prelude.{ℕ, ◌≡◌}
use Rattle.cnf_core.specs.Formula.{Formula}
use Rattle.machine_table.specs.declared.tables.Table.{Table}
use Rattle.graph_meaning.specs.declared.graphs.LaunchGraph.{LaunchGraph}
use Rattle.cycle_encoding.specs.CycleFormula.{Listed, before_overwritten}
use Rattle.cycle_encoding.specs.Encodings.{OnLists}
use Rattle.cycle_encoding.specs.Faults.{EncodeFaultIs}
use Rattle.cycle_encoding.specs.Plans.{IsTooLarge, Plan}
use Rattle.cycle_encoding.specs.declared.plans.EncodeFault.{EncodeFault}

module _ (p : Plan) (g : LaunchGraph) (table : Table) where
  abbrev pub HasLaunches : Type 0
  HasLaunches = OnLists p.encoding g table p.cycles (λ l. p.launches ≡ l.launches)

  abbrev pub HasOverwritten : Type 0
  HasOverwritten = OnLists p.encoding g table p.cycles (λ l. p.overwritten ≡ before_overwritten l)

  -- the formula that a definition gives: it is that, or its size is the fault, or it isn't too large
  module _ (says : LaunchGraph → Table → ℕ → Listed → Formula) where
    abbrev pub IsBuilt : Formula → Type 0
    IsBuilt f = OnLists p.encoding g table p.cycles (λ l. f ≡ says g table p.cycles l)

    abbrev pub IsBuiltFault : EncodeFault → Type 0
    IsBuiltFault fault = OnLists p.encoding g table p.cycles (λ l. EncodeFaultIs (says g table p.cycles l) fault)

    abbrev pub IsInLimits : Type 0
    IsInLimits = OnLists p.encoding g table p.cycles (λ l. ¬ IsTooLarge (says g table p.cycles l))
