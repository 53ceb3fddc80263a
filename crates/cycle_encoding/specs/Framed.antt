-- What is known before any clause, as definitions take it. Source: this project.
use Rattle.std.specs.Prelude.{ℕ, ◌≤◌}
use Rattle.schedule_meaning.specs.Limits.{most_cycles}
use Rattle.machine_table.specs.Tables.{IsTable}
use Rattle.machine_table.specs.declared.tables.Table.{Table}
use Rattle.graph_meaning.specs.WellFormed.{IsLaunchGraph}
use Rattle.graph_meaning.specs.declared.graphs.LaunchGraph.{LaunchGraph}
use Rattle.cycle_encoding.specs.CycleFormula.{Scope}
use Rattle.cycle_encoding.specs.declared.frames.Frame.{Frame}

-- what a definition says of the graph, the table, the cycles and the scope
abbrev pub over : {X : Type 0} → Frame → (LaunchGraph → Table → ℕ → Scope → X) → X
over f says = says f.facts.now f.table.now f.k f.scope.now

pub record IsFrame (f : Frame) : Type 0 where
  pub graph : IsLaunchGraph f.facts.now
  pub table : IsTable f.table.now
  pub cycles : f.k ≤ most_cycles
