-- Which rows make the classes of a frame's graph, by the tables that are looked up. Source: this project.
use Rattle.std.specs.Prelude.{ℕ, List, Option, map, ◌≡◌}
use Rattle.machine_table.specs.declared.tables.Table.{Table}
use Rattle.graph_meaning.specs.declared.graphs.LaunchGraph.{LaunchGraph}
use Rattle.cycle_encoding.specs.Variables.{row_numbers}
use Rattle.slot_capacity.specs.declared.makers.Makers.{Makers}
use Rattle.slot_capacity.specs.declared.makers.Reads.{Reads}
use Rattle.slot_capacity.specs.declared.spans.Span.{Span}
use Rattle.slot_capacity.specs.Makers.{reads_of}
use Rattle.slot_capacity.specs.MakersSteps.{AreMakers}

abbrev pub AreMakersOf : Makers → Type 0
AreMakersOf m = AreMakers m.frame.facts.now m.spans.items m.rows.items m.always.items

-- what a definition says of the graph, the table, the cycles and the spans
abbrev pub by_makers : {X : Type 0} → Makers → (LaunchGraph → Table → ℕ → List (Option Span) → X) → X
by_makers m says = says m.frame.facts.now m.frame.table.now m.frame.k m.spans.items

abbrev pub AreReads : Reads → Type 0
AreReads r = r.of_rows.items ≡ map (reads_of r.facts.now) (row_numbers r.facts.now)
