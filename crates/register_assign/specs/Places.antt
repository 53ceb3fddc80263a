-- The places of some of the targets.
-- Source: this project.
use Rattle.std.specs.Prelude.{List, map, filter, not}
use Rattle.graph_meaning.specs.Graphs.{is_memory_name}
use Rattle.graph_meaning.specs.declared.graphs.SetClass.{SetClass}
use Rattle.graph_meaning.specs.declared.graphs.LaunchGraph.{LaunchGraph}
use Rattle.machine_table.specs.declared.tables.Table.{Table}
use Rattle.schedule_meaning.specs.declared.schedules.Allocation.{Allocation}
use Rattle.schedule_meaning.specs.declared.schedules.Launch.{Launch}
use Rattle.register_assign.specs.Listings.{target_place}
use Rattle.register_assign.specs.declared.listings.Where.{Where}

abbrev pub places : LaunchGraph → Table → Allocation → List Launch → List SetClass → List Where
places g table a ordered sets =
    map (λ s. record { name = s.name; reg = target_place g table a ordered s })
    (filter (λ s. not (is_memory_name s.name)) sets)
