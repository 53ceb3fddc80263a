-- What the search for limits looks up. No public clause rests on this. Source: this project.
use Rattle.std.specs.Prelude.{ℕ, List, Option, filter, map}
use Rattle.machine_table.specs.declared.tables.Table.{Table}
use Rattle.graph_meaning.specs.declared.graphs.LaunchGraph.{LaunchGraph}
use Rattle.slot_capacity.specs.Limits.{belongs}
use Rattle.slot_capacity.specs.declared.spans.Span.{Span}
use Rattle.slot_capacity.specs.declared.deadlines.Deadline.{Deadline}
use Rattle.slot_capacity.specs.declared.limits.Limit.{Limit}

-- the due classes that belong to the group
abbrev pub members_of : LaunchGraph → Table → List (Option Span) → List Deadline → List ℕ → List Deadline
members_of g table spans xs group = filter (λ x. belongs g table spans group x.class) xs

-- the classes of which the limit speaks
abbrev pub classes_in : Limit → List ℕ
classes_in m = map (λ x. x.class) m.due
