-- Which due classes are too many for the slots in which they can be launched: at most as many can be launched from one
-- cycle to another as there are slots and cycles. Source: this project.
use Rattle.std.specs.Prelude.{ℕ, ◌+◌, ◌-◌, ◌*◌, ◌==◌, nat_le, nat_lt, Bool, List, [], ◌∷◌, ◌++◌, length, map, Option, if◌then◌else◌, filter, flat_map, fold, bytes_eq}
use Rattle.std.specs.Option.{option_map_or}
use Rattle.std.specs.List.{list_any, list_all, range_with_len}
use Rattle.machine_table.specs.declared.tables.Table.{Table}
use Rattle.graph_meaning.specs.declared.graphs.LaunchGraph.{LaunchGraph}
use Rattle.schedule_meaning.specs.declared.schedules.Allocation.{Allocation}
use Rattle.schedule_meaning.specs.declared.schedules.Allocation.TheVariants.{Block, Live}
use Rattle.schedule_meaning.specs.declared.schedules.Launch.{Launch}
use Rattle.cycle_encoding.specs.Counts.{row_use}
use Rattle.cycle_encoding.specs.CycleFormula.{Scope, allocation_in, listed_in}
use Rattle.cycle_encoding.specs.Shapes.{when}
use Rattle.cycle_encoding.specs.Variables.{slots_of}
use Rattle.slot_capacity.specs.Spans.{spans_of}
use Rattle.slot_capacity.specs.Makers.{has, makers_of}
use Rattle.slot_capacity.specs.Deadlines.{deadlines, greatest_of}
use Rattle.slot_capacity.specs.declared.spans.Span.{Span}
use Rattle.slot_capacity.specs.declared.deadlines.Deadline.{Deadline}
use Rattle.slot_capacity.specs.declared.limits.Limit.{Limit}
use Rattle.slot_capacity.specs.declared.limits.Capacity.{Capacity}

-- ---- groups of slots

abbrev pub with_group : List (List ℕ) → List ℕ → List (List ℕ)
with_group groups slots = if list_any (λ group. bytes_eq group slots) groups then groups else groups ++ slots ∷ []

-- the sets of slots that the table allows for instructions, each once, in the order of the instructions
abbrev pub groups_of : Table → List (List ℕ)
groups_of table = fold (λ groups u. with_group groups (slots_of table u)) [] table.uses

-- the slots that the table allows for a row
abbrev pub row_slots : LaunchGraph → Table → ℕ → List ℕ
row_slots g table row = option_map_or (slots_of table) (row_use g table row) []

-- whatever slot the table allows for the row is one of the group
abbrev pub row_belongs : LaunchGraph → Table → List ℕ → ℕ → Bool
row_belongs g table group row = list_all (has group) (row_slots g table row)

-- whichever row makes the class, its slot is one of the group
abbrev pub belongs : LaunchGraph → Table → List (Option Span) → List ℕ → ℕ → Bool
belongs g table spans group class = list_all (row_belongs g table group) (makers_of g spans class)

-- ---- limits

abbrev pub coming_by : ℕ → List Deadline → List Deadline
coming_by t xs = filter (λ x. nat_le x.first t) xs

abbrev pub from_cycle : ℕ → List Deadline → List Deadline
from_cycle e xs = filter (λ x. nat_le e x.first) xs

abbrev pub last_of : List Deadline → ℕ
last_of xs = greatest_of (map (λ x. x.last) xs)

-- of these classes, which come from cycle e on, those that can come by t, where they are more than there are slots of
-- the group from e to t
abbrev pub limit_at : List ℕ → List Deadline → ℕ → ℕ → List Limit
limit_at group later e t =
    when
    (nat_lt (length group * (t + 1 - e)) (length (coming_by t later)))
    (record { due = coming_by t later; cycle = t; most = length group * (t + 1 - e) } ∷ [])

-- for each t up to the last of their deadlines
abbrev pub later_limits : List ℕ → List Deadline → ℕ → List Limit
later_limits group later e = flat_map (limit_at group later e) (range_with_len e (last_of later + 1 - e))

-- the cycle is the first of some
abbrev pub is_first : List Deadline → ℕ → Bool
is_first xs e = list_any (λ x. x.first == e) xs

-- for each such e below k
abbrev pub member_limits : ℕ → List ℕ → List Deadline → List Limit
member_limits k group members =
    flat_map (λ e. later_limits group (from_cycle e members) e) (filter (is_first members) (range_with_len 0 k))

module _ (g : LaunchGraph) (table : Table) (k : ℕ) (spans : List (Option Span)) (xs : List Deadline) where
  -- of the due classes that belong to the group
  abbrev pub group_limits : List ℕ → List Limit
  group_limits group = member_limits k group (filter (λ x. belongs g table spans group x.class) xs)

  abbrev pub all_limits : List Limit
  all_limits = flat_map group_limits (groups_of table)

-- some limit speaks of the class
abbrev pub is_limited : List Limit → Deadline → Bool
is_limited limits x = list_any (λ m. list_any (λ y. y.class == x.class) m.due) limits

abbrev pub capacity_with : List Deadline → List Limit → Capacity
capacity_with xs limits = record { counted = filter (is_limited limits) xs; limits = limits }

abbrev pub capacity_by : LaunchGraph → Table → ℕ → List (Option Span) → Capacity
capacity_by g table k spans =
    capacity_with (deadlines g table k spans) (all_limits g table k spans (deadlines g table k spans))

-- what an encoding says of due classes, over the launches that have variables: by live ranges alone
abbrev pub capacity_of : LaunchGraph → Table → Allocation → ℕ → List Launch → Capacity
capacity_of g table Block k ls = record { counted = []; limits = [] }
capacity_of g table Live k ls = capacity_by g table k (spans_of g ls)

-- the same over what a scope gives variables
abbrev pub capacity_in : Scope → LaunchGraph → Table → ℕ → Capacity
capacity_in s g table k = capacity_of g table (allocation_in s) k (listed_in g table k s).launches
