-- Which launches a reader may take a word from, and what it needs of its operands.
-- Source: this project.
use Rattle.std.specs.Prelude.{ℕ, nat_le, nat_lt, ◌==◌, ◌&&◌, if◌then◌else◌, Bool, true, not, Option, Some, None, option_map, find, List, ◌⊎◌}
use Rattle.std.specs.List.{list_any}
use Rattle.machine_table.specs.Tables.{cluster_of}
use Rattle.schedule_meaning.specs.Launches.{ready_in, IsFree, IsReadable, IsUnspoilt, IsUnwritten, launches, is_store, spoils, writes_pin}
use Rattle.machine_table.specs.declared.tables.Table.{Table}
use Rattle.graph_meaning.specs.declared.graphs.LaunchGraph.{LaunchGraph}
use Rattle.schedule_meaning.specs.declared.schedules.Launch.{Launch}
use Rattle.schedule_meaning.specs.declared.schedules.Operand.{Operand}

-- those that are ready for it; without a reader all
abbrev pub passes : LaunchGraph → Table → Option Launch → Launch → Bool
passes g table None m = true
passes g table (Some l) m = nat_le (ready_in g table (cluster_of table l.slot) m) l.cycle

abbrev pub operand_of : ℕ → Bool → Operand
operand_of class second = record { class = class; second = second }

-- the launch writes the register before the reader has read it; without a reader, at any time
abbrev pub touches : LaunchGraph → Option Launch → ℕ → Launch → Bool
touches g None r m = writes_pin g r m
touches g (Some l) r m = spoils g l r m

-- the reader finds in the register what it had at entry; without a reader, that is there at the end
abbrev pub IsIntact : LaunchGraph → List Launch → Option Launch → ℕ → Type 0
IsIntact g ls None r = IsUnwritten g ls r
IsIntact g ls (Some l) r = IsUnspoilt g ls l r

-- the same, as a test
abbrev pub is_intact : LaunchGraph → List Launch → Option Launch → ℕ → Bool
is_intact g ls reader r = not (list_any (touches g reader r) ls)

-- the register of the first input of the class whose register passes
abbrev pub input_where : LaunchGraph → (ℕ → Bool) → ℕ → Option ℕ
input_where g holds class = option_map (λ i. i.reg) (find (λ i. (i.class == class) && holds i.reg) g.inputs)

-- the launch has what it needs of one operand
abbrev pub CanUse : LaunchGraph → Table → List Launch → Launch → Operand → Type 0
CanUse g table ls l o = IsFree g o ⊎ IsReadable g table ls l o.class

-- the stores of cycles below t, or all stores
abbrev pub is_store_below : LaunchGraph → Option ℕ → Launch → Bool
is_store_below g None l = launches g is_store l
is_store_below g (Some t) l = launches g is_store l && nat_lt l.cycle t

-- the later of two launches, of which the second stands later in the list
abbrev pub later_of : Option Launch → Launch → Option Launch
later_of None l = Some l
later_of (Some m) l = if nat_lt m.cycle l.cycle then Some l else Some m
