-- From which cycle a due class can be launched, and by which it has to be. Source: this project.
use Rattle.std.specs.Prelude.{ℕ, zero, suc, ◌-◌, ◌==◌, min, max, Bool, false, List, [], ◌∷◌, map, Option, None, unwrap_or, if◌then◌else◌, slice_index_or, filter, fold}
use Rattle.std.specs.Option.{option_map_or}
use Rattle.machine_table.specs.Tables.{latency_of}
use Rattle.machine_table.specs.declared.tables.InstrKind.TheVariants.{Beq}
use Rattle.machine_table.specs.declared.tables.Table.{Table}
use Rattle.graph_meaning.specs.declared.graphs.LaunchGraph.{LaunchGraph}
use Rattle.cycle_encoding.specs.Coming.{delay_at}
use Rattle.slot_capacity.specs.Makers.{always_reads, is_made, makers_of}
use Rattle.slot_capacity.specs.Due.{due_classes}
use Rattle.slot_capacity.specs.declared.spans.Span.{Span}
use Rattle.slot_capacity.specs.declared.deadlines.Deadline.{Deadline}

-- the least and the greatest of these numbers, 0 where there are none
abbrev pub least_of : List ℕ → ℕ
least_of [] = 0
least_of (x ∷ xs) = fold min x xs

abbrev pub greatest_of : List ℕ → ℕ
greatest_of xs = fold max 0 xs

abbrev pub first_of_row : List (Option Span) → ℕ → ℕ
first_of_row spans row = option_map_or (λ s. s.first) (slice_index_or spans row None) 0

abbrev pub last_of_row : List (Option Span) → ℕ → ℕ
last_of_row spans row = option_map_or (λ s. s.last) (slice_index_or spans row None) 0

-- the fewest cycles after which the class of one of these rows has come
abbrev pub delay_of_rows : LaunchGraph → Table → List ℕ → ℕ
delay_of_rows g table rows = least_of (map (λ row. unwrap_or (delay_at g table row) 0) rows)

-- the first and the last cycle in which one of these rows can be launched
abbrev pub first_of_rows : List (Option Span) → List ℕ → ℕ
first_of_rows spans rows = least_of (map (first_of_row spans) rows)

abbrev pub last_of_rows : List (Option Span) → List ℕ → ℕ
last_of_rows spans rows = greatest_of (map (last_of_row spans) rows)

abbrev pub is_guard : LaunchGraph → ℕ → Bool
is_guard g class = option_map_or (λ guard. guard.class == class) g.guard false

module _ (g : LaunchGraph) (table : Table) (k : ℕ) (spans : List (Option Span)) where
  -- of the rows that make a class
  abbrev pub least_delay : ℕ → ℕ
  least_delay class = delay_of_rows g table (makers_of g spans class)

  abbrev pub first_made : ℕ → ℕ
  first_made class = first_of_rows spans (makers_of g spans class)

  abbrev pub last_made : ℕ → ℕ
  last_made class = last_of_rows spans (makers_of g spans class)

  -- the last cycle in which the guard's class can be launched, for the branch to end by k
  abbrev pub before_branch : ℕ → ℕ
  before_branch class = k - unwrap_or (latency_of table Beq) 0 - least_delay class

  -- by which cycle it has to be launched, but for its readers; never one before the first
  abbrev pub own_last : ℕ → ℕ
  own_last class =
      if is_guard g class then max (first_made class) (min (last_made class) (before_branch class))
      else last_made class

  abbrev pub own_deadline : ℕ → Deadline
  own_deadline class = record { class = class; first = first_made class; last = own_last class }

  -- a reader that is always launched behind it makes the deadline sooner
  abbrev pub sooner : Deadline → ℕ → Deadline → ℕ
  sooner x last reader =
      if always_reads g spans reader.class x.class
      then max x.first (min last (reader.last - least_delay x.class))
      else last

  abbrev pub lowered : List Deadline → Deadline → Deadline
  lowered readers x = record x { last = fold (sooner x) x.last readers }

  abbrev pub all_lowered : List Deadline → List Deadline
  all_lowered xs = map (lowered xs) xs

  -- the deadlines of the due classes that some row makes, as chains of at most so many readers say
  abbrev pub deadlines_within : ℕ → List Deadline
  deadlines_within zero = map own_deadline (filter (is_made g spans) (due_classes g spans))
  deadlines_within (suc n) = all_lowered (deadlines_within n)

  -- as all readers say: each one more is a cycle sooner at least, so that no chain of more than k readers says anything
  abbrev pub deadlines : List Deadline
  deadlines = deadlines_within k
