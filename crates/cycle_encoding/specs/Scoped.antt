-- The scope of the encodings that leave launches out, by tables of what has come and what is wanted. No public clause
-- rests on this. Source: this project.
use Rattle.std.specs.Prelude.{ℕ, ◌||◌, Bool, List, Option, None, if◌then◌else◌}
use Rattle.schedule_meaning.specs.Launches.{is_store, is_branch, class_at}
use Rattle.graph_meaning.specs.declared.graphs.LaunchGraph.{LaunchGraph}
use Rattle.schedule_meaning.specs.declared.schedules.Allocation.{Allocation}
use Rattle.cycle_encoding.specs.Counts.{row_is}
use Rattle.cycle_encoding.specs.Coming.{last_come, start_needs}
use Rattle.cycle_encoding.specs.Wanting.{is_marked_class}

-- the row is a store, the branch, or of a wanted class
abbrev pub is_spoken_of : LaunchGraph → List Bool → ℕ → Bool
is_spoken_of g marks row =
    row_is g is_store row || (row_is g is_branch row || is_marked_class marks (class_at g row))

-- the cycle from which launches of the row have variables, if any have
abbrev pub first_cycle : LaunchGraph → Allocation → List (Option ℕ) → List Bool → ℕ → Option ℕ
first_cycle g a come marks row = if is_spoken_of g marks row then last_come come (start_needs g a row) else None
