-- How wanted classes are found: each is marked once, and listed in the order in which it was.
-- Source: this project.
use Rattle.std.specs.Prelude.{◌≡◌, ℕ, ◌<◌, ◌&&◌, ◌||◌, ◌==◌, not, Bool, false, List, ◌++◌, length, Contains}
use Rattle.std.specs.Prelude.{IsTrue, is_some, slice_get, slice_index_or}
use Rattle.std.specs.Option.{option_map_or}
use Rattle.std.specs.List.{count_by, filter}
use Rattle.graph_meaning.specs.Graphs.{is_memory_name}
use Rattle.schedule_meaning.specs.Launches.{gives_word, is_branch, is_store, class_at}
use Rattle.graph_meaning.specs.declared.graphs.LaunchGraph.{LaunchGraph}
use Rattle.graph_meaning.specs.declared.graphs.SetClass.{SetClass}
use Rattle.cycle_encoding.specs.Counts.{row_is}
use Rattle.cycle_encoding.specs.Variables.{is_safe, row_numbers}
use Rattle.cycle_encoding.specs.Narrow.{Wanted, is_quad_store}
use Rattle.cycle_encoding.specs.Lacking.{needs_of}
use Rattle.cycle_encoding.specs.declared.operands.There.TheVariants.{Always}

-- the classes that are wanted where launches of the row are
abbrev pub wanted_needs : LaunchGraph → ℕ → List ℕ
wanted_needs = needs_of Always

abbrev pub is_marked_class : List Bool → ℕ → Bool
is_marked_class marks class = slice_index_or marks class false

-- a target whose class is wanted for itself: a word that isn't safe, or one with a pin
abbrev pub is_wanted_target : LaunchGraph → SetClass → Bool
is_wanted_target g s = (not (is_memory_name s.name) && not (is_safe g s.class)) || is_some s.pin

abbrev pub is_quad_row : LaunchGraph → ℕ → Bool
is_quad_row g row = option_map_or (λ r. is_quad_store r.op) (slice_get g.rows row) false

-- a row whose operands are wanted whatever its class is: the branch, or a store that can be launched or that is one of
-- a 64-bit word
abbrev pub is_root : LaunchGraph → ℕ → Bool
is_root g row = row_is g is_branch row || (row_is g is_store row || is_quad_row g row)

-- the rows and copies that give the class's word
abbrev pub giving_rows : LaunchGraph → ℕ → List ℕ
giving_rows g class = filter (λ row. row_is g gives_word row && (class_at g row == class)) (row_numbers g)

-- only wanted classes are listed, each once, and those are the marked ones
pub record AreWantedMarks (g : LaunchGraph) (marks : List Bool) (order : List ℕ) : Type 0 where
  pub wanted : (class : ℕ) → Contains order class → Wanted g class
  pub listed : (class : ℕ) → IsTrue (is_marked_class marks class) → Contains order class
  pub within : (class : ℕ) → Contains order class → class < length marks
  pub count : count_by (λ b. b) marks ≡ length order

-- nothing is taken off the list
abbrev pub IsLonger : List ℕ → List ℕ → Type 0
IsLonger old new = (rest : List ℕ) × (new ≡ old ++ rest)

-- marked classes stay so
abbrev pub StillMarked : List Bool → List Bool → Type 0
StillMarked old new = (class : ℕ) → IsTrue (is_marked_class old class) → IsTrue (is_marked_class new class)

-- each of the classes is marked, where the table has it
abbrev pub AreAllMarked : List Bool → List ℕ → Type 0
AreAllMarked marks classes =
    (class : ℕ) → Contains classes class → class < length marks → IsTrue (is_marked_class marks class)

-- what each row or copy that gives the class's word needs is marked
abbrev pub IsFollowed : LaunchGraph → List Bool → ℕ → Type 0
IsFollowed g marks class = (row : ℕ) → Contains (giving_rows g class) row → AreAllMarked marks (wanted_needs g row)
