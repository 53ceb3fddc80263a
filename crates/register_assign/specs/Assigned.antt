-- What the listing of a schedule that fits is, and what its words do.
-- Source: this project.
use Rattle.std.specs.Prelude.{◌≡◌, ℕ, List, All}
use Rattle.alpha_encode.specs.Formats.{IsWellFormed}
use Rattle.alpha_machine.specs.Runs.{AllMayStand}
use Rattle.graph_meaning.specs.Graphs.{IsProper}
use Rattle.register_assign.specs.Listings.{IsListing}
use Rattle.register_assign.specs.Obeys.{Obeys}
use Rattle.register_assign.specs.Outcomes.{AreWordsOf, DoesAsGraphSays}
use Rattle.graph_meaning.specs.declared.graphs.LaunchGraph.{LaunchGraph}
use Rattle.register_assign.specs.declared.listings.Item.{Item}
use Rattle.register_assign.specs.declared.listings.Where.{Where}
use Rattle.machine_table.specs.declared.tables.Table.{Table}
use Rattle.schedule_meaning.specs.declared.schedules.Allocation.{Allocation}
use Rattle.schedule_meaning.specs.declared.schedules.Launch.{Launch}

-- these are the items and places of the schedule, and no others are
pub record IsTheListing (g : LaunchGraph) (table : Table) (a : Allocation) (ls : List Launch) (items : List Item)
    (wheres : List Where) : Type 0 where
  pub is : IsListing g table a ls items wheres
  pub only : (others : List Item) (places : List Where) → IsListing g table a ls others places
      → (others ≡ items) × (places ≡ wheres)

-- each instruction has a word
abbrev pub HaveWords : List Item → Type 0
HaveWords items = All (λ a. IsWellFormed a.instr) items

-- words of these items may be run: a branch among them leads to one word behind the last
abbrev pub MayRun : List Item → Type 0
MayRun items = (words : List ℕ) → AreWordsOf items words → AllMayStand words

-- on a proper graph the items keep to the table, and their words do what the graph says
pub record KeepsWord (g : LaunchGraph) (table : Table) (k : ℕ) (items : List Item)
    (wheres : List Where) : Type 0 where
  pub obeys : IsProper g → Obeys table k items
  pub right : IsProper g → (words : List ℕ) → AreWordsOf items words → DoesAsGraphSays g items words wheres
