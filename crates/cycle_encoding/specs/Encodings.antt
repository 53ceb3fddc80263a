-- The lists of each encoding: which launches and classes have variables. Source: this project.
use Rattle.std.specs.Prelude.{◌≡◌, ◌≤◌, ℕ}
use Rattle.schedule_meaning.specs.Limits.{most_cycles}
use Rattle.machine_table.specs.declared.tables.Table.{Table}
use Rattle.graph_meaning.specs.declared.graphs.LaunchGraph.{LaunchGraph}
use Rattle.schedule_meaning.specs.declared.schedules.Allocation.TheVariants.{Block, Live}
use Rattle.cycle_encoding.specs.CycleFormula.{Listed, Scope}
use Rattle.cycle_encoding.specs.CycleFormula.{listed_in}
use Rattle.cycle_encoding.specs.CycleFormula.{wide}
use Rattle.cycle_encoding.specs.Narrow.{IsPinnedList}
use Rattle.cycle_encoding.specs.declared.encodings.Encoding.{Encoding}
use Rattle.cycle_encoding.specs.declared.encodings.Encoding.TheVariants as encodings
use Rattle.cycle_encoding.specs.declared.encodings.Encoding.TheVariants.{Wide, Narrow, Pinned}
pub use Rattle.cycle_encoding.specs.Allocations.{allocation_of}

-- these have variables in the encoding: the narrow one is the pinned one, and speaks of graphs where no set has a pin
abbrev pub AreListed : Encoding → LaunchGraph → Table → ℕ → Listed → Type 0
AreListed Wide g table k e = e ≡ wide g table k
AreListed Narrow g table k e = IsPinnedList g table Block k e
AreListed Pinned g table k e = IsPinnedList g table Block k e
AreListed encodings.Live g table k e = IsPinnedList g table Live k e

-- it holds of the lists of the encoding
abbrev pub OnLists : Encoding → LaunchGraph → Table → ℕ → (Listed → Type 0) → Type 0
OnLists e g table k P = (l : Listed) → AreListed e g table k l → P l

-- the scope gives the lists of the encoding, for as many cycles as may be asked for
pub record IsScope (e : Encoding) (g : LaunchGraph) (table : Table) (s : Scope) : Type 0 where
  pub encoding : s.encoding ≡ e
  pub lists : (k : ℕ) → k ≤ most_cycles → AreListed e g table k (listed_in g table k s)
