-- What the words of a fitting schedule do, and that they keep to the table.
use Rattle.std.proofs.Common.{ℕ, ◌^◌, ◌<◌, List, length}
use Rattle.word_ops.specs.Worlds.{World, IsWorld, Value}
use Rattle.machine_table.specs.Tables.{IsTable}
use Rattle.graph_meaning.specs.Graphs.{IsProper, IsTrueUnder}
use Rattle.graph_meaning.specs.WellFormed.{IsLaunchGraph}
use Rattle.schedule_meaning.specs.Launches.{IsInWordOrder}
use Rattle.schedule_meaning.specs.Fits.{Fits}
use Rattle.register_assign.specs.Listings.{items_of, wheres_of}
use Rattle.register_assign.specs.Outcomes.{AreWordsOf, DoesAsGraphSays}
use Rattle.graph_meaning.specs.declared.graphs.LaunchGraph.{LaunchGraph}
use Rattle.machine_table.specs.declared.tables.Table.{Table}
use Rattle.schedule_meaning.specs.declared.schedules.Allocation.{Allocation}
use Rattle.schedule_meaning.specs.declared.schedules.Launch.{Launch}
use Rattle.schedule_meaning.proofs.Ordered.{fits_permuted}
use Rattle.register_assign.proofs.Scene.{IsScene, AreTrueMultiples}
use Rattle.register_assign.proofs.Falling.{falls}
use Rattle.register_assign.proofs.Exiting.{exits}

module _ (g : LaunchGraph) (table : Table) (allocation : Allocation) (k : ℕ) (ls ordered : List Launch)
    (is_table : IsTable table) (graph : IsLaunchGraph g) (proper : IsProper g)
    (fits : Fits g table allocation k ls) (order : IsInWordOrder g ls ordered) (few : length ordered < 2 ^ 32)
    (multiples : (w : World) (value : ℕ → Value) → IsTrueUnder g w value → AreTrueMultiples g value) where
  scene : (w : World) (value : ℕ → Value) → IsWorld w → IsTrueUnder g w value → IsScene g table allocation k ordered w value
  scene w value world true_in = record {
    is_table = is_table;
    graph = graph;
    proper = proper;
    fits = fits_permuted g table allocation k ls ordered order.same fits;
    order = order.order;
    few = few;
    world = world;
    true_in = true_in;
    multiples = multiples w value true_in;
  }

  pub right_where_fits : (words : List ℕ) → AreWordsOf (items_of g table allocation ordered) words → DoesAsGraphSays g (items_of g table allocation ordered) words (wheres_of g table allocation ordered)
  right_where_fits words are = record {
    falls = λ w value world true_in no_exit. falls g table allocation k ordered w value (scene w value world true_in) no_exit words are;
    exits = λ w value world true_in exit. exits g table allocation k ordered w value (scene w value world true_in) exit words are;
  }
