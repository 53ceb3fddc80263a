-- What the clauses of a listing come from.
use Rattle.std.proofs.Common.{◌≡◌, ℕ, ◌^◌, ◌<◌, ◌≤◌, List, length, sym, subst, arith}
use Rattle.schedule_meaning.specs.Limits.{most_cycles, most_launches}
use Rattle.alpha_encode.specs.Formats.{IsWellFormed}
use Rattle.word_ops.specs.Worlds.{World, Value}
use Rattle.machine_table.specs.Tables.{IsTable}
use Rattle.graph_meaning.specs.Graphs.{IsTrueUnder}
use Rattle.graph_meaning.specs.WellFormed.{IsLaunchGraph}
use Rattle.schedule_meaning.specs.Launches.{IsInWordOrder}
use Rattle.schedule_meaning.specs.Fits.{Fits, CanLaunch}
use Rattle.register_assign.specs.Listings.{IsListing, items_of, wheres_of}
use Rattle.register_assign.specs.Obeys.{Obeys}
use Rattle.register_assign.specs.Outcomes.{AreWordsOf, DoesAsGraphSays}
use Rattle.register_assign.specs.Assigned.{IsTheListing, HaveWords, MayRun, KeepsWord}
use Rattle.graph_meaning.specs.declared.graphs.LaunchGraph.{LaunchGraph}
use Rattle.register_assign.specs.declared.listings.Item.{Item}
use Rattle.register_assign.specs.declared.listings.Where.{Where}
use Rattle.machine_table.specs.declared.tables.Table.{Table}
use Rattle.schedule_meaning.specs.declared.schedules.Allocation.{Allocation}
use Rattle.schedule_meaning.specs.declared.schedules.Launch.{Launch}
use Rattle.schedule_meaning.proofs.Rules.{at_each}
use Rattle.schedule_meaning.proofs.Ordered.{fits_permuted}
use Rattle.schedule_meaning.proofs.Counted.{few_launches}
use Rattle.register_assign.proofs.Once.{one_listing}
use Rattle.register_assign.proofs.Encodable.{encodable}
use Rattle.register_assign.proofs.Obeyed.{all_items, obeys_where_fits}
use Rattle.register_assign.proofs.Scene.{AreTrueMultiples}
use Rattle.register_assign.proofs.Right.{right_where_fits}
use Rattle.register_assign.proofs.Standing.{words_stand}

module _ (g : LaunchGraph) (table : Table) (allocation : Allocation) (k : ℕ) (ls ordered : List Launch)
    (graph : IsLaunchGraph g) (is_table : IsTable table)
    (fits : Fits g table allocation k ls) (low : k ≤ most_cycles) (order : IsInWordOrder g ls ordered) where
  fits_ordered : Fits g table allocation k ordered
  fits_ordered = fits_permuted g table allocation k ls ordered order.same fits

  pub few : length ordered ≤ most_launches
  few = let n = few_launches g table allocation k ordered is_table fits_ordered in omega arith

  pub few_items : length ordered < 2 ^ 29
  few_items = let n = few in omega arith

  module _ (items : List Item) (wheres : List Where) (items_are : items ≡ items_of g table allocation ordered) (wheres_are : wheres ≡ wheres_of g table allocation ordered) where
    is_listing : IsListing g table allocation ls items wheres
    is_listing = record { ordered = ordered; order = order; items_are = items_are; wheres_are = wheres_are }

    pub the_listing : IsTheListing g table allocation ls items wheres
    the_listing = record { is = is_listing; only = λ others places h. one_listing g table allocation k ls fits others items places wheres h is_listing }

    pub have_words : HaveWords items
    have_words =
        subst HaveWords (sym items_are)
        (all_items g table allocation ordered (λ a. IsWellFormed a.instr) (λ n l e. encodable g graph table allocation ordered n l (let m = few in omega arith) (at_each (CanLaunch g table) ordered fits_ordered.rows n l e)))

    pub may_run : MayRun items
    may_run words are = words_stand g table allocation ordered words (subst (λ (xs : List Item). AreWordsOf xs words) items_are are)

    pub keeps_word : ((w : World) (value : ℕ → Value) → IsTrueUnder g w value → AreTrueMultiples g value)
        → KeepsWord g table k items wheres
    keeps_word multiples = record {
      obeys = λ proper. subst (λ (xs : List Item). Obeys table k xs) (sym items_are) (obeys_where_fits g table allocation k ls ordered is_table graph proper fits order);
      right = λ proper words are.
          subst (λ (ps : List Where). DoesAsGraphSays g items words ps) (sym wheres_are)
          (subst (λ (xs : List Item). DoesAsGraphSays g xs words (wheres_of g table allocation ordered)) (sym items_are)
          (right_where_fits g table allocation k ls ordered is_table graph proper fits order (let m = few in omega arith) multiples words (subst (λ (xs : List Item). AreWordsOf xs words) items_are are)));
    }
