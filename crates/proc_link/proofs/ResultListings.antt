-- The listings of right results are listings of the blocks.
use Rattle.std.proofs.Common.{◌≡◌, ◌≢◌, ℕ, ◌≤◌, Bool, true, false, List, [], ◌∷◌, length, map, fold, refl, sym, ◌∙◌, subst, arith, Option, Some, None, replicate}
use Rattle.std.specs.Prelude.{nat_lt, if◌then◌else◌}
use Rattle.std.specs.FinMap.{empty, get-empty}
use Rattle.std.specs.Ordering.{nat_cmp}
use Rattle.std.specs.List.{AllZip}
use Rattle.std.proofs.lemmas.List.Elements.{All-nil, All-replicate}
use Rattle.std.proofs.lemmas.Option.{same_Some, none-some}
use Rattle.schedule_meaning.specs.Limits.{most_cycles, most_launches}
use Rattle.word_ops.specs.Words.{IsWord}
use Rattle.word_ops.specs.Worlds.{World, IsWorld}
use Rattle.denali_run.specs.MatchedGoals.{IsSettings}
use Rattle.denali_run.specs.Right.{AreRightResults, Right}
use Rattle.reports.specs.Statuses.{greater, status_code}
use Rattle.denali_run.specs.TextAnswers.{greatest_status, status_of}
use Rattle.denali_run.specs.declared.results.Answered.{Answered}
use Rattle.denali_run.specs.declared.results.Answered.TheVariants as answers
use Rattle.denali_run.specs.declared.results.Found.{Found}
use Rattle.denali_run.specs.declared.settings.Settings.{Settings}
use Rattle.reports.specs.declared.statuses.Status.{Status}
use Rattle.reports.specs.declared.statuses.Status.TheVariants as status
use Rattle.goal_meaning.specs.Holds.{HoldsOfAll, IsMet}
use Rattle.goal_meaning.specs.Views.{GoalTree}
use Rattle.graph_meaning.specs.WellFormed.{IsLaunchGraph}
use Rattle.graph_meaning.specs.declared.graphs.LaunchGraph.{LaunchGraph}
use Rattle.machine_table.specs.Tables.{IsTable}
use Rattle.machine_table.specs.declared.tables.Table.{Table}
use Rattle.proc_goal.specs.Goals.{goal_of_block, input_of_proc}
use Rattle.proc_goal.specs.Views.{BlockTree, ProcTree}
use Rattle.proc_goal.specs.WellFormed.{IsProc}
use Rattle.register_assign.specs.Assigned.{HaveWords, IsTheListing, MayRun}
use Rattle.register_assign.specs.declared.listings.Item.{Item}
use Rattle.register_assign.specs.declared.listings.Listing.{Listing}
use Rattle.register_assign.specs.declared.listings.Where.{Where}
use Rattle.schedule_meaning.specs.Fits.{Fits}
use Rattle.schedule_meaning.specs.declared.schedules.Allocation.{Allocation}
use Rattle.schedule_meaning.specs.declared.schedules.Launch.{Launch}
use Rattle.proc_link.specs.Follows.{AreListings, IsListingOfBlock}
use Rattle.proc_link.specs.ProcAnswers.{listings_of, with_listing}

-- what holds of each listing of a schedule that fits
abbrev pub OfEachListing : (List Item → Type 0) → Type 0
OfEachListing P =
    (g : LaunchGraph) (table : Table) (a : Allocation) (k : ℕ) (ls : List Launch) (items : List Item) (wheres : List Where)
    → IsLaunchGraph g → IsTable table → Fits g table a k ls → k ≤ most_cycles → IsTheListing g table a ls items wheres → P items

module _ (p : ProcTree) (is_proc : IsProc p) (s : Settings) (settings : IsSettings s) where
  abbrev IsRight : GoalTree → Answered → Type 0
  IsRight goal answered = Right (input_of_proc p) goal s answered

  module _ (words : OfEachListing HaveWords) (run : OfEachListing MayRun) (few : OfEachListing (λ (items : List Item). length items ≤ most_launches)) where
    one_listing : (b : BlockTree) (f : Found) → IsRight (goal_of_block p b) (answers.Scheduled f) → IsListingOfBlock p b f.listing
    one_listing b f h =
        let most = settings.cycles in
        let cycles = h.1 in
        let low : f.k ≤ most_cycles = omega (arith, most, cycles) in
        record {
          words = f.words;
          are_words = h.2.words;
          have_words = words f.matched.graph p.table s.allocation f.k f.schedule.launches f.listing.items f.listing.wheres h.0.graph is_proc.table h.2.fits low h.2.listing;
          may_run = run f.matched.graph p.table s.allocation f.k f.schedule.launches f.listing.items f.listing.wheres h.0.graph is_proc.table h.2.fits low h.2.listing;
          few = few f.matched.graph p.table s.allocation f.k f.schedule.launches f.listing.items f.listing.wheres h.0.graph is_proc.table h.2.fits low h.2.listing;
          computes = h.2.computes;
        }

    with_rest : (b : BlockTree) (bs : List BlockTree) (f : Found) (rs : List Answered) → IsRight (goal_of_block p b) (answers.Scheduled f)
        → ((ms : List Listing) → listings_of rs ≡ Some ms → AllZip (IsListingOfBlock p) bs ms) → (ls : List Listing) (o : Option (List Listing)) → listings_of rs ≡ o
        → with_listing (Some f.listing) o ≡ Some ls → AllZip (IsListingOfBlock p) (b ∷ bs) ls
    with_rest b bs f rs right rest ls None found same = absurd (none-some ls same)
    with_rest b bs f rs right rest ls (Some ms) found same =
        subst (AllZip (IsListingOfBlock p) (b ∷ bs)) (same_Some (f.listing ∷ ms) ls same) (one_listing b f right, rest ms found)

    each_listing : (bs : List BlockTree) (rs : List Answered) (ls : List Listing) → AllZip IsRight (map (goal_of_block p) bs) rs → listings_of rs ≡ Some ls
        → AllZip (IsListingOfBlock p) bs ls
    each_listing [] [] ls h e = subst (AllZip (IsListingOfBlock p) []) (same_Some [] ls e) tt
    each_listing [] (r ∷ rs) ls h e = absurd h
    each_listing (b ∷ bs) [] ls h e = absurd h
    each_listing (b ∷ bs) (answers.Scheduled f ∷ rs) ls h e = with_rest b bs f rs h.0 (λ ms. each_listing bs rs ms h.1) ls (listings_of rs) refl e
    each_listing (b ∷ bs) (answers.Nowhere m ∷ rs) ls h e = absurd (none-some ls e)
    each_listing (b ∷ bs) (answers.SpentConflicts t ∷ rs) ls h e = absurd (none-some ls e)
    each_listing (b ∷ bs) (answers.SpentSize l ∷ rs) ls h e = absurd (none-some ls e)
    each_listing (b ∷ bs) (answers.NoWorld class x y ∷ rs) ls h e = absurd (none-some ls e)

    pub are_listings : (results : List Answered) (ls : List Listing) → AreRightResults (input_of_proc p) s results → listings_of results ≡ Some ls → AreListings p ls
    are_listings results ls right e = each_listing p.blocks results ls right e

  -- ---- a proc's blocks have worlds

  abbrev a_world : World
  a_world = record { registers = replicate 32 0; memory_at_entry = empty; declared = λ name vs. 0 }

  is_world : IsWorld a_world
  is_world = record {
    registers = refl;
    each = All-replicate IsWord 32 0 (omega arith);
    zero_register = refl;
    memory_is = record { words = λ place v e. absurd (none-some v (sym (get-empty nat_cmp place) ∙ e)) };
    declared = λ name vs. omega arith;
  }

  has_world : (b : BlockTree) (r : Answered) → IsRight (goal_of_block p b) r → status_of r ≢ status.NoWorld
  has_world b (answers.Scheduled f) h e = cc
  has_world b (answers.Nowhere m) h e = cc
  has_world b (answers.SpentConflicts t) h e = cc
  has_world b (answers.SpentSize l) h e = cc
  has_world b (answers.NoWorld class x y) h e =
      h.0.nowhere a_world is_world (record { axioms = All-nil (HoldsOfAll [] a_world); assumes = All-nil (IsMet [] a_world) })

  kept_by : (b : Bool) (one other : Status) → one ≢ status.NoWorld → other ≢ status.NoWorld → (if b then other else one) ≢ status.NoWorld
  kept_by true one other h k = k
  kept_by false one other h k = h

  each_kept : (bs : List BlockTree) (rs : List Answered) (from : Status) → AllZip IsRight (map (goal_of_block p) bs) rs → from ≢ status.NoWorld
      → fold (λ s r. greater s (status_of r)) from rs ≢ status.NoWorld
  each_kept [] [] from h k = k
  each_kept [] (r ∷ rs) from h k = absurd h
  each_kept (b ∷ bs) [] from h k = absurd h
  each_kept (b ∷ bs) (r ∷ rs) from h k =
      each_kept bs rs (greater from (status_of r)) h.1
      (kept_by (nat_lt (status_code from) (status_code (status_of r))) from (status_of r) k (has_world b r h.0))

  pub ends_otherwise : (results : List Answered) → AreRightResults (input_of_proc p) s results → greatest_status results ≢ status.NoWorld
  ends_otherwise results right = each_kept p.blocks results status.Done right (λ e. cc)
