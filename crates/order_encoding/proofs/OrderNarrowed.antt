-- A schedule that fits does so without its launches that have no variables in the pinned encoding, where these are no
-- stores, no branch and go to the pool, and the others keep the rules of cycles, slots and values.
use Rattle.std.proofs.Common.{◌≡◌, ℕ, ◌<◌, ◌≤◌, Bool, true, false, List, get_or, refl, sym, ap, ◌∙◌, subst, arith, inl, inr, ◌⊎◌, Option, Some, None}
use Rattle.std.specs.Prelude.{Any, IsTrue, Contains, slice_get}
use Rattle.std.specs.Option.{option_map_or}
use Rattle.std.specs.List.{All, filter, list_any, count_by}
use Rattle.std.proofs.lemmas.Bool.{false≢true, cases_Bool, or_cases}
use Rattle.std.proofs.lemmas.List.Elements.{All-contains, All-filter, All-weaker, Contains-get_or}
use Rattle.graph_meaning.specs.Graphs.{is_memory_name}
use Rattle.machine_table.specs.declared.tables.InstrKind.{InstrKind}
use Rattle.schedule_meaning.specs.Launches.{instr_at, launches, is_load, is_store, is_branch, memory_class_at, overwrites, goes_to, takes_pool, HasInput}
use Rattle.schedule_meaning.specs.Fits.{CanGo, HasRoom, IsLeft, MayLoadOver, IsWhereWanted, IsReached, UsesMemory, Waits, Fits}
use Rattle.machine_table.specs.declared.tables.Table.{Table}
use Rattle.graph_meaning.specs.declared.graphs.LaunchGraph.{LaunchGraph}
use Rattle.graph_meaning.specs.declared.graphs.SetClass.{SetClass}
use Rattle.schedule_meaning.specs.declared.schedules.To.TheVariants.{Pool, Set}
use Rattle.schedule_meaning.specs.declared.schedules.Allocation.{Allocation}
use Rattle.schedule_meaning.specs.declared.schedules.Allocation.TheVariants.{Block, Live}
use Rattle.schedule_meaning.specs.declared.schedules.Launch.{Launch}
use Rattle.schedule_meaning.proofs.Rules.{all_at, at_each}
use Rattle.schedule_meaning.proofs.Pins.{goes_from, load_over}
use Rattle.cycle_encoding.specs.CycleRules.{FindsMemory, KeepsCycleRules, IsFreeReached, LeavesBelow, MayGo}
use Rattle.cycle_encoding.specs.Narrow.{accesses}
use Rattle.cycle_encoding.proofs.Tests.{one_at, some_of, some_in}
use Rattle.cycle_encoding.proofs.Counting.{count-none}
use Rattle.cycle_encoding.proofs.Members.{filter-in, filter-out}
use Rattle.cycle_encoding.proofs.MadeLists.{count_less}
use Rattle.order_encoding.proofs.Destinations.{may_go, can_go}
use Rattle.order_encoding.proofs.Complete.{KeepsOrder}
use Rattle.order_encoding.proofs.Narrowed.{order_kept}
use Rattle.order_encoding.proofs.LiveKept.{holds_less}
use Rattle.order_encoding.proofs.OrderComplete.{order_of}

-- a schedule that fits keeps the rules of cycles, slots and values
free_by : (g : LaunchGraph) (ls : List Launch) (j : ℕ) (s : SetClass) → IsReached g ls j s → IsFreeReached g ls s
free_by g ls j s (inl m) none = inl m
free_by g ls j s (inr h) none = inr (subst (IsWhereWanted g ls j s) none h)

pub pinned_rules_of : (g : LaunchGraph) (table : Table) (a : Allocation) (k : ℕ) (ls : List Launch) → Fits g table a k ls → KeepsCycleRules g table a k ls
pinned_rules_of g table a k ls fit = record {
  rows = fit.rows;
  destinations = All-weaker (CanGo g a ls) (MayGo g a) (λ l h. may_go g a ls l h) ls fit.destinations;
  apart = fit.apart;
  operands = fit.operands;
  in_time = fit.in_time;
  targets = all_at (IsFreeReached g ls) g.sets (λ j s lt e. free_by g ls j s (fit.targets j s e));
}

-- a schedule that fits finds the memory that it reads
module _ (g : LaunchGraph) (table : Table) (a : Allocation) (k : ℕ) (ls : List Launch) (fit : Fits g table a k ls) where
  uses_by : (l : Launch) → IsTrue (launches g accesses l) → UsesMemory g l
  uses_by l h = by (instr_at g l.row) h
    where
      by : (o : Option InstrKind) → option_map_or accesses o false ≡ true → IsTrue (option_map_or is_load o false) ⊎ IsTrue (option_map_or is_store o false)
      by None h = absurd (false≢true h)
      by (Some i) h = elim (or_cases (is_load i) (is_store i) h) [ inl a ↦ inl a | inr b ↦ inr b ]

  left_by : (l : Launch) → IsLeft g ls l.cycle (memory_class_at g l.row) → (memory_class_at g l.row ≡ g.entry) ⊎ Any (LeavesBelow g l.cycle (memory_class_at g l.row)) ls
  left_by l (inl h) = inl h.0
  left_by l (inr (j, m, lt, e, (latest, same))) = inr (j, m, lt, e, record { store = latest.store; early = latest.early; leaves = sym same })

  pub finds_memory : FindsMemory g ls
  finds_memory i d lt h = (let l = get_or ls i d in left_by l (fit.memory.each i d lt (uses_by l h)))

module _ (g : LaunchGraph) (table : Table) (a : Allocation) (k : ℕ) (ls : List Launch) (fit : Fits g table a k ls) (below : All (λ l. l.cycle < k) ls) (keep : Launch → Bool)
    (stay : (l : Launch) → Contains ls l → IsTrue (launches g is_store l) ⊎ IsTrue (launches g is_branch l) ⊎ ¬ (l.to ≡ Pool) → IsTrue (keep l))
    (rules : KeepsCycleRules g table a k (filter keep ls)) where
  abbrev kept : List Launch
  kept = filter keep ls

  away : (j : ℕ) (l : Launch) → goes_to j l ≡ true → ¬ (l.to ≡ Pool)
  away j l t e = different (sym (goes_from g j l t) ∙ e)
    where
      different : Set j ≡ Pool → ⊥
      different e = cc

  some_goes : (j : ℕ) → count_by (goes_to j) ls ≡ 1 → list_any (goes_to j) ls ≡ true
  some_goes j one =
      elim (cases_Bool (list_any (goes_to j) ls)) [
        | inl t ↦ t
        | inr f ↦ (let z = count-none (goes_to j) ls (λ i d lt t. false≢true (sym f ∙ some_in (goes_to j) ls (get_or ls i d) (Contains-get_or ls i d lt) t)) in absurd (omega arith))
      ]

  -- a pinned target keeps its launch
  pin_kept : (j : ℕ) (s : SetClass) (r : ℕ) → (count_by (goes_to j) ls ≡ 1) ⊎ ((count_by (goes_to j) ls ≡ 0) × HasInput g s.class (λ q. q ≡ r)) → (count_by (goes_to j) kept ≡ 1) ⊎ ((count_by (goes_to j) kept ≡ 0) × HasInput g s.class (λ q. q ≡ r))
  pin_kept j s r (inl one) =
      let less = count_less keep (goes_to j) ls in
      let m = some_of (goes_to j) ls (some_goes j one) in
      let k' = filter-in keep ls m.0 m.1 (stay m.0 m.1 (inr (inr (away j m.0 m.2)))) in
      let is : get_or kept k'.0 m.0 ≡ m.0 = k'.2 in
      let least = one_at (goes_to j) kept k'.0 m.0 k'.1 (ap (goes_to j) is ∙ m.2) in
      inl (omega arith)
  pin_kept j s r (inr h) =
      let less = count_less keep (goes_to j) ls in
      let z : count_by (goes_to j) ls ≡ 0 = h.0 in
      inr (omega arith, h.1)

  place_kept : (j : ℕ) (s : SetClass) → slice_get g.sets j ≡ Some s → is_memory_name s.name ≡ false → (o : Option ℕ) → s.pin ≡ o → IsWhereWanted g ls j s o → IsWhereWanted g kept j s o
  place_kept j s at nm (Some r) p h = pin_kept j s r h
  place_kept j s at nm None p h = elim (at_each (IsFreeReached g kept) g.sets rules.targets j s at p) [ inl m ↦ absurd (false≢true (sym nm ∙ m)) | inr q ↦ q ]

  reach_kept : (j : ℕ) (s : SetClass) → slice_get g.sets j ≡ Some s → IsReached g ls j s → IsReached g kept j s
  reach_kept j s at (inl m) = inl m
  reach_kept j s at (inr h) =
      elim (cases_Bool (is_memory_name s.name)) [
        | inl m ↦ inl m
        | inr nm ↦ inr (place_kept j s at nm s.pin refl h)
      ]

  -- what overwrote where no store was still does
  over_kept : (a : Allocation) (l : Launch) → MayLoadOver g a ls l → MayLoadOver g a kept l
  over_kept Block l h = h
  over_kept Live l h = All-filter keep (λ m. IsTrue (launches g is_store m) → ¬ (m.cycle ≡ l.cycle)) ls h

  loads_kept : (l : Launch) → Contains kept l → IsTrue (launches g is_load l) → IsTrue (overwrites g l) → a ≡ Live → MayLoadOver g a kept l
  loads_kept l h load over e = over_kept a l (load_over g a ls l (All-contains (CanGo g a ls) ls l fit.destinations (filter-out keep ls l h).0) load over)

  -- no register is held that wasn't
  room_kept : (a : Allocation) → HasRoom g a k ls → HasRoom g a k kept
  room_kept Block few = (let less = count_less keep (takes_pool g) ls in omega arith)
  room_kept Live few = λ t lt. (let less = holds_less g keep ls t in let most = few t lt in omega arith)

  pub pinned_fits_kept : Fits g table a k kept
  pinned_fits_kept =
      let after : KeepsOrder g kept = order_kept g table k ls (order_of g table a k ls fit) below keep (λ l h w. stay l h (elim w [ inl a ↦ inl a | inr b ↦ inr (inl b) ])) in
      record {
        rows = rules.rows;
        destinations = λ i d lt. can_go g a kept (get_or kept i d) (loads_kept (get_or kept i d) (Contains-get_or kept i d lt)) (rules.destinations i d lt);
        apart = rules.apart;
        operands = rules.operands;
        in_time = rules.in_time;
        targets = λ j s at. reach_kept j s at (fit.targets j s at);
        memory = after.memory;
        one_branch = after.one_branch;
        after_branch = All-filter keep (Waits g kept) ls (All-weaker (Waits g ls) (Waits g kept) (λ l h w. All-filter keep (λ b. IsTrue (launches g is_branch b) → b.cycle ≤ l.cycle) ls (h w)) ls fit.after_branch);
        pool = room_kept a fit.pool;
      }
