-- The place in the pool of each launch that takes a register: there is one, and no other launch has it while it is
-- held.
use Rattle.std.proofs.Common.{◌≡◌, ◌≢◌, ℕ, zero, suc, ◌+◌, ◌<◌, ◌≤◌, List, [], ◌∷◌, ◌++◌, length, map, take, get_or, refl, sym, ◌∙◌, ap, subst, inl, inr, ◌⊎◌, arith, Bool, true, false, cond, ◌&&◌, Some}
use Rattle.std.specs.Prelude.{slice_get, slice_index, count_by, filter, ◌==◌, ◌||◌}
use Rattle.std.specs.List.{fold, list_any, range_with_len, zip}
use Rattle.std.proofs.lemmas.Bool.{false≢true}
use Rattle.std.proofs.lemmas.List.{get_or-take, get_or-append-add, length_push, length-map, take-append-le, take_all}
use Rattle.std.proofs.lemmas.List.Folds.{list_any_at}
use Rattle.std.proofs.lemmas.List.FromFn.{get_or-range_with_len, length-range_with_len}
use Rattle.std.proofs.lemmas.List.Sums.{fold_more, length-filter, prefix_len_passes, prefix_len_stops, sum_by-cons}
use Rattle.std.proofs.lemmas.Map.Steps.{le-length_from_below}
use Rattle.std.proofs.lemmas.Option.{get_or_from_slice_get}
use Rattle.std.proofs.lemmas.Slice.Zip.{get_or-zip, length-zip}
use Rattle.graph_meaning.specs.declared.graphs.LaunchGraph.{LaunchGraph}
use Rattle.schedule_meaning.specs.Launches.{takes_pool, IsInWordOrder}
use Rattle.schedule_meaning.specs.Lifetimes.{holds}
use Rattle.machine_table.specs.Tables.{IsTable}
use Rattle.machine_table.specs.declared.tables.Table.{Table}
use Rattle.schedule_meaning.specs.Fits.{Fits, HasRoom}
use Rattle.schedule_meaning.specs.declared.schedules.Allocation.{Allocation}
use Rattle.schedule_meaning.specs.declared.schedules.Allocation.TheVariants.{Block, Live}
use Rattle.schedule_meaning.specs.declared.schedules.Launch.{Launch}
use Rattle.schedule_meaning.proofs.Comparisons.{and_both}
use Rattle.schedule_meaning.proofs.LiveRanges.{holds_own, holds_takes}
use Rattle.schedule_meaning.proofs.Pins.{number_same, same_number}
use Rattle.schedule_meaning.proofs.Counted.{places_of_launches}
use Rattle.schedule_meaning.proofs.Ordered.{fits_permuted}
use Rattle.schedule_meaning.proofs.Rules.{at_each, in_list}
use Rattle.register_assign.specs.PoolPlaces.{first_free, is_taken, live_places, pool_place}
use Rattle.register_assign.proofs.Counts.{count_below, count_rises}

-- ---- places and holders

module _ (passes : Launch → Bool) where
  abbrev held : Launch × ℕ → Bool
  held h = passes h.0

  abbrev has : ℕ → Launch × ℕ → Bool
  has place h = (h.1 == place) && held h

  abbrev places_of : List (Launch × ℕ) → List ℕ
  places_of hs = map (λ (h : Launch × ℕ). h.1) (filter held hs)

  kept_step : (place : ℕ) (h : Launch × ℕ) (hs : List (Launch × ℕ)) (b c : Bool) → (h.1 == place) ≡ c
      → (list_any (has place) hs ≡ true → list_any (λ q. place == q) (places_of hs) ≡ true)
      → ((c && b) || list_any (has place) hs) ≡ true
      → list_any (λ q. place == q) (map (λ (h : Launch × ℕ). h.1) (cond b (h ∷ filter held hs) (filter held hs))) ≡ true
  kept_step place h hs true true same rest any =
      ap (λ b. b || list_any (λ q. place == q) (places_of hs))
      (number_same place h.1 (sym (same_number h.1 place same)))
  kept_step place h hs true false same rest any =
      or_last (place == h.1) (list_any (λ q. place == q) (places_of hs)) (rest any)
    where
      or_last : (a b : Bool) → b ≡ true → (a || b) ≡ true
      or_last true b e = refl
      or_last false b e = e
  kept_step place h hs false true same rest any = rest any
  kept_step place h hs false false same rest any = rest any

  -- a place that some of the launches have who pass is among the places of those who pass
  place_kept : (place : ℕ) (hs : List (Launch × ℕ)) → list_any (has place) hs ≡ true
      → list_any (λ q. place == q) (places_of hs) ≡ true
  place_kept place [] any = absurd (false≢true any)
  place_kept place (h ∷ hs) any = kept_step place h hs (passes h.0) (h.1 == place) refl (place_kept place hs) any

  count_zipped : (ls : List Launch) (places : List ℕ)
      → count_by held (zip ls places) ≤ count_by passes (take (length places) ls)
  count_zipped [] places = omega arith
  count_zipped (l ∷ ls) [] = omega arith
  count_zipped (l ∷ ls) (p ∷ places) =
      let rest = count_zipped ls places in
      let left = sum_by-cons (λ (h : Launch × ℕ). cond {A = ℕ} (held h) 1 0) (l, p) (zip ls places) in
      let right = sum_by-cons (λ l. cond {A = ℕ} (passes l) 1 0) l (take (length places) ls) in
      omega (arith, rest, left, right)

  -- where so many places are all had by launches that pass, at least so many pass
  pub all_had : (n : ℕ) (ls : List Launch) (places : List ℕ)
      → ((q : ℕ) → q < n → list_any (has q) (zip ls places) ≡ true) → n ≤ count_by passes (take (length places) ls)
  all_had n ls places each =
      let some = le-length_from_below (places_of (zip ls places)) n
      (λ q lt. place_kept q (zip ls places) (each q lt)) in
      let mapped = length-map (filter held (zip ls places)) (λ (h : Launch × ℕ). h.1) in
      let passed = length-filter held (zip ls places) in
      let zipped = count_zipped ls places in
      omega (arith, some, mapped, passed, zipped)

-- ---- by live ranges

module _ (g : LaunchGraph) (ordered : List Launch) (d : Launch) where
  abbrev more : List ℕ → Launch → List ℕ
  more places l = places ++ first_free g ordered places l.cycle ∷ []

  -- the places of the first n launches
  abbrev first_places : ℕ → List ℕ
  first_places n = fold more [] (take n ordered)

  next : (n : ℕ) → n < length ordered → first_places (suc n) ≡ more (first_places n) (get_or ordered n d)
  next n lt =
      ap (λ k. fold more [] (take k ordered)) (let one : suc n ≡ n + 1 = omega arith in one)
      ∙ fold_more more [] ordered n d lt

  count_places : (n : ℕ) → n ≤ length ordered → length (first_places n) ≡ n
  count_places zero le = refl
  count_places (suc n) le =
      let rest = count_places n (omega arith) in
      let pushed = length_push (first_places n) (first_free g ordered (first_places n) (get_or ordered n d).cycle) in
      let same = ap length (next n (omega arith)) in
      omega (arith, rest, pushed, same)

  below_or_last : (n m : ℕ) → n ≤ suc m → (n ≤ m) ⊎ (n ≡ suc m)
  below_or_last n m h = grind arith

  -- later launches leave them as they are
  front : (n m : ℕ) → n ≤ m → m ≤ length ordered → take n (first_places m) ≡ first_places n
  front n zero le inside =
      let none : n ≡ 0 = omega arith in ap (λ k. take k (first_places 0)) none ∙ ap first_places (sym none)
  front n (suc m) le inside =
      elim (below_or_last n m le) [
        | inl less ↦ (
            let count = count_places m (omega arith) in
            ap (take n) (next m (omega arith))
            ∙ take-append-le n (first_places m) (first_free g ordered (first_places m) (get_or ordered m d).cycle ∷ [])
            (omega (arith, count, less))
            ∙ front n m less (omega arith))
        | inr same ↦ (
            let count = count_places (suc m) inside in
            take_all n (first_places (suc m)) (omega (arith, count, same)) ∙ ap first_places (sym same))
      ]

  all_places : live_places g ordered ≡ first_places (length ordered)
  all_places = ap (fold more []) (sym (take_all (length ordered) ordered (omega arith)))

  place_in : (n m : ℕ) → n < m → m ≤ length ordered
      → slice_index (first_places m) n ≡ first_free g ordered (first_places n) (get_or ordered n d).cycle
  place_in n m lt inside =
      let count = count_places n (omega arith) in
      sym (get_or-take (suc n) (first_places m) n 0 (omega arith))
      ∙ ap (λ places. slice_index places n) (front (suc n) m (omega arith) inside ∙ next n (omega arith))
      ∙ ap (slice_index (more (first_places n) (get_or ordered n d)))
      (let e : n ≡ length (first_places n) + 0 = omega (arith, count) in e)
      ∙ get_or-append-add (first_places n) (first_free g ordered (first_places n) (get_or ordered n d).cycle ∷ []) 0 0

  place_is : (n : ℕ) → n < length ordered
      → pool_place g Live ordered n ≡ first_free g ordered (first_places n) (get_or ordered n d).cycle
  place_is n lt = ap (λ places. slice_index places n) all_places ∙ place_in n (length ordered) lt (omega arith)

  -- those before have the places that they have at the end
  place_before : (j n : ℕ) → j < n → n ≤ length ordered → slice_index (first_places n) j ≡ pool_place g Live ordered j
  place_before j n lt inside = place_in j n lt inside ∙ sym (place_is j (omega arith))

  module _ (i : ℕ) (inside : i < length ordered) where
    abbrev cycle : ℕ
    cycle = (get_or ordered i d).cycle

    taken_before : (j : ℕ) → j < i → holds g Live ordered cycle (get_or ordered j d) ≡ true
        → is_taken g ordered (first_places i) cycle (pool_place g Live ordered j) ≡ true
    taken_before j lt held =
        let count = count_places i (omega arith) in
        let pair = get_or-zip ordered (first_places i) j (d, 0) (omega arith) (omega (arith, count)) in
        list_any_at (λ (h : Launch × ℕ). (h.1 == pool_place g Live ordered j) && holds g Live ordered cycle h.0)
        (zip ordered (first_places i)) j (d, 0)
        (let zipped = length-zip ordered (first_places i) in omega (arith, zipped, count))
        (ap (λ (h : Launch × ℕ). (h.1 == pool_place g Live ordered j) && holds g Live ordered cycle h.0) pair
        ∙ and_both (slice_index (first_places i) j == pool_place g Live ordered j)
        (holds g Live ordered cycle (get_or ordered j d))
        (number_same (slice_index (first_places i) j) (pool_place g Live ordered j) (place_before j i lt (omega arith)))
        held)

    abbrev range : List ℕ
    range = range_with_len 0 (length g.pool)

    range_at : (q : ℕ) → q < length g.pool → get_or range q 0 ≡ q
    range_at q lt = get_or-range_with_len 0 (length g.pool) q 0 lt ∙ (let e : 0 + q ≡ q = omega arith in e)

    free_or_full : (n : ℕ) → (n < length g.pool) ⊎ (length g.pool ≤ n)
    free_or_full n = grind arith

    -- a place that is given is not taken
    not_taken : first_free g ordered (first_places i) cycle < length g.pool
        → is_taken g ordered (first_places i) cycle (first_free g ordered (first_places i) cycle) ≡ false
    not_taken lt =
        let count = length-range_with_len 0 (length g.pool) in
        ap (is_taken g ordered (first_places i) cycle) (sym (range_at (first_free g ordered (first_places i) cycle) lt))
        ∙ prefix_len_stops (is_taken g ordered (first_places i) cycle) range 0 (omega (arith, count))

    -- there is one where at the cycle fewer launches before hold one than there are
    is_free : count_by (holds g Live ordered cycle) (take i ordered) < length g.pool
        → first_free g ordered (first_places i) cycle < length g.pool
    is_free few =
        elim (free_or_full (first_free g ordered (first_places i) cycle)) [
          | inl lt ↦ lt
          | inr full ↦ (
              let count = count_places i (omega arith) in
              let many = all_had (holds g Live ordered cycle) (length g.pool) ordered (first_places i)
              (λ q lt. ap (is_taken g ordered (first_places i) cycle) (sym (range_at q lt))
              ∙ prefix_len_passes (is_taken g ordered (first_places i) cycle) range q 0 (omega arith)) in
              let same = ap (λ n. count_by (holds g Live ordered cycle) (take n ordered)) count in
              absurd (omega (arith, few, many, same)))
        ]

-- ---- both ways

module _ (g : LaunchGraph) (ordered : List Launch) where
  held_with : (i : ℕ) (l : Launch) → slice_get ordered i ≡ Some l → takes_pool g l ≡ true
      → count_by (holds g Live ordered l.cycle) (take i ordered) < count_by (holds g Live ordered l.cycle) ordered
  held_with i l e takes =
      count_below (holds g Live ordered l.cycle) ordered i l e (holds_own g ordered l l.cycle takes refl)

  -- a launch that takes a register has a place in the pool
  pub place_inside : (allocation : Allocation) (k i : ℕ) (l : Launch) → HasRoom g allocation k ordered
      → slice_get ordered i ≡ Some l → takes_pool g l ≡ true → l.cycle < k
      → pool_place g allocation ordered i < length g.pool
  place_inside Block k i l room e takes early =
      let below = count_below (takes_pool g) ordered i l e takes in
      let fits : count_by (takes_pool g) ordered ≤ length g.pool = room in
      omega (arith, below, fits)
  place_inside Live k i l room e takes early =
      let inside = in_list ordered i l e in
      let same : get_or ordered i l ≡ l = get_or_from_slice_get ordered i l l e in
      let fits : count_by (holds g Live ordered l.cycle) ordered ≤ length g.pool = room l.cycle early in
      let below = held_with i l e takes in
      subst (λ n. n < length g.pool) (sym (place_is g ordered l i inside))
      (is_free g ordered l i inside
      (subst (λ (m : Launch). count_by (holds g Live ordered m.cycle) (take i ordered) < length g.pool) (sym same)
      (omega (arith, below, fits))))

  -- no launch gets the place that another before it has and holds in its cycle
  pub places_differ : (allocation : Allocation) (j i : ℕ) (m l : Launch) → j < i → slice_get ordered j ≡ Some m
      → slice_get ordered i ≡ Some l → takes_pool g m ≡ true → holds g allocation ordered l.cycle m ≡ true
      → pool_place g allocation ordered i < length g.pool
      → pool_place g allocation ordered j ≢ pool_place g allocation ordered i
  places_differ Block j i m l lt em el takes held_there low same =
      let less = count_rises (takes_pool g) ordered j i m lt em takes in
      absurd (omega (arith, less, same))
  places_differ Live j i m l lt em el takes held_there low same =
      let inside = in_list ordered i l el in
      let here : get_or ordered i l ≡ l = get_or_from_slice_get ordered i l l el in
      let there : get_or ordered j l ≡ m = get_or_from_slice_get ordered j m l em in
      let is = place_is g ordered l i inside in
      let taken = taken_before g ordered l i inside j lt (ap
      (λ (q : Launch). holds g Live ordered q.cycle (get_or ordered j l)) here ∙ ap (holds g Live ordered l.cycle) there
      ∙ held_there) in
      false≢true (sym (not_taken g ordered l i inside (subst (λ n. n < length g.pool) is low))
      ∙ ap (is_taken g ordered (first_places g ordered l i) (cycle g ordered l i inside)) (sym (same ∙ is)) ∙ taken)

-- the same of a schedule that fits, in word order
module _ (g : LaunchGraph) (table : Table) (allocation : Allocation) (k : ℕ) (ls ordered : List Launch)
    (is_table : IsTable table) (fits : Fits g table allocation k ls) (order : IsInWordOrder g ls ordered) where
  ordered_fits : Fits g table allocation k ordered
  ordered_fits = fits_permuted g table allocation k ls ordered order.same fits

  pub place_of_fitting : (i : ℕ) (l : Launch) → slice_get ordered i ≡ Some l → takes_pool g l ≡ true
      → pool_place g allocation ordered i < length g.pool
  place_of_fitting i l e takes =
      place_inside g ordered allocation k i l ordered_fits.pool e takes
      (at_each (λ l. (l.cycle < k) × (l.slot < 8)) ordered
      (places_of_launches g table allocation k ordered is_table ordered_fits) i l e).0

  pub fitting_differ : (j i : ℕ) (m l : Launch) → j < i → slice_get ordered j ≡ Some m → slice_get ordered i ≡ Some l
      → takes_pool g l ≡ true → holds g allocation ordered l.cycle m ≡ true
      → pool_place g allocation ordered j ≢ pool_place g allocation ordered i
  fitting_differ j i m l lt em el takes held_there =
      places_differ g ordered allocation j i m l lt em el (holds_takes g ordered allocation l.cycle m held_there)
      held_there (place_of_fitting i l el takes)
