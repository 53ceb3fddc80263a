-- A schedule that fits in k cycles has at most eight launches a cycle.
use Rattle.std.proofs.Common.{◌≡◌, ◌≢◌, ℕ, zero, suc, ◌+◌, ◌*◌, ◌<◌, ◌≤◌, List, [], ◌∷◌, length, map, refl, sym, ◌∙◌, subst, arith, true, get_or, Option, Some, None}
use Rattle.std.specs.Prelude.{All, AllPairs, Contains, IsSomeAnd, unwrap_or, ◌==◌}
use Rattle.std.proofs.lemmas.Bool.Decides.{Decides-eqb}
use Rattle.std.proofs.lemmas.List.{length-map}
use Rattle.std.proofs.lemmas.Option.{slice_get-get_or}
use Rattle.std.proofs.lemmas.List.Elements.{All-contains}
use Rattle.std.proofs.lemmas.Map.Made.{IsDistinct-from_AllPairs}
use Rattle.std.proofs.lemmas.Map.Steps.{length-le_from_distinct_below}
use Rattle.std.proofs.lemmas.Map.Views.{Contains-from_any}
use Rattle.machine_table.specs.InstrOrder.{kind_number}
use Rattle.machine_table.specs.Tables.{MayUse, use_of, latency_of, IsTable, IsUse}
use Rattle.schedule_meaning.specs.Launches.{instr_at, ready_in}
use Rattle.schedule_meaning.specs.Fits.{CanLaunch, EndsBy, Fits}
use Rattle.graph_meaning.specs.declared.graphs.LaunchGraph.{LaunchGraph}
use Rattle.machine_table.specs.declared.tables.InstrKind.{InstrKind}
use Rattle.machine_table.specs.declared.tables.InstrKind.TheVariants.{Beq}
use Rattle.machine_table.specs.declared.tables.Use.{Use}
use Rattle.machine_table.specs.declared.tables.Table.{Table}
use Rattle.schedule_meaning.specs.declared.schedules.Allocation.{Allocation}
use Rattle.schedule_meaning.specs.declared.schedules.Launch.{Launch}
use Rattle.schedule_meaning.specs.declared.schedules.To.TheVariants.{Pool}
use Rattle.schedule_meaning.proofs.Ordered.{found_in, latency_positive, takes_time}

slot_step : (table : Table) (o : Option Use) (slot : ℕ) → ((u : Use) → o ≡ Some u → IsUse table u) → IsSomeAnd o (λ u. Contains u.slots slot) → slot < length table.slots
slot_step table None slot h a = absurd a
slot_step table (Some u) slot h a = All-contains (λ s. s < length table.slots) u.slots slot (h u refl).exist a

slot_exists : (table : Table) (i : InstrKind) (slot : ℕ) → IsTable table → MayUse table i slot → slot < length table.slots
slot_exists table i slot t may =
    slot_step table (use_of table i) slot (λ u e. found_in (λ u. kind_number u.instr == kind_number i) (IsUse table) table.uses u t.uses e) may

module _ (g : LaunchGraph) (table : Table) (k : ℕ) (t : IsTable table) where
  place_step : (o : Option InstrKind) (l : Launch) → IsSomeAnd o (λ i. MayUse table i l.slot) → l.cycle + unwrap_or (latency_of table (unwrap_or o Beq)) 0 ≤ k → (l.cycle < k) × (l.slot < 8)
  place_step None l h e = absurd h
  place_step (Some i) l h e =
      let p = latency_positive table i l.slot t h in
      let q = slot_exists table i l.slot t h in
      let r = t.slots.1 in
      (omega arith, omega arith)

  -- a launch that can be made has a cycle below k and a slot below 8
  pub place_of_launch : (l : Launch) → CanLaunch g table l → EndsBy g table k l → (l.cycle < k) × (l.slot < 8)
  place_of_launch l h e = place_step (instr_at g l.row) l h e

abbrev code : Launch → ℕ
code l = 8 * l.cycle + l.slot

codes_differ : (l m : Launch) → (l.slot < 8) → (m.slot < 8) → code l ≡ code m → (l.cycle ≡ m.cycle) × (l.slot ≡ m.slot)
codes_differ l m a b e = (omega arith, omega arith)

map_get : (f : Launch → ℕ) (xs : List Launch) (i d : ℕ) (x : Launch) → i < length xs → get_or (map f xs) i d ≡ f (get_or xs i x)
map_get f [] i d x h = absurd (omega arith)
map_get f (y ∷ xs) zero d x h = refl
map_get f (y ∷ xs) (suc i) d x h = map_get f xs i d x (omega arith)

eqb_same : (x y : ℕ) → (x == y) ≡ true → x ≡ y
eqb_same x y h = (Decides-eqb x y).0 h

pub few_launches : (g : LaunchGraph) (table : Table) (allocation : Allocation) (k : ℕ) (ls : List Launch)
    → IsTable table → Fits g table allocation k ls → length ls ≤ 8 * k
few_launches g table allocation k ls t fits =
    let places : (i : ℕ) (d : Launch) → i < length ls → ((get_or ls i d).cycle < k) × ((get_or ls i d).slot < 8) =
    λ i d lt. place_of_launch g table k t (get_or ls i d) (fits.rows i d lt) (fits.in_time i d lt) in
    let none : Launch = record { cycle = 0; slot = 0; row = 0; to = Pool } in
    let count : length (map code ls) ≡ length ls = length-map ls code in
    let apart : AllPairs (λ x y. x ≢ y) (map code ls) = λ i j d lt len e.
    (let li : i < length ls = omega arith in
    let lj : j < length ls = omega arith in
    fits.apart i j none lt lj (codes_differ (get_or ls i none) (get_or ls j none) (places i none li).1 (places j none lj).1
    (sym (map_get code ls i d none li) ∙ e ∙ map_get code ls j d none lj))) in
    let below : All (λ x. x < 8 * k) (map code ls) = λ i d lt.
    (let li : i < length ls = omega arith in
    let p = places i none li in
    subst (λ x. x < 8 * k) (sym (map_get code ls i d none li)) (small (get_or ls i none).cycle (get_or ls i none).slot k p.0 p.1)) in
    subst (λ n. n ≤ 8 * k) count
    (length-le_from_distinct_below (map code ls) (8 * k) (IsDistinct-from_AllPairs Decides-eqb (map code ls) apart)
    (λ q e. All-contains (λ x. x < 8 * k) (map code ls) q below (Contains-from_any eqb_same q (map code ls) e)))
  where
    small : (c s k : ℕ) → c < k → s < 8 → 8 * c + s < 8 * k
    small c s k h t = omega arith

pub places_of_launches : (g : LaunchGraph) (table : Table) (allocation : Allocation) (k : ℕ) (ls : List Launch)
    → IsTable table → Fits g table allocation k ls
    → All (λ l. (l.cycle < k) × (l.slot < 8)) ls
places_of_launches g table allocation k ls t fits i d lt =
    place_of_launch g table k t (get_or ls i d) (fits.rows i d lt) (fits.in_time i d lt)

pub later_of_launches : (g : LaunchGraph) (table : Table) (allocation : Allocation) (k cluster : ℕ) (ls : List Launch)
    → IsTable table
    → Fits g table allocation k ls → All (λ l. l.cycle < ready_in g table cluster l) ls
later_of_launches g table allocation k cluster ls t fits i d lt =
    takes_time g table ls t fits.rows i (get_or ls i d) cluster (slice_get-get_or ls i d lt)
