-- Sums over destinations and over pinned sets.
use Rattle.std.proofs.Common.{◌≡◌, ℕ, ◌+◌, ◌*◌, ◌&&◌, Bool, Option, Some, None, true, false, not, cond, List, [], ◌∷◌, length, refl, sym, ap, ◌∙◌, arith}
use Rattle.std.specs.Prelude.{is_some, ◌||◌}
use Rattle.std.specs.Option.{option_map_or}
use Rattle.std.specs.List.{sum_by}
use Rattle.std.proofs.lemmas.List.Sums.{sum_by-cons, length-filter}
use Rattle.cnf_core.specs.Counter.{at_most_size}
use Rattle.machine_table.specs.declared.tables.Table.{Table}
use Rattle.graph_meaning.specs.declared.graphs.LaunchGraph.{LaunchGraph}
use Rattle.schedule_meaning.specs.declared.schedules.Allocation.{Allocation}
use Rattle.schedule_meaning.specs.declared.schedules.To.{To}
use Rattle.cycle_encoding.specs.Counts.{one_if}
use Rattle.cycle_encoding.specs.CycleFormula.{Scope}
use Rattle.cycle_encoding.specs.Variables.{pinned_sets, overwriting_sets, is_overwriting}
use Rattle.cycle_encoding.specs.Counts.{row_destinations, row_is}
use Rattle.machine_table.specs.declared.tables.InstrKind.{InstrKind}
use Rattle.schedule_meaning.specs.Launches.{instr_at, is_load, is_store}
use Rattle.cycle_encoding.specs.Narrow.{accesses}
use Rattle.order_encoding.specs.PinFamilies.{has_own_input, unmet_sets}
use Rattle.order_encoding.specs.OrderCounts.{goes_count, late_count, over_load_count, overwrites_at, pins_size, row_uses}
use Rattle.order_encoding.specs.OrderSteps.{set_size}
use Rattle.cycle_encoding.proofs.Totals.{sum-const}
use Rattle.cycle_encoding.proofs.RowPlaces.{sum_kept}
use Rattle.cycle_encoding.proofs.DestinedTotals.{overwriting_pins}

-- the same for each destination of a row
pub sum_same : (g : LaunchGraph) (a : Allocation) (row c : ℕ) → sum_by (λ (to : To). c) (row_destinations g a row) ≡ length (row_destinations g a row) * c
sum_same g a row c = sum-const c (row_destinations g a row)

sum_three : (a b c : ℕ → ℕ) (xs : List ℕ) → sum_by (λ x. a x + b x + c x) xs ≡ sum_by a xs + sum_by b xs + sum_by c xs
sum_three a b c [] = refl
sum_three a b c (x ∷ xs) =
    let s = sum_by-cons (λ x. a x + b x + c x) x xs in
    let p = sum_by-cons a x xs in
    let q = sum_by-cons b x xs in
    let r = sum_by-cons c x xs in
    let t = sum_three a b c xs in
    omega arith

-- the clauses of pins, set by set
pub sizes_are : (g : LaunchGraph) (table : Table) (k : ℕ) (s : Scope) → sum_by (set_size g table k s) (pinned_sets g) + cond (is_some g.guard) (late_count g table k s) 0 + over_load_count g table k s ≡ pins_size g table k s
sizes_are g table k s =
    let goes = goes_count g table k s in
    let a : ℕ → ℕ = λ j. at_most_size 1 (goes j) in
    let b : ℕ → ℕ = λ j. one_if (is_overwriting g j) * (goes j + k) in
    let c : ℕ → ℕ = λ j. one_if (not (has_own_input g j)) in
    let all = sum_three a b c (pinned_sets g) in
    let over : sum_by b (pinned_sets g) ≡ sum_by (λ j. goes j + k) (overwriting_sets g) =
    sym (sum_kept (is_overwriting g) (λ j. goes j + k) (pinned_sets g)) ∙ ap (sum_by (λ j. goes j + k)) (overwriting_pins g) in
    let unmet : sum_by c (pinned_sets g) ≡ length (unmet_sets g) = sym (length-filter (λ j. not (has_own_input g j)) (pinned_sets g)) in
    omega arith

-- what overwrites by a load
pub load_overs : (g : LaunchGraph) (a : Allocation) (row : ℕ) → row_is g is_load row ≡ true → sum_by (λ to. one_if (overwrites_at g to)) (row_destinations g a row) ≡ sum_by (λ to. one_if (row_is g is_load row && overwrites_at g to)) (row_destinations g a row)
load_overs g a row e = ap (λ b. sum_by (λ to. one_if (b && overwrites_at g to)) (row_destinations g a row)) (sym e)

pub no_load_overs : (g : LaunchGraph) (a : Allocation) (row : ℕ) → row_is g is_load row ≡ false → 0 ≡ sum_by (λ to. one_if (row_is g is_load row && overwrites_at g to)) (row_destinations g a row)
no_load_overs g a row e =
    (let z : 0 ≡ length (row_destinations g a row) * 0 = omega arith in z) ∙ sym (sum-const 0 (row_destinations g a row))
    ∙ ap (λ b. sum_by (λ to. one_if (b && overwrites_at g to)) (row_destinations g a row)) (sym e)

-- the clauses which say what memory a launch uses
by_kind : (o : Option InstrKind) → option_map_or accesses o false ≡ (option_map_or is_load o false || option_map_or is_store o false)
by_kind (Some i) = refl
by_kind None = refl

pub uses_are : (g : LaunchGraph) (a : Allocation) (row n m : ℕ) (b d : Bool) → n ≡ sum_by (λ (to : To). one_if b) (row_destinations g a row) → b ≡ row_is g accesses row
    → m ≡ sum_by (λ (to : To). one_if d) (row_destinations g a row) → d ≡ row_is g is_store row
    → n + m * 2 ≡ sum_by (λ (to : To). row_uses g row) (row_destinations g a row)
uses_are g a row n m b d en eb em ed =
    let places = length (row_destinations g a row) in
    let n_is = en ∙ sum_same g a row (one_if b) ∙ ap (λ x. places * one_if x) (eb ∙ by_kind (instr_at g row)) in
    let m_is = em ∙ sum_same g a row (one_if d) ∙ ap (λ x. places * one_if x) ed in
    let one = one_if (row_is g is_load row || row_is g is_store row) in
    let two = one_if (row_is g is_store row) in
    let sum : (x y z : ℕ) → x * y + x * z * 2 ≡ x * (y + z * 2) = λ x y z. omega arith in
    ap (λ x. x + m * 2) n_is ∙ ap (λ x. places * one + x * 2) m_is ∙ sum places one two ∙ sym (sum_same g a row (row_uses g row))
