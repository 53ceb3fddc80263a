-- How many things stand before others, one cluster or class at a time.
use Rattle.std.proofs.Common.{◌≡◌, ℕ, ◌+◌, ◌<◌, ◌≤◌, Bool, true, false, cond, List, ◌∷◌, [], length, get_or, refl, sym, ap, ◌∙◌, arith, length-append}
use Rattle.std.specs.List.{filter, flat_map, range_with_len}
use Rattle.std.proofs.lemmas.List.FromFn.{length-map-range_with_len, get_or-map-range_with_len}
use Rattle.machine_table.specs.declared.tables.Table.{Table}
use Rattle.graph_meaning.specs.WellFormed.{next_class}
use Rattle.graph_meaning.specs.declared.graphs.LaunchGraph.{LaunchGraph}
use Rattle.cnf_core.specs.declared.literal.Lit.{Lit}
use Rattle.cycle_encoding.specs.Shapes.{numbered, positive, vars_of}
use Rattle.cycle_encoding.specs.Variables.{Seen, all_seen}
use Rattle.cycle_encoding.specs.Variables.{shown_classes}
use Rattle.cycle_encoding.specs.Families.{is_seen}
use Rattle.cycle_encoding.specs.Facts.{is_unsafe_shown}
use Rattle.cycle_encoding.specs.Steps.{has_cluster, seen_at, cluster_seen, clusters_before, seen_before, AreSeenVars}
use Rattle.cycle_encoding.proofs.Listed.{kept_more}
use Rattle.cycle_encoding.proofs.Places.{seen-is, seen-within, unseen-class, unseen-late-class, unseen-cluster, unseen-late-cluster, unseen-cycle}

pub cluster_size : (table : Table) (k class cluster : ℕ) → has_cluster table cluster ≡ true → k ≡ length (cond (has_cluster table cluster) (cluster_seen k class cluster) [])
cluster_size table k class cluster e = sym (ap (λ b. length (cond b (cluster_seen k class cluster) [])) e ∙ length-map-range_with_len (seen_at class cluster) 0 k)

pub no_cluster_size : (table : Table) (k class cluster : ℕ) → has_cluster table cluster ≡ false → 0 ≡ length (cond (has_cluster table cluster) (cluster_seen k class cluster) [])
no_cluster_size table k class cluster e = sym (ap (λ b. length (cond b (cluster_seen k class cluster) [])) e)

pub clusters_more : (table : Table) (k class n : ℕ) → clusters_before table k class (n + 1) ≡ clusters_before table k class n + length (cond (has_cluster table n) (cluster_seen k class n) [])
clusters_more table k class n =
    ap (λ (xs : List Seen). length xs) (kept_more (cluster_seen k class) (has_cluster table) n (has_cluster table n) refl)
    ∙ length-append (flat_map (cluster_seen k class) (filter (has_cluster table) (range_with_len 0 n))) (cond (has_cluster table n) (cluster_seen k class n) [])

-- the variable of what is seen, by its place
module _ (g : LaunchGraph) (wants : ℕ → Bool) (table : Table) (k first : ℕ) (seen : List Seen) (starts : List ℕ) (is : AreSeenVars g wants table k first seen starts) (class cluster cycle : ℕ) where
  abbrev vars : List Lit
  vars = vars_of (is_seen class cluster cycle) (numbered first seen)

  by : (cs : List Lit) → vars_of (is_seen class cluster cycle) (numbered first (all_seen table k (shown_classes g wants))) ≡ cs → cs ≡ vars
  by cs h = sym (ap (λ (xs : List Seen). vars_of (is_seen class cluster cycle) (numbered first xs)) is.seen_are ∙ h)

  starts_size : length starts ≡ next_class g.rows
  starts_size = ap (λ (xs : List ℕ). length xs) is.starts_are ∙ length-map-range_with_len (seen_before g wants table k) 0 (next_class g.rows)

  pub none-class : is_unsafe_shown g wants class ≡ false → [] ≡ vars
  none-class e = by [] (unseen-class g wants table k first class cluster cycle e)

  pub none-late-class : length starts ≤ class → [] ≡ vars
  none-late-class le = (let size = starts_size in by [] (unseen-late-class g wants table k first class cluster cycle (omega arith)))

  pub none-late-cluster : 4 ≤ cluster → [] ≡ vars
  none-late-cluster le = by [] (unseen-late-cluster g wants table k first class cluster cycle le)

  pub none-cluster : has_cluster table cluster ≡ false → [] ≡ vars
  none-cluster e = by [] (unseen-cluster g wants table k first class cluster cycle e)

  pub none-cycle : k ≤ cycle → [] ≡ vars
  none-cycle le = by [] (unseen-cycle g wants table k first class cluster cycle le)

  module _ (lc : class < length starts) (mc : is_unsafe_shown g wants class ≡ true) (ln : cluster < 4) (mn : has_cluster table cluster ≡ true) (lt : cycle < k) (start offset : ℕ) (d : ℕ) (es : start ≡ get_or starts class d) (eo : offset ≡ clusters_before table k class cluster) where
    start_is : start ≡ seen_before g wants table k class
    start_is = es ∙ ap (λ xs. get_or xs class d) is.starts_are ∙ (let size = starts_size in get_or-map-range_with_len (seen_before g wants table k) 0 (next_class g.rows) class class d (omega arith) (omega arith))

    low : class < next_class g.rows
    low = (let size = starts_size in omega arith)

    pub var-within : first + start + offset + cycle + 1 ≤ first + length seen
    var-within =
        let a = seen-within g wants table k first class cluster cycle low mc ln mn lt in
        let b = start_is in
        let c = ap (λ (xs : List Seen). length xs) is.seen_are in
        omega arith

    pub var-is : positive (first + (start + offset + cycle) + 1) ∷ [] ≡ vars
    var-is =
        ap (λ n. positive n ∷ []) (let b = start_is in omega arith)
        ∙ by (positive (first + seen_before g wants table k class + clusters_before table k class cluster + cycle + 1) ∷ []) (seen-is g wants table k first class cluster cycle low mc ln mn lt)
