-- What of classes is seen has a variable.
use Rattle.std.proofs.Common.{◌≡◌, ℕ, ◌<◌, ◌≤◌, List, length, map, arith}
use Rattle.std.specs.Prelude.{◌==◌, Contains}
use Rattle.std.specs.List.{flat_map, list_any, range_with_len}
use Rattle.std.proofs.lemmas.Bool.{eq-eqb}
use Rattle.std.proofs.lemmas.List.Elements.{All-contains, Contains-get_or}
use Rattle.machine_table.specs.Tables.{IsTable, cluster_of}
use Rattle.machine_table.specs.declared.tables.Table.{Table}
use Rattle.machine_table.specs.declared.tables.Slot.{Slot}
use Rattle.graph_meaning.specs.declared.graphs.LaunchGraph.{LaunchGraph}
use Rattle.cycle_encoding.specs.Variables.{clusters_of, all_seen}
use Rattle.cycle_encoding.specs.declared.seen.Seen.{Seen}
use Rattle.cycle_encoding.proofs.Launched.{size-map}
use Rattle.cycle_encoding.proofs.Tests.{some_in}
use Rattle.cycle_encoding.proofs.Members.{filter-in, map-in, map-out, flat-in, range-in}

module _ (g : LaunchGraph) (table : Table) (k : ℕ) where
  -- each class is seen in each cluster and cycle
  pub seen-in : (classes : List ℕ) (c n t : ℕ) → Contains classes c → Contains (clusters_of table) n → t < k → Contains (all_seen table k classes) (record { class = c; cluster = n; cycle = t })
  seen-in classes c n t hc hn lt =
      flat-in (λ c. flat_map (λ n. map (λ t. record { class = c; cluster = n; cycle = t }) (range_with_len 0 k)) (clusters_of table)) classes c (record { class = c; cluster = n; cycle = t }) hc
      (flat-in (λ n. map (λ t. record { class = c; cluster = n; cycle = t }) (range_with_len 0 k)) (clusters_of table) n (record { class = c; cluster = n; cycle = t }) hn
      (map-in {X = ℕ} {A = Seen} (λ t. record { class = c; cluster = n; cycle = t }) (range_with_len 0 k) t (range-in 0 k t (omega arith) (omega arith))))

  module _ (well : IsTable table) where
    -- the cluster of a slot is one of the table's
    pub cluster-in : (s : ℕ) → s < length table.slots → Contains (clusters_of table) (cluster_of table s)
    cluster-in s lt =
        let size = size-map (λ (x : Slot). x.cluster) table.slots in
        let c : Contains (map (λ (x : Slot). x.cluster) table.slots) (cluster_of table s) = Contains-get_or (map (λ (x : Slot). x.cluster) table.slots) s 0 (omega arith) in
        let x = map-out (λ (x : Slot). x.cluster) table.slots (cluster_of table s) c in
        let low : (x.0).cluster ≤ 3 = All-contains (λ (s : Slot). s.cluster ≤ 3) table.slots x.0 well.clusters x.1 in
        let is : (x.0).cluster ≡ cluster_of table s = x.2 in
        filter-in (λ n. list_any (λ (s : Slot). s.cluster == n) table.slots) (range_with_len 0 4) (cluster_of table s) (range-in 0 4 (cluster_of table s) (omega arith) (omega arith))
        (some_in (λ (y : Slot). y.cluster == cluster_of table s) table.slots x.0 x.1 (eq-eqb (x.0).cluster (cluster_of table s) is))
