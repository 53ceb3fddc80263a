-- Which memories are held and which registers taken, as far as they have variables, and that none has two.
use Rattle.std.proofs.Common.{◌≡◌, ℕ, ◌+◌, ◌<◌, ◌≤◌, length, map, refl, sym, ap, subst, arith}
use Rattle.std.specs.Prelude.{Contains}
use Rattle.std.specs.List.{range_with_len}
use Rattle.machine_table.specs.declared.tables.Table.{Table}
use Rattle.graph_meaning.specs.declared.graphs.LaunchGraph.{LaunchGraph}
use Rattle.cycle_encoding.specs.Variables.{classes_of}
use Rattle.order_encoding.specs.OrderVariables.{memory_classes, is_memory_class, all_held, all_taken, Held, Taken}
use Rattle.cycle_encoding.proofs.Members.{NoTwice, flat-in, flat-out, map-in, map-out, range-in, range-out, filter-once, map-once, flat-once, range-once}

module _ (g : LaunchGraph) (table : Table) (k : ℕ) where
  abbrev held_at : ℕ → ℕ → Held
  held_at c t = record { class = c; cycle = t }

  pub held-in : (c t : ℕ) → Contains (memory_classes g) c → t ≤ k → Contains (all_held g k) (held_at c t)
  held-in c t hc le =
      flat-in (λ c. map (held_at c) (range_with_len 0 (k + 1))) (memory_classes g) c (held_at c t) hc
      (map-in (held_at c) (range_with_len 0 (k + 1)) t (range-in 0 (k + 1) t (omega arith) (omega arith)))

  pub held-out : (m : Held) → Contains (all_held g k) m → Contains (memory_classes g) m.class × (m.cycle ≤ k)
  held-out m h =
      let c = flat-out (λ c. map (held_at c) (range_with_len 0 (k + 1))) (memory_classes g) m h in
      let t = map-out (held_at c.0) (range_with_len 0 (k + 1)) m c.2 in
      let b = (range-out 0 (k + 1) t.0 t.1).1 in
      let same : t.0 ≡ m.cycle = ap (λ (m : Held). m.cycle) t.2 in
      (subst (λ x. Contains (memory_classes g) x) (ap (λ (m : Held). m.class) t.2) c.1, omega arith)

  pub held-once : NoTwice (all_held g k)
  held-once =
      flat-once (λ (m : Held). m.class) (λ c. map (held_at c) (range_with_len 0 (k + 1)))
      (λ c m h. let t = map-out (held_at c) (range_with_len 0 (k + 1)) m h in sym (ap (λ (m : Held). m.class) t.2))
      (λ c. map-once (λ (m : Held). m.cycle) (held_at c) (λ t. refl) (range_with_len 0 (k + 1)) (range-once 0 (k + 1)))
      (memory_classes g) (filter-once (is_memory_class g) (classes_of g) (range-once 0 _))

  abbrev taken_at : ℕ → ℕ → Taken
  taken_at s t = record { slot = s; cycle = t }

  pub taken-in : (s t : ℕ) → s < length table.slots → t < k → Contains (all_taken table k) (taken_at s t)
  taken-in s t ls lt =
      flat-in (λ s. map (taken_at s) (range_with_len 0 k)) (range_with_len 0 (length table.slots)) s (taken_at s t) (range-in 0 (length table.slots) s (omega arith) (omega arith))
      (map-in (taken_at s) (range_with_len 0 k) t (range-in 0 k t (omega arith) (omega arith)))

  pub taken-once : NoTwice (all_taken table k)
  taken-once =
      flat-once (λ (u : Taken). u.slot) (λ s. map (taken_at s) (range_with_len 0 k))
      (λ s u h. let t = map-out (taken_at s) (range_with_len 0 k) u h in sym (ap (λ (u : Taken). u.slot) t.2))
      (λ s. map-once (λ (u : Taken). u.cycle) (taken_at s) (λ t. refl) (range_with_len 0 k) (range-once 0 k))
      (range_with_len 0 (length table.slots)) (range-once 0 (length table.slots))
