-- What is needed and which registers are held, as far as they have variables, and that none has two.
use Rattle.std.proofs.Common.{◌≡◌, ℕ, ◌+◌, ◌-◌, ◌<◌, ◌≤◌, Bool, true, false, not, cond, List, [], ◌∷◌, length, map, refl, sym, ap, ◌∙◌, subst, arith, inl, inr, ◌⊎◌}
use Rattle.std.specs.Prelude.{Contains}
use Rattle.std.specs.List.{filter, range_with_len}
use Rattle.std.proofs.lemmas.Bool.{and_parts}
use Rattle.machine_table.specs.declared.tables.Table.{Table}
use Rattle.graph_meaning.specs.WellFormed.{IsLaunchGraph, next_class}
use Rattle.graph_meaning.specs.declared.graphs.LaunchGraph.{LaunchGraph}
use Rattle.schedule_meaning.specs.Launches.{class_at, gives_word, is_pool, launches, takes_pool}
use Rattle.schedule_meaning.specs.declared.schedules.Launch.{Launch}
use Rattle.std.specs.Prelude.{◌==◌}
use Rattle.std.proofs.lemmas.Bool.{eqb-true, eq-eqb, and_from}
use Rattle.cycle_encoding.specs.Shapes.{numbered, shown}
use Rattle.cycle_encoding.specs.Variables.{classes_of}
use Rattle.cycle_encoding.proofs.Members.{NoTwice, here, later, either, nothing, flat-in, flat-out, map-in, map-out, range-in, range-out, filter-in, filter-once, map-once, flat-once, range-once}
use Rattle.cycle_encoding.proofs.PinnedRows.{word-launch}
use Rattle.cycle_encoding.proofs.Tests.{some_of, some_in}
use Rattle.cycle_encoding.proofs.Unshown.{hidden, flip}
use Rattle.order_encoding.specs.LiveVariables.{Need, Hold, all_needs, all_holds, is_pooled, pooled_classes, pools, slot_holds, start_holds}
use Rattle.order_encoding.specs.OrderSteps.{need_at, class_needs}
use Rattle.order_encoding.proofs.NeedSteps.{any-numbered}

abbrev pub hold_at : ℕ → ℕ → ℕ → Hold
hold_at slot start cycle = record { slot = slot; start = start; cycle = cycle }

-- ---- what is needed

module _ (k : ℕ) (cs : List ℕ) where
  pub needs-in : (c t : ℕ) → Contains cs c → t < k → Contains (all_needs k cs) (need_at c t)
  needs-in c t hc lt = flat-in (class_needs k) cs c (need_at c t) hc (map-in (need_at c) (range_with_len 0 k) t (range-in 0 k t (omega arith) (omega arith)))

  pub needs-out : (n : Need) → Contains (all_needs k cs) n → Contains cs n.class × (n.cycle < k)
  needs-out n h =
      let c = flat-out (class_needs k) cs n h in
      let t = map-out (need_at c.0) (range_with_len 0 k) n c.2 in
      let b = (range-out 0 k t.0 t.1).1 in
      let same : t.0 ≡ n.cycle = ap (λ (n : Need). n.cycle) t.2 in
      (subst (λ x. Contains cs x) (ap (λ (n : Need). n.class) t.2) c.1, omega arith)

  pub needs-once : NoTwice cs → NoTwice (all_needs k cs)
  needs-once once =
      flat-once (λ (n : Need). n.class) (class_needs k)
      (λ c n h. let t = map-out (need_at c) (range_with_len 0 k) n h in sym (ap (λ (n : Need). n.class) t.2))
      (λ c. map-once (λ (n : Need). n.cycle) (need_at c) (λ t. refl) (range_with_len 0 k) (range-once 0 k))
      cs once

-- ---- which classes are pooled

module _ (g : LaunchGraph) where
  pub pooled-once : (xs : List (ℕ × Launch)) → NoTwice (pooled_classes g xs)
  pooled-once xs = filter-once (is_pooled g xs) (classes_of g) (range-once 0 _)

  pub pooled-below : IsLaunchGraph g → (n : ℕ) (ls : List Launch) (c : ℕ) → is_pooled g (numbered n ls) c ≡ true → c < next_class g.rows
  pooled-below well n ls c h =
      let l = some_of (λ x. pools g c x) ls (sym (any-numbered (λ x. pools g c x) n ls) ∙ h) in
      let p = and_parts (takes_pool g l.0) (class_at g l.0.row == c) l.2 in
      let q = and_parts (is_pool l.0.to) (launches g gives_word l.0) p.0 in
      let w = word-launch g well l.0 q.1 in
      subst (λ x. x < next_class g.rows) (eqb-true (class_at g l.0.row) c p.1) w.1

  pub pooled-in : IsLaunchGraph g → (n : ℕ) (ls : List Launch) (c : ℕ) → is_pooled g (numbered n ls) c ≡ true → Contains (pooled_classes g (numbered n ls)) c
  pooled-in well n ls c h = (let below = pooled-below well n ls c h in filter-in (is_pooled g (numbered n ls)) (classes_of g) c (range-in 0 (next_class g.rows) c (omega arith) (omega arith)) h)

  -- a launch to the pool makes its class pooled
  pub pooled-by : (n : ℕ) (ls : List Launch) (l : Launch) → Contains ls l → takes_pool g l ≡ true → is_pooled g (numbered n ls) (class_at g l.row) ≡ true
  pooled-by n ls l h t =
      any-numbered (λ x. pools g (class_at g l.row) x) n ls
      ∙ some_in (λ x. pools g (class_at g l.row) x) ls l h (and_from (takes_pool g l) (class_at g l.row == class_at g l.row) t (eq-eqb (class_at g l.row) (class_at g l.row) refl))

-- ---- which registers are held

module _ (table : Table) (k : ℕ) where
  pub holds-in : (slot start t : ℕ) → slot < length table.slots → start ≤ t → t < k → Contains (all_holds table k) (hold_at slot start t)
  holds-in slot start t ls le lt =
      flat-in (slot_holds k) (range_with_len 0 (length table.slots)) slot (hold_at slot start t) (range-in 0 (length table.slots) slot (omega arith) (omega arith))
      (flat-in (start_holds k slot) (range_with_len 0 k) start (hold_at slot start t) (range-in 0 k start (omega arith) (omega arith))
      (map-in (hold_at slot start) (range_with_len start (k - start)) t (range-in start (k - start) t le (omega arith))))

  start-once : (slot start : ℕ) → NoTwice (start_holds k slot start)
  start-once slot start = map-once (λ (h : Hold). h.cycle) (hold_at slot start) (λ t. refl) (range_with_len start (k - start)) (range-once start (k - start))

  start-of : (slot start : ℕ) (h : Hold) → Contains (start_holds k slot start) h → (h.slot ≡ slot) × (h.start ≡ start)
  start-of slot start h c = (let t = map-out (hold_at slot start) (range_with_len start (k - start)) h c in (sym (ap (λ (h : Hold). h.slot) t.2), sym (ap (λ (h : Hold). h.start) t.2)))

  slot-once : (slot : ℕ) → NoTwice (slot_holds k slot)
  slot-once slot = flat-once (λ (h : Hold). h.start) (start_holds k slot) (λ start h c. (start-of slot start h c).1) (start-once slot) (range_with_len 0 k) (range-once 0 k)

  slot-of : (slot : ℕ) (h : Hold) → Contains (slot_holds k slot) h → h.slot ≡ slot
  slot-of slot h c = (let s = flat-out (start_holds k slot) (range_with_len 0 k) h c in (start-of slot s.0 h s.2).0)

  pub holds-once : NoTwice (all_holds table k)
  holds-once = flat-once (λ (h : Hold). h.slot) (slot_holds k) slot-of slot-once (range_with_len 0 (length table.slots)) (range-once 0 (length table.slots))

-- ---- a thing with a variable is shown or hidden

module _ {X : Type 0} (v : ℕ → Bool) where
  side : (m : ℕ) (y x : X) (P Q : List (ℕ × X)) → (y ≡ x) ⊎ (Contains (map (λ p. p.1) P) x ⊎ Contains (map (λ p. p.1) Q) x) → (b : Bool)
      → Contains (map (λ p. p.1) (cond b ((m, y) ∷ P) P)) x ⊎ Contains (map (λ p. p.1) (cond (not b) ((m, y) ∷ Q) Q)) x
  side m y x P Q (inl e) true = inl (subst (λ z. Contains (y ∷ map (λ p. p.1) P) z) e (here y (map (λ p. p.1) P)))
  side m y x P Q (inl e) false = inr (subst (λ z. Contains (y ∷ map (λ p. p.1) Q) z) e (here y (map (λ p. p.1) Q)))
  side m y x P Q (inr (inl h)) true = inl (later y x (map (λ p. p.1) P) h)
  side m y x P Q (inr (inl h)) false = inl h
  side m y x P Q (inr (inr h)) true = inr h
  side m y x P Q (inr (inr h)) false = inr (later y x (map (λ p. p.1) Q) h)

  pub either-side : (n : ℕ) (xs : List X) (x : X) → Contains xs x → Contains (shown v (numbered n xs)) x ⊎ Contains (hidden v (numbered n xs)) x
  either-side n [] x h = absurd (nothing x h)
  either-side n (y ∷ ys) x h =
      side (n + 1) y x (filter (λ p. v p.0) (numbered (n + 1) ys)) (filter (λ p. flip v p.0) (numbered (n + 1) ys))
      (elim (either y x ys h) [ inl e ↦ inl e | inr c ↦ inr (either-side (n + 1) ys x c) ]) (v (n + 1))
