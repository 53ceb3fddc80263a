-- The variables of what is held, by their places: by slot, then by start, then by cycle.
use Rattle.std.proofs.Common.{◌≡◌, ℕ, zero, suc, ◌+◌, ◌-◌, ◌*◌, ◌<◌, ◌≤◌, Bool, true, false, cond, List, ◌∷◌, ◌++◌, [], length, map, refl, sym, ap, ◌∙◌, subst, arith, inl, inr, ◌⊎◌}
use Rattle.std.specs.Prelude.{◌==◌, ◌&&◌}
use Rattle.std.specs.List.{All, filter, flat_map, range_with_len}
use Rattle.std.proofs.lemmas.Bool.{cases_eq, cases_lt, eq-eqb, ne_eqb, and_from, and_left, and_right}
use Rattle.std.proofs.lemmas.List.Elements.{All-head}
use Rattle.std.proofs.lemmas.List.Sums.{sum_by-le}
use Rattle.std.proofs.lemmas.List.FromFn.{length-map-range_with_len, length-range_with_len}
use Rattle.cnf_core.specs.declared.literal.Lit.{Lit}
use Rattle.cnf_core.specs.Formula.{IsLitOf}
use Rattle.machine_table.specs.declared.tables.Table.{Table}
use Rattle.cycle_encoding.specs.Shapes.{numbered, positive, vars_of}
use Rattle.cycle_encoding.proofs.Blocks.{vars-over}
use Rattle.cycle_encoding.proofs.Counting.{sum-same}
use Rattle.cycle_encoding.proofs.Listed.{flat_more}
use Rattle.cycle_encoding.proofs.Places.{no-item, at-item, at-block, before-block}
use Rattle.cycle_encoding.proofs.Tables.{table_more}
use Rattle.cycle_encoding.proofs.Tallies.{sum_more}
use Rattle.cycle_encoding.proofs.Totals.{size-flat, sum-const}
use Rattle.cycle_encoding.proofs.Walk.{vars-append}
use Rattle.order_encoding.specs.LiveVariables.{Hold, all_holds, slot_holds, start_holds}
use Rattle.order_encoding.specs.LiveFamilies.{is_hold_at}
use Rattle.order_encoding.specs.OrderCounts.{holds_count}
use Rattle.order_encoding.specs.OrderSteps.{starts_before}
use Rattle.order_encoding.proofs.LiveListing.{hold_at}

-- ---- how many

pub starts-more : (k n : ℕ) → starts_before k (n + 1) ≡ starts_before k n + (k - n)
starts-more k n = sum_more (λ f. k - f) n

pub starts-few : (k n : ℕ) → starts_before k n ≤ n * k
starts-few k n = (let a = sum_by-le (λ f. k - f) k (range_with_len 0 n) (λ i d lt. omega arith) in let b = length-range_with_len 0 n in subst (λ m. starts_before k n ≤ m * k) b a)

module _ (k slot : ℕ) where
  pub start-size : (start : ℕ) → length (start_holds k slot start) ≡ k - start
  start-size start = length-map-range_with_len (hold_at slot start) start (k - start)

  pub starts-size : (n : ℕ) → length (flat_map (start_holds k slot) (range_with_len 0 n)) ≡ starts_before k n
  starts-size n = size-flat (start_holds k slot) (range_with_len 0 n) ∙ sum-same (λ s. length (start_holds k slot s)) (λ s. k - s) (range_with_len 0 n) start-size

pub slots-size : (k n : ℕ) → length (flat_map (slot_holds k) (range_with_len 0 n)) ≡ n * starts_before k k
slots-size k n =
    size-flat (slot_holds k) (range_with_len 0 n)
    ∙ sum-same (λ s. length (slot_holds k s)) (λ s. starts_before k k) (range_with_len 0 n) (λ s. starts-size k s k)
    ∙ sum-const (starts_before k k) (range_with_len 0 n) ∙ ap (λ m. m * starts_before k k) (length-range_with_len 0 n)

pub holds-are-counted : (table : Table) (k : ℕ) → length (all_holds table k) ≡ holds_count table k
holds-are-counted table k = slots-size k (length table.slots)

-- ---- one slot, start and cycle

abbrev yes : ℕ → Bool
yes n = true

all_pass : (xs : List ℕ) → filter yes xs ≡ xs
all_pass [] = refl
all_pass (x ∷ xs) = ap (λ ys. x ∷ ys) (all_pass xs)

shifted : {X : Type 0} (f : ℕ → X) (a b n : ℕ) → map f (range_with_len (a + b) n) ≡ map (λ i. f (a + i)) (range_with_len b n)
shifted f a b zero = refl
shifted f a b (suc n) =
    let e : a + b + 1 ≡ a + (b + 1) = omega arith in
    ap (λ xs. f (a + b) ∷ xs) (ap (λ m. map f (range_with_len m n)) e ∙ shifted f a (b + 1) n)

pub from_start : {X : Type 0} (f : ℕ → X) (a n : ℕ) → map f (range_with_len a n) ≡ map (λ i. f (a + i)) (range_with_len 0 n)
from_start f a n = (let e : a ≡ a + 0 = omega arith in ap (λ m. map f (range_with_len m n)) e ∙ shifted f a 0 n)

module _ (k slot start cycle : ℕ) where
  abbrev T : Hold → Bool
  T = is_hold_at slot start cycle

  abbrev at : ℕ → ℕ → Hold
  at b i = hold_at slot b (b + i)

  other_slot : (a b : ℕ) → (a ≡ slot → ⊥) → (m : ℕ) → vars_of T (numbered m (start_holds k a b)) ≡ []
  other_slot a b ne m =
      ap (λ xs. vars_of T (numbered m xs)) (from_start (hold_at a b) b (k - b))
      ∙ no-item T (k - b) (λ i. hold_at a b (b + i)) (λ i _. and_left (a == slot) ((b == start) && (b + i == cycle)) (ne_eqb a slot ne)) m (k - b) (omega arith)

  other_start : (b : ℕ) → (b ≡ start → ⊥) → (m : ℕ) → vars_of T (numbered m (start_holds k slot b)) ≡ []
  other_start b ne m =
      ap (λ xs. vars_of T (numbered m xs)) (from_start (hold_at slot b) b (k - b))
      ∙ no-item T (k - b) (at b) (λ i _. and_right (slot == slot) ((b == start) && (b + i == cycle)) (and_left (b == start) (b + i == cycle) (ne_eqb b start ne))) m (k - b) (omega arith)

  not_then : (i : ℕ) → (start + i ≡ cycle → ⊥) → T (at start i) ≡ false
  not_then i ne = and_right (slot == slot) ((start == start) && (start + i == cycle)) (and_right (start == start) (start + i == cycle) (ne_eqb (start + i) cycle ne))

  away : (m n : ℕ) → ((a : ℕ) → a < n → (m : ℕ) → vars_of T (numbered m (start_holds k slot a)) ≡ []) → vars_of T (numbered m (flat_map (start_holds k slot) (range_with_len 0 n))) ≡ []
  away m zero h = refl
  away m (suc n) h =
      let s : suc n ≡ n + 1 = omega arith in
      let before : List Hold = flat_map (start_holds k slot) (range_with_len 0 n) in
      ap (λ j. vars_of T (numbered m (flat_map (start_holds k slot) (range_with_len 0 j)))) s
      ∙ ap (λ xs. vars_of T (numbered m xs)) (flat_more (start_holds k slot) n)
      ∙ vars-append T m before (start_holds k slot n)
      ∙ ap (λ ys. ys ++ vars_of T (numbered (m + length before) (start_holds k slot n))) (away m n (λ a lt. h a (omega arith)))
      ∙ h n (omega arith) (m + length before)

  other_slots : (a : ℕ) → (a ≡ slot → ⊥) → (m : ℕ) → vars_of T (numbered m (slot_holds k a)) ≡ []
  other_slots a ne m = go k
    where
      go : (n : ℕ) → vars_of T (numbered m (flat_map (start_holds k a) (range_with_len 0 n))) ≡ []
      go zero = refl
      go (suc n) =
          let s : suc n ≡ n + 1 = omega arith in
          let before : List Hold = flat_map (start_holds k a) (range_with_len 0 n) in
          ap (λ j. vars_of T (numbered m (flat_map (start_holds k a) (range_with_len 0 j)))) s
          ∙ ap (λ xs. vars_of T (numbered m xs)) (flat_more (start_holds k a) n)
          ∙ vars-append T m before (start_holds k a n)
          ∙ ap (λ ys. ys ++ vars_of T (numbered (m + length before) (start_holds k a n))) (go n)
          ∙ other_slot a n ne (m + length before)

  -- in its own block
  here-is : (m : ℕ) → start ≤ cycle → cycle < k → vars_of T (numbered m (start_holds k slot start)) ≡ positive (m + (cycle - start) + 1) ∷ []
  here-is m le lt =
      let same : start + (cycle - start) ≡ cycle = omega arith in
      ap (λ xs. vars_of T (numbered m xs)) (from_start (hold_at slot start) start (k - start))
      ∙ at-item T (cycle - start) (at start) (λ i ne. not_then i (λ e. ne (omega arith))) m (k - start) (omega arith)
      (and_from (slot == slot) ((start == start) && (start + (cycle - start) == cycle)) (eq-eqb slot slot refl) (and_from (start == start) (start + (cycle - start) == cycle) (eq-eqb start start refl) (eq-eqb (start + (cycle - start)) cycle same)))

  -- or in none
  nowhere : (m : ℕ) → ((i : ℕ) → i < k - start → start + i ≡ cycle → ⊥) → vars_of T (numbered m (start_holds k slot start)) ≡ []
  nowhere m out = ap (λ xs. vars_of T (numbered m xs)) (from_start (hold_at slot start) start (k - start)) ∙ none (k - start) (omega arith)
    where
      none : (n : ℕ) → n ≤ k - start → vars_of T (numbered m (map (at start) (range_with_len 0 n))) ≡ []
      none zero le = refl
      none (suc n) le =
          let s : suc n ≡ n + 1 = omega arith in
          let before : List Hold = map (at start) (range_with_len 0 n) in
          ap (λ j. vars_of T (numbered m (map (at start) (range_with_len 0 j)))) s
          ∙ ap (λ xs. vars_of T (numbered m xs)) (table_more (at start) n)
          ∙ vars-append T m before (at start n ∷ [])
          ∙ ap (λ ys. ys ++ vars_of T (numbered (m + length before) (at start n ∷ []))) (none n (omega arith))
          ∙ ap (λ b. map (λ (p : ℕ × Hold). positive p.0) (cond b ((m + length before + 1, at start n) ∷ []) [])) (not_then n (out n (omega arith)))

  module _ (table : Table) (first : ℕ) where
    abbrev pub hold_vars : List Lit
    hold_vars = vars_of T (numbered first (all_holds table k))

    abbrev slots : ℕ
    slots = length table.slots

    filtered : hold_vars ≡ vars_of T (numbered first (flat_map (slot_holds k) (filter yes (range_with_len 0 slots))))
    filtered = ap (λ xs. vars_of T (numbered first (flat_map (slot_holds k) xs))) (sym (all_pass (range_with_len 0 slots)))

    in_slot : slot < slots → hold_vars ≡ vars_of T (numbered (first + slot * starts_before k k) (slot_holds k slot))
    in_slot ls =
        filtered
        ∙ at-block T slot (slot_holds k) yes other_slots first slots ls refl
        ∙ ap (λ xs. vars_of T (numbered (first + length (flat_map (slot_holds k) xs)) (slot_holds k slot))) (all_pass (range_with_len 0 slot))
        ∙ ap (λ m. vars_of T (numbered (first + m) (slot_holds k slot))) (slots-size k slot)

    in_starts : (m : ℕ) → start < k → vars_of T (numbered m (slot_holds k slot)) ≡ vars_of T (numbered (m + starts_before k start) (start_holds k slot start))
    in_starts m lt =
        ap (λ xs. vars_of T (numbered m (flat_map (start_holds k slot) xs))) (sym (all_pass (range_with_len 0 k)))
        ∙ at-block T start (start_holds k slot) yes other_start m k lt refl
        ∙ ap (λ xs. vars_of T (numbered (m + length (flat_map (start_holds k slot) xs)) (start_holds k slot start))) (all_pass (range_with_len 0 start))
        ∙ ap (λ n. vars_of T (numbered (m + n) (start_holds k slot start))) (starts-size k slot start)

    -- whose variable it is
    pub is-hold : slot < slots → start ≤ cycle → cycle < k → hold_vars ≡ positive (first + (slot * starts_before k k + starts_before k start) + (cycle - start) + 1) ∷ []
    is-hold ls le lt =
        let at : first + slot * starts_before k k + starts_before k start ≡ first + (slot * starts_before k k + starts_before k start) = omega arith in
        in_slot ls ∙ in_starts (first + slot * starts_before k k) (omega arith)
        ∙ here-is (first + slot * starts_before k k + starts_before k start) le lt
        ∙ ap (λ m. positive (m + (cycle - start) + 1) ∷ []) at

    pub hold-is : slot < slots → start ≤ cycle → cycle < k → positive (first + (slot * starts_before k k + starts_before k start) + (cycle - start) + 1) ∷ [] ≡ hold_vars
    hold-is ls le lt = sym (is-hold ls le lt)

    pub hold-within : slot < slots → start ≤ cycle → cycle < k → first + (slot * starts_before k k + starts_before k start) + (cycle - start) + 1 ≤ first + length (all_holds table k)
    hold-within ls le lt =
        let over = vars-over T first (first + length (all_holds table k)) (all_holds table k) (omega arith) in
        (All-head (IsLitOf (first + length (all_holds table k))) (positive (first + (slot * starts_before k k + starts_before k start) + (cycle - start) + 1)) [] (subst (λ ls. All (IsLitOf (first + length (all_holds table k))) ls) (is-hold ls le lt) over)).within

    pub no-hold-slot : slots ≤ slot → [] ≡ hold_vars
    no-hold-slot le = sym (filtered ∙ before-block T slot (slot_holds k) yes other_slots first slots le)

    pub no-hold-cycle : (cycle < start) ⊎ (k ≤ cycle) → [] ≡ hold_vars
    no-hold-cycle h =
        elim (cases_lt slot slots) [
          | inl ls ↦ sym (in_slot ls ∙ away (first + slot * starts_before k k) k (λ a lt m. elim (cases_eq a start) [ inl e ↦ subst (λ a. vars_of T (numbered m (start_holds k slot a)) ≡ []) (sym e) (nowhere m (λ i small same. out i (subst (λ s. i < k - s) e (omega arith)) same h)) | inr ne ↦ other_start a ne m ]))
          | inr le ↦ no-hold-slot le
        ]
      where
        out : (i : ℕ) → i < k - start → start + i ≡ cycle → (cycle < start) ⊎ (k ≤ cycle) → ⊥
        out i small same (inl early) = omega arith
        out i small same (inr late) = omega arith
