-- The variables of slots and cycles whose launches take registers, by their places.
use Rattle.std.proofs.Common.{◌≡◌, ℕ, ◌+◌, ◌*◌, ◌<◌, ◌≤◌, Bool, true, false, List, ◌∷◌, ◌++◌, [], length, map, refl, sym, ap, ◌∙◌, subst, arith, inl, inr}
use Rattle.std.specs.Prelude.{◌==◌}
use Rattle.std.specs.List.{All, filter, flat_map, range_with_len}
use Rattle.std.proofs.lemmas.Bool.{cases_eq, eq-eqb, ne_eqb, and_from, and_left, and_right}
use Rattle.std.proofs.lemmas.List.Elements.{All-head}
use Rattle.std.proofs.lemmas.List.FromFn.{length-map-range_with_len, length-range_with_len}
use Rattle.cnf_core.specs.declared.literal.Lit.{Lit}
use Rattle.cnf_core.specs.Formula.{IsLitOf}
use Rattle.machine_table.specs.declared.tables.Table.{Table}
use Rattle.cycle_encoding.specs.Shapes.{numbered, positive, vars_of}
use Rattle.cycle_encoding.specs.Families.{any}
use Rattle.cycle_encoding.proofs.Blocks.{vars-over}
use Rattle.cycle_encoding.proofs.Counting.{sum-same}
use Rattle.cycle_encoding.proofs.Places.{no-item, at-item, at-block, before-block}
use Rattle.cycle_encoding.proofs.Tables.{table_more}
use Rattle.cycle_encoding.proofs.Totals.{size-flat, sum-const}
use Rattle.order_encoding.specs.OrderVariables.{Taken, all_taken}
use Rattle.order_encoding.specs.OrderFamilies.{is_taken_at}

abbrev taken_at : ℕ → ℕ → Taken
taken_at slot cycle = record { slot = slot; cycle = cycle }

abbrev slot_taken : ℕ → ℕ → List Taken
slot_taken k slot = map (taken_at slot) (range_with_len 0 k)

abbrev yes : ℕ → Bool
yes n = true

all_pass : (xs : List ℕ) → filter yes xs ≡ xs
all_pass [] = refl
all_pass (x ∷ xs) = ap (λ ys. x ∷ ys) (all_pass xs)

slots_size : (k n : ℕ) → length (flat_map (slot_taken k) (range_with_len 0 n)) ≡ n * k
slots_size k n =
    size-flat (slot_taken k) (range_with_len 0 n)
    ∙ sum-same (λ s. length (slot_taken k s)) (λ s. k) (range_with_len 0 n) (λ s. length-map-range_with_len (taken_at s) 0 k)
    ∙ sum-const k (range_with_len 0 n) ∙ ap (λ m. m * k) (length-range_with_len 0 n)

pub taken-count : (table : Table) (k : ℕ) → length (all_taken table k) ≡ length table.slots * k
taken-count table k = slots_size k (length table.slots)

module _ (table : Table) (k first slot cycle : ℕ) where
  abbrev T : Taken → Bool
  T = is_taken_at slot cycle

  abbrev vars : List Lit
  vars = vars_of T (numbered first (all_taken table k))

  other_cycle : (a : ℕ) → (a ≡ cycle → ⊥) → T (taken_at slot a) ≡ false
  other_cycle a ne = and_right (slot == slot) (a == cycle) (ne_eqb a cycle ne)

  other_slot : (a : ℕ) → (a ≡ slot → ⊥) → (m : ℕ) → vars_of T (numbered m (slot_taken k a)) ≡ []
  other_slot a ne m = no-item T k (taken_at a) (λ b _. and_left (a == slot) (b == cycle) (ne_eqb a slot ne)) m k (omega arith)

  filtered : vars ≡ vars_of T (numbered first (flat_map (slot_taken k) (filter yes (range_with_len 0 (length table.slots)))))
  filtered = ap (λ xs. vars_of T (numbered first (flat_map (slot_taken k) xs))) (sym (all_pass (range_with_len 0 (length table.slots))))

  pub no_taken_slot : length table.slots ≤ slot → [] ≡ vars
  no_taken_slot le = sym (filtered ∙ before-block T slot (slot_taken k) yes other_slot first (length table.slots) le)

  pub no_taken_cycle : k ≤ cycle → [] ≡ vars
  no_taken_cycle le =
      sym (filtered ∙ before-block T (length table.slots) (slot_taken k) yes
      (λ a _ m. elim (cases_eq a slot) [ inl e ↦ ap (λ a. vars_of T (numbered m (slot_taken k a))) e ∙ no-item T cycle (taken_at slot) other_cycle m k le | inr ne ↦ other_slot a ne m ])
      first (length table.slots) (omega arith))

  module _ (ls : slot < length table.slots) (lt : cycle < k) where
    is-taken : vars ≡ positive (first + slot * k + cycle + 1) ∷ []
    is-taken =
        filtered
        ∙ at-block T slot (slot_taken k) yes other_slot first (length table.slots) ls refl
        ∙ ap (λ xs. vars_of T (numbered (first + length (flat_map (slot_taken k) xs)) (slot_taken k slot))) (all_pass (range_with_len 0 slot))
        ∙ ap (λ m. vars_of T (numbered (first + m) (slot_taken k slot))) (slots_size k slot)
        ∙ at-item T cycle (taken_at slot) other_cycle (first + slot * k) k lt (and_from (slot == slot) (cycle == cycle) (eq-eqb slot slot refl) (eq-eqb cycle cycle refl))

    pub taken_is : positive (first + slot * k + cycle + 1) ∷ [] ≡ vars
    taken_is = sym is-taken

    pub taken_within : first + slot * k + cycle + 1 ≤ first + length (all_taken table k)
    taken_within =
        let over = vars-over T first (first + length (all_taken table k)) (all_taken table k) (omega arith) in
        (All-head (IsLitOf (first + length (all_taken table k))) (positive (first + slot * k + cycle + 1)) [] (subst (λ ls. All (IsLitOf (first + length (all_taken table k))) ls) is-taken over)).within

-- all variables of things, by their number alone
following-from : (a s : ℕ) (xs : List Taken) → vars_of any (numbered (a + s) xs) ≡ map (λ i. positive (a + i + 1)) (range_with_len s (length xs))
following-from a s [] = refl
following-from a s (x ∷ xs) =
    let e : a + s + 1 ≡ a + (s + 1) = omega arith in
    ap (λ ys. positive (a + s + 1) ∷ ys) (ap (λ m. vars_of any (numbered m xs)) e ∙ following-from a (s + 1) xs)

pub following_are : (first count : ℕ) (xs : List Taken) (lits : List Lit) → length xs ≡ count → lits ≡ map (λ i. positive (first + i + 1)) (range_with_len 0 count) → lits ≡ vars_of any (numbered first xs)
following_are first count xs lits size e =
    let z : first + 0 ≡ first = omega arith in
    e ∙ ap (λ n. map (λ i. positive (first + i + 1)) (range_with_len 0 n)) (sym size) ∙ sym (following-from first 0 xs) ∙ ap (λ m. vars_of any (numbered m xs)) z

pub following_more : (first n : ℕ) → map (λ i. positive (first + i + 1)) (range_with_len 0 (n + 1)) ≡ map (λ i. positive (first + i + 1)) (range_with_len 0 n) ++ positive (first + n + 1) ∷ []
following_more first n = table_more (λ i. positive (first + i + 1)) n
