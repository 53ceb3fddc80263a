-- What launches hold: need never comes back, and the order of the launches is of no account.
use Rattle.std.proofs.Common.{◌≡◌, ℕ, ◌<◌, ◌≤◌, List, [], ◌∷◌, length, refl, sym, ◌∙◌, ap, subst, inl, inr, ◌⊎◌, arith, Bool, true, false, cond, ◌&&◌, None}
use Rattle.std.specs.Prelude.{All, IsPermutation, count_by, is_some, not, nat_le, nat_lt, ◌==◌, ◌||◌}
use Rattle.std.specs.List.{list_any}
use Rattle.std.proofs.lemmas.Bool.{false≢true}
use Rattle.std.proofs.lemmas.List.Elements.{All-head, All-tail}
use Rattle.std.proofs.lemmas.List.Folds.{Any-from_list_any, list_any-from_Any}
use Rattle.std.proofs.lemmas.List.Sorted.{list_any-IsPermutation, sum_by-IsPermutation}
use Rattle.std.proofs.lemmas.List.Sums.{sum_by-cons}
use Rattle.graph_meaning.specs.Graphs.{is_zero_class}
use Rattle.graph_meaning.specs.declared.graphs.LaunchGraph.{LaunchGraph}
use Rattle.schedule_meaning.specs.Launches.{class_at, takes_pool}
use Rattle.schedule_meaning.specs.Readers.{input_where, is_intact, touches}
use Rattle.schedule_meaning.specs.Lifetimes.{holds, is_needed, is_read_from, is_unpinned_of, is_wanted, reads_class}
use Rattle.schedule_meaning.specs.Fits.{HasRoom}
use Rattle.schedule_meaning.specs.declared.schedules.Allocation.{Allocation}
use Rattle.schedule_meaning.specs.declared.schedules.Allocation.TheVariants.{Block, Live}
use Rattle.schedule_meaning.specs.declared.schedules.Launch.{Launch}
use Rattle.schedule_meaning.proofs.Comparisons.{and_left, and_right, and_both, or_cases, or_left, or_right, le_true, true_le, lt_true, true_lt}
use Rattle.schedule_meaning.proofs.Pins.{number_same, same_number}

-- ---- tests

pub same_tests : {X : Type 0} (p q : X → Bool) → ((x : X) → p x ≡ q x) → p ≡ q
same_tests p q h = λ i x. h x i

module _ {X : Type 0} (p q : X → Bool) where
  one_le : (b c : Bool) → (b ≡ true → c ≡ true) → cond {A = ℕ} b 1 0 ≤ cond {A = ℕ} c 1 0
  one_le true true h = omega arith
  one_le true false h = absurd (false≢true (h refl))
  one_le false true h = omega arith
  one_le false false h = omega arith

  -- where what passes the one test passes the other, no more pass the one
  pub count_le : (xs : List X) → All (λ x. p x ≡ true → q x ≡ true) xs → count_by p xs ≤ count_by q xs
  count_le [] h = omega arith
  count_le (x ∷ xs) h =
      let one = one_le (p x) (q x) (All-head (λ x. p x ≡ true → q x ≡ true) x xs h) in
      let rest = count_le xs (All-tail (λ x. p x ≡ true → q x ≡ true) x xs h) in
      let left = sum_by-cons (λ x. cond {A = ℕ} (p x) 1 0) x xs in
      let right = sum_by-cons (λ x. cond {A = ℕ} (q x) 1 0) x xs in
      omega (arith, one, rest, left, right)

-- ---- need never comes back

module _ (g : LaunchGraph) (ls : List Launch) where
  read_before : (t u class : ℕ) → t ≤ u → is_read_from g ls u class ≡ true → is_read_from g ls t class ≡ true
  read_before t u class le h =
      let a = Any-from_list_any (λ (l : Launch). nat_le u l.cycle && reads_class g class l) ls h in
      let late : u ≤ a.1.cycle = true_le u a.1.cycle (and_left (nat_le u a.1.cycle) (reads_class g class a.1) a.4) in
      list_any-from_Any (λ (l : Launch). nat_le t l.cycle && reads_class g class l) ls (
        a.0,
        a.1,
        a.2,
        a.3,
        and_both (nat_le t a.1.cycle) (reads_class g class a.1) (le_true t a.1.cycle (omega arith))
            (and_right (nat_le u a.1.cycle) (reads_class g class a.1) a.4),
      )

  pub needed_before : (t u class : ℕ) → t ≤ u → is_needed g ls u class ≡ true → is_needed g ls t class ≡ true
  needed_before t u class le h =
      elim (or_cases (is_read_from g ls u class) (is_wanted g ls class) h) [
        | inl reads ↦ or_left (is_read_from g ls t class) (is_wanted g ls class) (read_before t u class le reads)
        | inr wanted ↦ or_right (is_read_from g ls t class) (is_wanted g ls class) wanted
      ]

  -- ---- what a launch holds

  pub holds_takes : (allocation : Allocation) (t : ℕ) (l : Launch) → holds g allocation ls t l ≡ true
      → takes_pool g l ≡ true
  holds_takes Block t l h = h
  holds_takes Live t l h =
      and_left (takes_pool g l) ((l.cycle == t) || (nat_lt l.cycle t && is_needed g ls t (class_at g l.row))) h

  pub holds_own : (l : Launch) (t : ℕ) → takes_pool g l ≡ true → l.cycle ≡ t → holds g Live ls t l ≡ true
  holds_own l t takes same =
      and_both (takes_pool g l) ((l.cycle == t) || (nat_lt l.cycle t && is_needed g ls t (class_at g l.row))) takes
      (or_left (l.cycle == t) (nat_lt l.cycle t && is_needed g ls t (class_at g l.row)) (number_same l.cycle t same))

  pub holds_later : (l : Launch) (t : ℕ) → takes_pool g l ≡ true → l.cycle < t
      → is_needed g ls t (class_at g l.row) ≡ true → holds g Live ls t l ≡ true
  holds_later l t takes less needed =
      and_both (takes_pool g l) ((l.cycle == t) || (nat_lt l.cycle t && is_needed g ls t (class_at g l.row))) takes
      (or_right (l.cycle == t) (nat_lt l.cycle t && is_needed g ls t (class_at g l.row))
      (and_both (nat_lt l.cycle t) (is_needed g ls t (class_at g l.row)) (lt_true l.cycle t less) needed))

  pub holds_cases : (t : ℕ) (l : Launch) → holds g Live ls t l ≡ true
      → (l.cycle ≡ t) ⊎ ((l.cycle < t) × (is_needed g ls t (class_at g l.row) ≡ true))
  holds_cases t l h =
      let needed = is_needed g ls t (class_at g l.row) in
      elim (or_cases (l.cycle == t) (nat_lt l.cycle t && needed)
      (and_right (takes_pool g l) ((l.cycle == t) || (nat_lt l.cycle t && needed)) h)) [
        | inl same ↦ inl (same_number l.cycle t same)
        | inr both ↦
            inr (true_lt l.cycle t (and_left (nat_lt l.cycle t) needed both), and_right (nat_lt l.cycle t) needed both)
      ]

  -- what is held at a cycle was held in each cycle before, from the launch on
  pub held_before : (t u : ℕ) (l : Launch) → l.cycle ≤ t → t ≤ u → holds g Live ls u l ≡ true
      → holds g Live ls t l ≡ true
  held_before t u l from le h =
      elim (holds_cases u l h) [
        | inl same ↦ (let e : l.cycle ≡ t = omega arith in holds_own l t (holds_takes Live u l h) e)
        | inr later ↦ by (one_of_two l.cycle t from)
            (λ e. holds_own l t (holds_takes Live u l h) e)
            (λ less. holds_later l t (holds_takes Live u l h) less (needed_before t u (class_at g l.row) le later.1))
      ]
    where
      one_of_two : (a b : ℕ) → a ≤ b → (a ≡ b) ⊎ (a < b)
      one_of_two a b h = grind arith

      by : {P Q R : Type 0} → P ⊎ Q → (P → R) → (Q → R) → R
      by (inl p) f k = f p
      by (inr q) f k = k q

-- ---- the order of the launches

module _ (g : LaunchGraph) (ls ys : List Launch) (p : IsPermutation ls ys) where
  read_permuted : (t class : ℕ) → is_read_from g ls t class ≡ is_read_from g ys t class
  read_permuted t class = list_any-IsPermutation (λ (l : Launch). nat_le t l.cycle && reads_class g class l) ls ys p

  intact_permuted : (r : ℕ) → is_intact g ls None r ≡ is_intact g ys None r
  intact_permuted r = ap not (list_any-IsPermutation (touches g None r) ls ys p)

  wanted_permuted : (class : ℕ) → is_wanted g ls class ≡ is_wanted g ys class
  wanted_permuted class =
      ap (λ (intact : ℕ → Bool). list_any (is_unpinned_of class)
      g.sets && (not (is_zero_class g class) && not (is_some (input_where g intact class))))
      (same_tests (is_intact g ls None) (is_intact g ys None) intact_permuted)

  needed_permuted : (t class : ℕ) → is_needed g ls t class ≡ is_needed g ys t class
  needed_permuted t class =
      ap (λ b. b || is_wanted g ls class) (read_permuted t class) ∙ ap (λ b. is_read_from g ys t class || b)
      (wanted_permuted class)

  pub holds_permuted : (allocation : Allocation) (t : ℕ) (l : Launch)
      → holds g allocation ls t l ≡ holds g allocation ys t l
  holds_permuted Block t l = refl
  holds_permuted Live t l =
      ap (λ b. takes_pool g l && ((l.cycle == t) || (nat_lt l.cycle t && b))) (needed_permuted t (class_at g l.row))

  counted : (test : Launch → Bool) → count_by test ys ≡ count_by test ls
  counted test = sum_by-IsPermutation (λ x. cond (test x) 1 0) ls ys p

  pub room_permuted : (allocation : Allocation) (k : ℕ) → HasRoom g allocation k ls → HasRoom g allocation k ys
  room_permuted Block k h = subst (λ n. n ≤ length g.pool) (sym (counted (takes_pool g))) h
  room_permuted Live k h =
      λ t lt. subst (λ n. n ≤ length g.pool)
      (ap (λ (test : Launch → Bool). count_by test ls)
      (same_tests (holds g Live ls t) (holds g Live ys t) (holds_permuted Live t)) ∙ sym (counted (holds g Live ys t)))
      (h t lt)
