-- Which rows make a class, one row more at a time; and what stands in the lists of classes.
use Rattle.std.proofs.Common.{◌≡◌, ℕ, suc, ◌+◌, ◌-◌, ◌<◌, ◌≤◌, Bool, true, false, cond, List, [], ◌∷◌, ◌++◌, length, get_or, map, refl, sym, ap, ◌∙◌, arith, inl, inr, Option, Some, None}
use Rattle.std.specs.Prelude.{◌==◌, ◌&&◌, ◌||◌, not, nat_lt, slice_get}
use Rattle.std.specs.Option.{option_map_or}
use Rattle.std.specs.List.{filter, list_all, range_with_len}
use Rattle.std.proofs.lemmas.Bool.{cases_Bool, and_parts, and_left, and_right, eqb-true, ne_eqb, ltb-true, ltb-false, lt-ltb}
use Rattle.std.proofs.lemmas.List.{append-nil}
use Rattle.std.proofs.lemmas.List.Elements.{filter-append}
use Rattle.std.proofs.lemmas.List.FromFn.{length-map-range_with_len, get_or-map-range_with_len}
use Rattle.std.proofs.lemmas.Option.{slice_get_past}
use Rattle.machine_table.specs.declared.tables.InstrKind.{InstrKind}
use Rattle.graph_meaning.specs.declared.graphs.LaunchGraph.{LaunchGraph}
use Rattle.graph_meaning.specs.declared.graphs.SetClass.{SetClass}
use Rattle.graph_meaning.specs.WellFormed.{next_class}
use Rattle.schedule_meaning.specs.Launches.{class_at, copied_at, copy_operands, guard_operands, instr_at, memory_class_at}
use Rattle.schedule_meaning.specs.Launches.{operands_at, pinned_class, row_operands}
use Rattle.schedule_meaning.specs.declared.schedules.Operand.{Operand}
use Rattle.cycle_encoding.specs.Counts.{row_is}
use Rattle.cycle_encoding.specs.Facts.{classes_among}
use Rattle.cycle_encoding.specs.Families.{is_free}
use Rattle.cycle_encoding.specs.Narrow.{accesses}
use Rattle.cycle_encoding.specs.Steps.{put_at}
use Rattle.cycle_encoding.specs.Variables.{classes_of, row_numbers}
use Rattle.cycle_encoding.proofs.Marking.{and_true}
use Rattle.cycle_encoding.proofs.Rows.{range_more}
use Rattle.cycle_encoding.proofs.PinnedRows.{within}
use Rattle.cycle_encoding.proofs.Sorted.{put_more, put_none}
use Rattle.slot_capacity.specs.Makers.{can_come, has, makers_of, makes_own, reads_of}
use Rattle.slot_capacity.specs.MakersSteps.{AreMakers, always_among}
use Rattle.slot_capacity.specs.declared.spans.Span.{Span}
use Rattle.slot_capacity.proofs.Loops.{none-pass}

-- ---- numbers in lists

has_by : (p : ℕ → Bool) (y x : ℕ) (xs : List ℕ) (b : Bool) → p y ≡ b → has (filter p xs) x ≡ (p x && has xs x)
    → has (cond b (y ∷ filter p xs) (filter p xs)) x ≡ (p x && ((y == x) || has xs x))
has_by p y x xs true e h = elim (cases_Bool (y == x)) [
  | inl same ↦ (
      let px : p x ≡ true = ap p (sym (eqb-true y x same)) ∙ e in
      ap (λ b. b || has (filter p xs) x) same ∙ sym
      (ap (λ b. b && ((y == x) || has xs x)) px ∙ ap (λ b. b || has xs x) same))
  | inr other ↦ ap (λ b. b || has (filter p xs) x) other ∙ h ∙ sym (ap (λ b. p x && (b || has xs x)) other)
]
has_by p y x xs false e h = elim (cases_Bool (y == x)) [
  | inl same ↦ (
      let px : p x ≡ false = ap p (sym (eqb-true y x same)) ∙ e in
      h ∙ and_left (p x) (has xs x) px ∙ sym (and_left (p x) ((y == x) || has xs x) px))
  | inr other ↦ h ∙ sym (ap (λ b. p x && (b || has xs x)) other)
]

-- a number stands among those that pass where it passes and stands in the list
pub has-filter : (p : ℕ → Bool) (xs : List ℕ) (x : ℕ) → has (filter p xs) x ≡ (p x && has xs x)
has-filter p [] x = sym (and_right (p x) false refl)
has-filter p (y ∷ xs) x = has_by p y x xs (p y) refl (has-filter p xs x)

pub map-of-map : {A B C : Type 0} (f : B → C) (h : A → B) (xs : List A) → map f (map h xs) ≡ map (λ x. f (h x)) xs
map-of-map f h [] = refl
map-of-map f h (x ∷ xs) = ap (λ ys. f (h x) ∷ ys) (map-of-map f h xs)

-- ---- what rows read

module _ (g : LaunchGraph) where
  -- a number behind all rows reads nothing
  pub past-reads : (row : ℕ) → length g.rows + 1 + length g.sets ≤ row → reads_of g row ≡ []
  past-reads row le =
      ap (λ (os : List Operand). classes_among (λ o. not (is_free g o)) os ++ memory_of (row_is g accesses row))
      no_operands
      ∙ ap memory_of (no_instr (instr_at g row) refl)
    where
      memory_of : Bool → List ℕ
      memory_of b = cond b (memory_class_at g row ∷ []) []

      same : (b : Bool) → cond {A = Option ℕ} b None None ≡ None
      same true = refl
      same false = refl

      no_copy : copied_at g row ≡ None
      no_copy =
          ap (λ (o : Option SetClass). cond (nat_lt (length g.rows) row) (pinned_class o) None)
          (slice_get_past g.sets (row - (length g.rows + 1)) (omega arith))
          ∙ same (nat_lt (length g.rows) row)

      no_operands : operands_at g row ≡ []
      no_operands =
          ap (λ b. cond b (guard_operands g.guard)
          (option_map_or copy_operands (copied_at g row) (row_operands (slice_get g.rows row))))
          (ne_eqb row (length g.rows) (λ e. absurd (omega arith)))
          ∙ ap (λ o. option_map_or copy_operands o (row_operands (slice_get g.rows row))) no_copy
          ∙ ap row_operands (slice_get_past g.rows row (omega arith))

      no_instr : (o : Option InstrKind) → instr_at g row ≡ o → option_map_or accesses o false ≡ false
      no_instr None e = refl
      no_instr (Some i) e = (let w = within g row i e in absurd (omega arith))

  module _ (kept : List (List ℕ)) (is : kept ≡ map (reads_of g) (row_numbers g)) where
    size : length kept ≡ length g.rows + 1 + length g.sets
    size =
        ap (λ (xs : List (List ℕ)). length xs) is
        ∙ length-map-range_with_len (reads_of g) 0 (length g.rows + 1 + length g.sets)

    pub reads-found : (row : ℕ) (xs d : List ℕ) → true ≡ nat_lt row (length kept) → xs ≡ get_or kept row d
        → xs ≡ reads_of g row
    reads-found row xs d lt e =
        let n = size in
        let inside : row < length kept = ltb-true row (length kept) (sym lt) in
        e ∙ ap (λ (ys : List (List ℕ)). get_or ys row d) is
        ∙ get_or-map-range_with_len (reads_of g) 0 (length g.rows + 1 + length g.sets) row row d (omega arith)
        (omega arith)

    pub reads-past : (row : ℕ) → false ≡ nat_lt row (length kept) → [] ≡ reads_of g row
    reads-past row ge = sym (past-reads row (let n = size in let past = ltb-false row (length kept) (sym ge) in
        omega arith))

-- ---- one row more

module _ (g : LaunchGraph) (spans : List (Option Span)) (n row : ℕ) (mid new : List (List ℕ)) where
  abbrev makes : ℕ → Bool
  makes row = makes_own g row && can_come spans row

  abbrev up_to : ℕ → ℕ → List ℕ
  up_to m class = filter (λ row. (class_at g row == class) && makes row) (range_with_len 0 m)

  up_to_more : (class : ℕ)
      → up_to (row + 1) class ≡ up_to row class ++ cond ((class_at g row == class) && makes row) (row ∷ []) []
  up_to_more class =
      ap (filter (λ row. (class_at g row == class) && makes row)) (range_more row)
      ∙ filter-append (λ row. (class_at g row == class) && makes row) (range_with_len 0 row) (row ∷ [])

  put : (b : Bool) → makes row ≡ b → mid ≡ map (up_to row) (range_with_len 0 n)
      → new ≡ cond b (put_at mid (class_at g row) row) mid → new ≡ map (up_to (row + 1)) (range_with_len 0 n)
  put true e is p =
      p ∙ ap (λ (xs : List (List ℕ)). put_at xs (class_at g row) row) is
      ∙ put_more (up_to row) (up_to (row + 1)) n (class_at g row) row
      (λ class. up_to_more class
      ∙ ap (λ c. up_to row class ++ cond ((class_at g row == class) && c) (row ∷ []) []) e
      ∙ ap (λ c. up_to row class ++ cond c (row ∷ []) []) (and_true (class_at g row == class)))
  put false e is p =
      p ∙ is
      ∙ put_none (up_to row) (up_to (row + 1)) n 0 row
      (λ class. up_to_more class
      ∙ ap (λ c. up_to row class ++ cond ((class_at g row == class) && c) (row ∷ []) []) e
      ∙ ap (λ c. up_to row class ++ cond c (row ∷ []) []) (and_right (class_at g row == class) false refl)
      ∙ append-nil (up_to row class))

  pub maker-put : mid ≡ map (up_to row) (range_with_len 0 n)
      → new ≡ cond (makes row) (put_at mid (class_at g row) row) mid → new ≡ map (up_to (row + 1)) (range_with_len 0 n)
  maker-put = put (makes row) refl

-- ---- what is kept of a class

module _ (g : LaunchGraph) (spans : List (Option Span)) (rows always : List (List ℕ))
    (are : AreMakers g spans rows always)
  where
    -- a class that the graph hasn't is made by none
    pub none-makes : (class : ℕ) → next_class g.rows ≤ class → makers_of g spans class ≡ []
    none-makes class le =
        none-pass (λ row. (class_at g row == class) && (makes_own g row && can_come spans row)) (row_numbers g)
        (λ row h. elim (cases_Bool ((class_at g row == class) && (makes_own g row && can_come spans row))) [
          | inl t ↦ (
              let p = and_parts (class_at g row == class) (makes_own g row && can_come spans row) t in
              let q = and_parts (makes_own g row) (can_come spans row) p.1 in
              let low = are.low row q.0 q.1 in
              let same = eqb-true (class_at g row) class p.0 in
              absurd (omega arith))
          | inr f ↦ f
        ])

    module _ (kept : List (List ℕ)) (of : ℕ → List ℕ) (is : kept ≡ map of (classes_of g)) where
      long : length kept ≡ next_class g.rows
      long = ap (λ (xs : List (List ℕ)). length xs) is ∙ length-map-range_with_len of 0 (next_class g.rows)

      -- what is found at a class is its list
      pub found-is : (class : ℕ) (xs d : List ℕ) → true ≡ nat_lt class (length kept) → xs ≡ get_or kept class d
          → xs ≡ of class
      found-is class xs d lt e =
          let size = long in
          let inside : class < length kept = ltb-true class (length kept) (sym lt) in
          e ∙ ap (λ (ys : List (List ℕ)). get_or ys class d) is
          ∙ get_or-map-range_with_len of 0 (next_class g.rows) class class d (omega arith) (omega arith)

      -- and where none is found, the graph hasn't the class
      pub past-is : (class : ℕ) → false ≡ nat_lt class (length kept) → next_class g.rows ≤ class
      past-is class ge = (let size = long in let past = ltb-false class (length kept) (sym ge) in omega arith)

    -- ---- what is always read

    all_first : (row : ℕ) (rows : List ℕ) (c : ℕ)
        → (list_all (λ r. has (reads_of g r) c) (row ∷ rows) && has (reads_of g row) c)
        ≡ list_all (λ r. has (reads_of g r) c) (row ∷ rows)
    all_first row rows c = twice (has (reads_of g row) c) (list_all (λ r. has (reads_of g r) c) rows)
      where
        twice : (a b : Bool) → ((a && b) && a) ≡ (a && b)
        twice true b = and_true b
        twice false b = refl

    pub among-all : (rows : List ℕ) (other : ℕ) → has (always_among g rows) other
        ≡ (nat_lt 0 (length rows) && list_all (λ r. has (reads_of g r) other) rows)
    among-all [] other = refl
    among-all (row ∷ rows) other =
        has-filter (λ class. list_all (λ r. has (reads_of g r) class) (row ∷ rows)) (reads_of g row) other
        ∙ all_first row rows other
        ∙ sym (ap (λ b. b && list_all (λ r. has (reads_of g r) other) (row ∷ rows))
        (lt-ltb 0 (length (row ∷ rows)) (let s : length (row ∷ rows) ≡ length rows + 1 = add_one in omega arith)))
      where
        add_one : length (row ∷ rows) ≡ length rows + 1
        add_one = (let s : length (row ∷ rows) ≡ suc (length rows) = refl in omega arith)
