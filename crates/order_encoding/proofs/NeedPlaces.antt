-- The variables of what is needed, by their places.
use Rattle.std.proofs.Common.{◌≡◌, ℕ, ◌+◌, ◌<◌, ◌≤◌, Bool, true, false, cond, List, ◌∷◌, ◌++◌, [], length, map, get_or, Option, Some, None, refl, sym, ap, ◌∙◌, subst, arith, inl, inr, length-append}
use Rattle.std.specs.Prelude.{◌==◌}
use Rattle.std.specs.List.{All, filter, flat_map, range_with_len}
use Rattle.std.proofs.lemmas.Bool.{cases_eq, eq-eqb, ne_eqb, and_from, and_left, and_right}
use Rattle.std.proofs.lemmas.List.{append-nil}
use Rattle.std.proofs.lemmas.List.Elements.{All-head, filter-append}
use Rattle.std.proofs.lemmas.List.FromFn.{length-map-range_with_len, get_or-map-range_with_len}
use Rattle.cnf_core.specs.declared.literal.Lit.{Lit}
use Rattle.cnf_core.specs.Formula.{IsLitOf}
use Rattle.cycle_encoding.specs.Shapes.{numbered, positive, vars_of}
use Rattle.cycle_encoding.proofs.Blocks.{vars-over}
use Rattle.cycle_encoding.proofs.Tables.{table_more}
use Rattle.cycle_encoding.proofs.Rows.{range_more}
use Rattle.cycle_encoding.proofs.Listed.{kept_more}
use Rattle.cycle_encoding.proofs.Places.{no-item, at-item, at-block, no-block, before-block}
use Rattle.order_encoding.specs.LiveVariables.{Need}
use Rattle.order_encoding.specs.LiveFamilies.{is_need_at}
use Rattle.order_encoding.specs.OrderSteps.{need_at, class_needs}

pub needs-size : (k c : ℕ) → length (class_needs k c) ≡ k
needs-size k c = length-map-range_with_len (need_at c) 0 k

-- ---- what is needed of classes that pass a test, before a class

module _ (P : ℕ → Bool) (k : ℕ) where
  abbrev pub needs_below : ℕ → ℕ
  needs_below class = length (flat_map (class_needs k) (filter P (range_with_len 0 class)))

  abbrev pub start_of : ℕ → Option ℕ
  start_of class = cond (P class) (Some (needs_below class)) None

  below-more : (class : ℕ) (b : Bool) → P class ≡ b → needs_below (class + 1) ≡ needs_below class + length (cond b (class_needs k class) [])
  below-more class b e =
      ap (λ (xs : List Need). length xs) (kept_more (class_needs k) P class b e)
      ∙ length-append (flat_map (class_needs k) (filter P (range_with_len 0 class))) (cond b (class_needs k class) [])

  pub needs_yes : (class : ℕ) → P class ≡ true → needs_below (class + 1) ≡ needs_below class + k
  needs_yes class e = below-more class true e ∙ ap (λ m. needs_below class + m) (needs-size k class)

  pub needs_no : (class : ℕ) → P class ≡ false → needs_below (class + 1) ≡ needs_below class
  needs_no class e = (let a = below-more class false e in let z : length {A = Need} [] ≡ 0 = refl in omega (arith, a, z))

  pooled-more : (class : ℕ) (b : Bool) → P class ≡ b → filter P (range_with_len 0 (class + 1)) ≡ filter P (range_with_len 0 class) ++ cond b (class ∷ []) []
  pooled-more class b e =
      ap (filter P) (range_more class) ∙ filter-append P (range_with_len 0 class) (class ∷ [])
      ∙ ap (λ c. filter P (range_with_len 0 class) ++ cond c (class ∷ []) []) e

  pub pooled_yes : (class : ℕ) → P class ≡ true → filter P (range_with_len 0 (class + 1)) ≡ filter P (range_with_len 0 class) ++ class ∷ []
  pooled_yes class e = pooled-more class true e

  pub pooled_no : (class : ℕ) → P class ≡ false → filter P (range_with_len 0 (class + 1)) ≡ filter P (range_with_len 0 class)
  pooled_no class e = pooled-more class false e ∙ append-nil (filter P (range_with_len 0 class))

  pub from_yes : (class start : ℕ) → P class ≡ true → start ≡ needs_below class → map start_of (range_with_len 0 (class + 1)) ≡ map start_of (range_with_len 0 class) ++ Some start ∷ []
  from_yes class start e s =
      table_more start_of class ∙ ap (λ b. map start_of (range_with_len 0 class) ++ cond b (Some (needs_below class)) None ∷ []) e
      ∙ ap (λ m. map start_of (range_with_len 0 class) ++ Some m ∷ []) (sym s)

  pub from_no : (class : ℕ) → P class ≡ false → map start_of (range_with_len 0 (class + 1)) ≡ map start_of (range_with_len 0 class) ++ None ∷ []
  from_no class e = table_more start_of class ∙ ap (λ b. map start_of (range_with_len 0 class) ++ cond b (Some (needs_below class)) None ∷ []) e

  -- ---- the table of starts
  module _ (n : ℕ) (starts : List (Option ℕ)) (is : starts ≡ map start_of (range_with_len 0 n)) where
    pub starts-size : length starts ≡ n
    starts-size = ap (λ (xs : List (Option ℕ)). length xs) is ∙ length-map-range_with_len start_of 0 n

    pub start-at : (class : ℕ) (d : Option ℕ) → class < length starts → get_or starts class d ≡ start_of class
    start-at class d lt = (let s = starts-size in ap (λ xs. get_or xs class d) is ∙ get_or-map-range_with_len start_of 0 n class class d (omega arith) (omega arith))

  -- ---- one class and cycle
  module _ (n first class cycle : ℕ) where
    abbrev T : Need → Bool
    T = is_need_at class cycle

    abbrev pub all : List Need
    all = flat_map (class_needs k) (filter P (range_with_len 0 n))

    abbrev pub need_vars : List Lit
    need_vars = vars_of T (numbered first all)

    other_cycle : (a : ℕ) → (a ≡ cycle → ⊥) → T (need_at class a) ≡ false
    other_cycle a ne = and_right (class == class) (a == cycle) (ne_eqb a cycle ne)

    other_class : (a : ℕ) → (a ≡ class → ⊥) → (m : ℕ) → vars_of T (numbered m (class_needs k a)) ≡ []
    other_class a ne m = no-item T k (need_at a) (λ b _. and_left (a == class) (b == cycle) (ne_eqb a class ne)) m k (omega arith)

    pub is-need : class < n → P class ≡ true → cycle < k → need_vars ≡ positive (first + needs_below class + cycle + 1) ∷ []
    is-need lc pc lt =
        at-block T class (class_needs k) P other_class first n lc pc
        ∙ at-item T cycle (need_at class) other_cycle (first + needs_below class) k lt (and_from (class == class) (cycle == cycle) (eq-eqb class class refl) (eq-eqb cycle cycle refl))

    pub no_need_class : P class ≡ false → [] ≡ need_vars
    no_need_class e = sym (no-block T class (class_needs k) P other_class first n e)

    pub no_late_need : n ≤ class → [] ≡ need_vars
    no_late_need le = sym (before-block T class (class_needs k) P other_class first n le)

    pub no_need_cycle : k ≤ cycle → [] ≡ need_vars
    no_need_cycle le =
        sym (before-block T n (class_needs k) P
        (λ a _ m. elim (cases_eq a class) [ inl e ↦ ap (λ a. vars_of T (numbered m (class_needs k a))) e ∙ no-item T cycle (need_at class) other_cycle m k le | inr ne ↦ other_class a ne m ])
        first n (omega arith))

    some_start : (start : ℕ) (b : Bool) → P class ≡ b → Some start ≡ cond b (Some (needs_below class)) None → (P class ≡ true) × (start ≡ needs_below class)
    some_start start true e h = (e, (let f : Some start ≡ Some (needs_below class) = h in cc))
    some_start start false e h = absurd (let f : Some start ≡ None = h in cc)

    none_start : (b : Bool) → P class ≡ b → None ≡ cond b (Some (needs_below class)) None → P class ≡ false
    none_start true e h = absurd (let f : None ≡ Some (needs_below class) = h in cc)
    none_start false e h = e

    pub start_tells : (start : ℕ) → Some start ≡ start_of class → P class ≡ true
    start_tells start h = (some_start start (P class) refl h).0

    pub none_tells : None ≡ start_of class → P class ≡ false
    none_tells h = none_start (P class) refl h

    module _ (start : ℕ) (at : Some start ≡ start_of class) (below : class < n) (lt : cycle < k) where
      known : (P class ≡ true) × (start ≡ needs_below class)
      known = some_start start (P class) refl at

      by_start : need_vars ≡ positive (first + start + cycle + 1) ∷ []
      by_start = is-need below known.0 lt ∙ ap (λ m. positive (first + m + cycle + 1) ∷ []) (sym known.1)

      pub need-is : positive (first + start + cycle + 1) ∷ [] ≡ need_vars
      need-is = sym by_start

      pub need-within : first + start + cycle + 1 ≤ first + length all
      need-within =
          let over = vars-over T first (first + length all) all (omega arith) in
          (All-head (IsLitOf (first + length all)) (positive (first + start + cycle + 1)) [] (subst (λ ls. All (IsLitOf (first + length all)) ls) by_start over)).within

    pub not-needed : None ≡ start_of class → [] ≡ need_vars
    not-needed e = no_need_class (none_tells e)
