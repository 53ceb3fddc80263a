-- The variables of what is held, by their places.
use Rattle.std.proofs.Common.{◌≡◌, ℕ, ◌+◌, ◌<◌, ◌≤◌, Bool, true, false, cond, List, ◌∷◌, ◌++◌, [], length, map, take, get_or, Option, Some, None, refl, sym, ap, ◌∙◌, subst, arith, inl, inr, length-append}
use Rattle.std.specs.Prelude.{◌==◌}
use Rattle.std.specs.List.{All, filter, range_with_len}
use Rattle.std.proofs.lemmas.Bool.{cases_eq, eq-eqb, ne_eqb, and_from, and_left, and_right}
use Rattle.std.proofs.lemmas.List.{append-nil}
use Rattle.std.proofs.lemmas.List.Elements.{All-head, filter-append}
use Rattle.std.proofs.lemmas.List.FromFn.{length-map-range_with_len, get_or-map-range_with_len}
use Rattle.cnf_core.specs.declared.literal.Lit.{Lit}
use Rattle.cnf_core.specs.Formula.{IsLitOf}
use Rattle.graph_meaning.specs.WellFormed.{next_class}
use Rattle.graph_meaning.specs.declared.graphs.LaunchGraph.{LaunchGraph}
use Rattle.cycle_encoding.specs.Shapes.{numbered, positive, vars_of, implied}
use Rattle.cycle_encoding.specs.Steps.{of_thing}
use Rattle.cycle_encoding.proofs.Blocks.{vars-over}
use Rattle.cycle_encoding.proofs.Tables.{table_more}
use Rattle.cycle_encoding.proofs.Rows.{range_more}
use Rattle.cycle_encoding.proofs.Listed.{kept_more}
use Rattle.cycle_encoding.proofs.Places.{no-item, at-item, at-block, no-block, before-block}
use Rattle.order_encoding.specs.OrderVariables.{Held, all_held, is_memory_class}
use Rattle.order_encoding.specs.OrderFamilies.{is_held_at}
use Rattle.order_encoding.specs.OrderSteps.{AreHeldVars, held_at, class_held, classes_held, held_before}
use Rattle.order_encoding.proofs.Grid.{blocks-size, blocks-clauses, blocks-vars, at-clause}

pub class-size : (n c : ℕ) → length (class_held n c) ≡ n
class-size n c = length-map-range_with_len (held_at c) 0 n

-- ---- what is held before a class

module _ (g : LaunchGraph) (n : ℕ) where
  abbrev pub held_below : ℕ → ℕ
  held_below class = length (classes_held n (filter (is_memory_class g) (range_with_len 0 class)))

  below-more : (class : ℕ) (b : Bool) → is_memory_class g class ≡ b → held_below (class + 1) ≡ held_below class + length (cond b (class_held n class) [])
  below-more class b e =
      ap (λ (xs : List Held). length xs) (kept_more (class_held n) (is_memory_class g) class b e)
      ∙ length-append (classes_held n (filter (is_memory_class g) (range_with_len 0 class))) (cond b (class_held n class) [])

  pub below_yes : (class : ℕ) → is_memory_class g class ≡ true → held_below (class + 1) ≡ held_below class + n
  below_yes class e = below-more class true e ∙ ap (λ m. held_below class + m) (class-size n class)

  pub below_no : (class : ℕ) → is_memory_class g class ≡ false → held_below (class + 1) ≡ held_below class
  below_no class e = (let a = below-more class false e in let z : length {A = Held} [] ≡ 0 = refl in omega (arith, a, z))

  classes-more : (class : ℕ) (b : Bool) → is_memory_class g class ≡ b → filter (is_memory_class g) (range_with_len 0 (class + 1)) ≡ filter (is_memory_class g) (range_with_len 0 class) ++ cond b (class ∷ []) []
  classes-more class b e =
      ap (filter (is_memory_class g)) (range_more class) ∙ filter-append (is_memory_class g) (range_with_len 0 class) (class ∷ [])
      ∙ ap (λ c. filter (is_memory_class g) (range_with_len 0 class) ++ cond c (class ∷ []) []) e

  pub classes_yes : (class : ℕ) → is_memory_class g class ≡ true → filter (is_memory_class g) (range_with_len 0 (class + 1)) ≡ filter (is_memory_class g) (range_with_len 0 class) ++ class ∷ []
  classes_yes class e = classes-more class true e

  pub classes_no : (class : ℕ) → is_memory_class g class ≡ false → filter (is_memory_class g) (range_with_len 0 (class + 1)) ≡ filter (is_memory_class g) (range_with_len 0 class)
  classes_no class e = classes-more class false e ∙ append-nil (filter (is_memory_class g) (range_with_len 0 class))

  pub starts_yes : (class start : ℕ) → is_memory_class g class ≡ true → start ≡ held_below class → map (held_before g n) (range_with_len 0 (class + 1)) ≡ map (held_before g n) (range_with_len 0 class) ++ Some start ∷ []
  starts_yes class start e s =
      table_more (held_before g n) class ∙ ap (λ b. map (held_before g n) (range_with_len 0 class) ++ cond b (Some (held_below class)) None ∷ []) e
      ∙ ap (λ m. map (held_before g n) (range_with_len 0 class) ++ Some m ∷ []) (sym s)

  pub starts_no : (class : ℕ) → is_memory_class g class ≡ false → map (held_before g n) (range_with_len 0 (class + 1)) ≡ map (held_before g n) (range_with_len 0 class) ++ None ∷ []
  starts_no class e = table_more (held_before g n) class ∙ ap (λ b. map (held_before g n) (range_with_len 0 class) ++ cond b (Some (held_below class)) None ∷ []) e

-- ---- one class and cycle

module _ (g : LaunchGraph) (k first class cycle : ℕ) where
  abbrev T : Held → Bool
  T = is_held_at class cycle

  other_cycle : (a : ℕ) → (a ≡ cycle → ⊥) → T (held_at class a) ≡ false
  other_cycle a ne = and_right (class == class) (a == cycle) (ne_eqb a cycle ne)

  other_class : (a : ℕ) → (a ≡ class → ⊥) → (m : ℕ) → vars_of T (numbered m (class_held (k + 1) a)) ≡ []
  other_class a ne m = no-item T (k + 1) (held_at a) (λ b _. and_left (a == class) (b == cycle) (ne_eqb a class ne)) m (k + 1) (omega arith)

  abbrev pub held_vars : List Lit
  held_vars = vars_of T (numbered first (all_held g k))

  is-held : class < next_class g.rows → is_memory_class g class ≡ true → cycle ≤ k → held_vars ≡ positive (first + held_below g (k + 1) class + cycle + 1) ∷ []
  is-held lc mc le =
      at-block T class (class_held (k + 1)) (is_memory_class g) other_class first (next_class g.rows) lc mc
      ∙ at-item T cycle (held_at class) other_cycle (first + held_below g (k + 1) class) (k + 1) (omega arith) (and_from (class == class) (cycle == cycle) (eq-eqb class class refl) (eq-eqb cycle cycle refl))

  pub no_held_class : is_memory_class g class ≡ false → [] ≡ held_vars
  no_held_class e = sym (no-block T class (class_held (k + 1)) (is_memory_class g) other_class first (next_class g.rows) e)

  pub no_late_class : next_class g.rows ≤ class → [] ≡ held_vars
  no_late_class le = sym (before-block T class (class_held (k + 1)) (is_memory_class g) other_class first (next_class g.rows) le)

  pub no_held_cycle : k < cycle → [] ≡ held_vars
  no_held_cycle lt =
      sym (before-block T (next_class g.rows) (class_held (k + 1)) (is_memory_class g)
      (λ a _ m. elim (cases_eq a class) [ inl e ↦ ap (λ a. vars_of T (numbered m (class_held (k + 1) a))) e ∙ no-item T cycle (held_at class) other_cycle m (k + 1) (omega arith) | inr ne ↦ other_class a ne m ])
      first (next_class g.rows) (omega arith))

  -- by how many are held of smaller classes
  abbrev before : Option ℕ
  before = held_before g (k + 1) class

  some_before : (start : ℕ) (b : Bool) → is_memory_class g class ≡ b → Some start ≡ cond b (Some (held_below g (k + 1) class)) None → (is_memory_class g class ≡ true) × (start ≡ held_below g (k + 1) class)
  some_before start true e h = (e, (let f : Some start ≡ Some (held_below g (k + 1) class) = h in cc))
  some_before start false e h = absurd (let f : Some start ≡ None = h in cc)

  none_before : (b : Bool) → is_memory_class g class ≡ b → None ≡ cond b (Some (held_below g (k + 1) class)) None → is_memory_class g class ≡ false
  none_before true e h = absurd (let f : None ≡ Some (held_below g (k + 1) class) = h in cc)
  none_before false e h = e

  module _ (start : ℕ) (at : Some start ≡ before) (below : class < next_class g.rows) (le : cycle ≤ k) where
    known : (is_memory_class g class ≡ true) × (start ≡ held_below g (k + 1) class)
    known = some_before start (is_memory_class g class) refl at

    by_start : held_vars ≡ positive (first + start + cycle + 1) ∷ []
    by_start = is-held below known.0 le ∙ ap (λ m. positive (first + m + cycle + 1) ∷ []) (sym known.1)

    pub held-is : positive (first + start + cycle + 1) ∷ [] ≡ held_vars
    held-is = sym by_start

    pub held-within : first + start + cycle + 1 ≤ first + length (all_held g k)
    held-within =
        let over = vars-over T first (first + length (all_held g k)) (all_held g k) (omega arith) in
        (All-head (IsLitOf (first + length (all_held g k))) (positive (first + start + cycle + 1)) [] (subst (λ ls. All (IsLitOf (first + length (all_held g k))) ls) by_start over)).within

  pub not-held : None ≡ before → [] ≡ held_vars
  not-held e = no_held_class (none_before (is_memory_class g class) refl e)

-- the table of starts
module _ (g : LaunchGraph) (k : ℕ) (classes : List ℕ) (starts : List (Option ℕ)) (is : AreHeldVars g k classes starts) where
  pub starts-size : length starts ≡ next_class g.rows
  starts-size = ap (λ (xs : List (Option ℕ)). length xs) is.starts_are ∙ length-map-range_with_len (held_before g (k + 1)) 0 (next_class g.rows)

  pub start-at : (class : ℕ) (d : Option ℕ) → class < length starts → get_or starts class d ≡ held_before g (k + 1) class
  start-at class d lt = (let s = starts-size in ap (λ xs. get_or xs class d) is.starts_are ∙ get_or-map-range_with_len (held_before g (k + 1)) 0 (next_class g.rows) class class d (omega arith) (omega arith))

  -- their classes
  pub held-classes : classes_held (k + 1) classes ≡ all_held g k
  held-classes = ap (classes_held (k + 1)) is.classes_are

-- ---- what is held in one cycle, class by class

module _ (k first cycle : ℕ) (cs : List ℕ) (i d : ℕ) (lt : i < length cs) (le : cycle ≤ k) where
  abbrev pub place : ℕ
  place = length (classes_held (k + 1) (take i cs))

  pub place-more : length (classes_held (k + 1) (take (i + 1) cs)) ≡ place + (k + 1)
  place-more = blocks-size (class_held (k + 1)) (k + 1) (class-size (k + 1)) cs i d lt

  pub cycle-vars : vars_of (λ (m : Held). m.cycle == cycle) (numbered first (classes_held (k + 1) (take (i + 1) cs))) ≡ vars_of (λ (m : Held). m.cycle == cycle) (numbered first (classes_held (k + 1) (take i cs))) ++ positive (first + place + cycle + 1) ∷ []
  cycle-vars =
      blocks-vars (class_held (k + 1)) (k + 1) (class-size (k + 1)) (λ (m : Held). m.cycle == cycle) first cs i d lt
      ∙ ap (λ ys. vars_of (λ (m : Held). m.cycle == cycle) (numbered first (classes_held (k + 1) (take i cs))) ++ ys)
      (at-item (λ (m : Held). m.cycle == cycle) cycle (held_at (get_or cs i d)) (λ a ne. ne_eqb a cycle ne) (first + place) (k + 1) (omega arith) (eq-eqb cycle cycle refl))

  pub cycle-clauses : (F : Held → List (List Lit)) → ((c a : ℕ) → (a ≡ cycle → ⊥) → F (held_at c a) ≡ []) → implied (numbered first (classes_held (k + 1) (take (i + 1) cs))) F ≡ implied (numbered first (classes_held (k + 1) (take i cs))) F ++ of_thing (first + place + cycle + 1) (F (held_at (get_or cs i d) cycle))
  cycle-clauses F others =
      blocks-clauses (class_held (k + 1)) (k + 1) (class-size (k + 1)) F first cs i d lt
      ∙ ap (λ ys. implied (numbered first (classes_held (k + 1) (take i cs))) F ++ ys)
      (at-clause F cycle (held_at (get_or cs i d)) (others (get_or cs i d)) (first + place) (k + 1) (omega arith))
