-- The literals that an input's register isn't overwritten, set by set.
use Rattle.std.proofs.Common.{◌≡◌, ℕ, suc, ◌+◌, ◌*◌, ◌<◌, ◌≤◌, ◌^◌, Bool, true, false, cond, List, ◌∷◌, ◌++◌, [], length, map, take, get_or, refl, sym, ap, ◌∙◌, subst, arith}
use Rattle.std.specs.Prelude.{◌==◌}
use Rattle.std.specs.List.{All, filter, flat_map}
use Rattle.std.proofs.lemmas.Bool.{eq-eqb, ne_eqb, and_from, and_left, and_right}
use Rattle.std.proofs.lemmas.List.{append-nil, take_more, take_all, length-take, map-append}
use Rattle.std.proofs.lemmas.List.Elements.{filter-append, All-cons, All-nil}
use Rattle.std.proofs.lemmas.List.Concat.{flat_map-append}
use Rattle.std.proofs.lemmas.List.FromFn.{length-map-range_with_len}
use Rattle.cnf_core.specs.declared.literal.Lit.{Lit}
use Rattle.cnf_core.specs.Formula.{IsLitOf}
use Rattle.graph_meaning.specs.declared.graphs.LaunchGraph.{LaunchGraph}
use Rattle.cycle_encoding.specs.Shapes.{numbered, positive, negative, vars_of, negated}
use Rattle.cycle_encoding.specs.Variables.{Overwritten, all_overwritten}
use Rattle.cycle_encoding.specs.Families.{takes_input, is_lost}
use Rattle.cycle_encoding.specs.Steps.{AreOverwrittenVars, overwritten_at, set_overwritten}
use Rattle.cycle_encoding.proofs.Arities.{times_le}
use Rattle.cycle_encoding.proofs.Counting.{sum-same}
use Rattle.cycle_encoding.proofs.Tables.{grown}
use Rattle.cycle_encoding.proofs.Totals.{size-flat, sum-const}
use Rattle.cycle_encoding.proofs.Places.{no-item, at-item}
use Rattle.cycle_encoding.proofs.Walk.{numbered-append}

map-map : {X Y Z : Type 0} (f : Y → Z) (h : X → Y) (xs : List X) → map f (map h xs) ≡ map (λ x. f (h x)) xs
map-map f h [] = refl
map-map f h (x ∷ xs) = ap (λ ys. f (h x) ∷ ys) (map-map f h xs)

abbrev flipped : List Lit → List Lit
flipped ls = map (λ (l : Lit). negative l.var) ls

module _ {X : Type 0} (test : X → Bool) where
  negated-is : (ps : List (ℕ × X)) → negated test ps ≡ flipped (vars_of test ps)
  negated-is ps = sym (map-map (λ (l : Lit). negative l.var) (λ (p : ℕ × X). positive p.0) (filter (λ (p : ℕ × X). test p.1) ps))

  pub negated-append : (n : ℕ) (xs ys : List X) → negated test (numbered n (xs ++ ys)) ≡ negated test (numbered n xs) ++ negated test (numbered (n + length xs) ys)
  negated-append n xs ys =
      ap (negated test) (numbered-append n xs ys)
      ∙ ap (map (λ (p : ℕ × X). negative p.0)) (filter-append (λ (p : ℕ × X). test p.1) (numbered n xs) (numbered (n + length xs) ys))
      ∙ map-append (λ (p : ℕ × X). negative p.0) (filter (λ (p : ℕ × X). test p.1) (numbered n xs)) (filter (λ (p : ℕ × X). test p.1) (numbered (n + length xs) ys))

  step : (n m : ℕ) (x : X) (ps : List (ℕ × X)) (b : Bool) → 1 ≤ n → n ≤ m → All (IsLitOf m) (map (λ (p : ℕ × X). negative p.0) ps) → All (IsLitOf m) (map (λ (p : ℕ × X). negative p.0) (cond b ((n, x) ∷ ps) ps))
  step n m x ps true above within h = All-cons (IsLitOf m) (negative n) (map (λ (p : ℕ × X). negative p.0) ps) (record { above = above; within = within }) h
  step n m x ps false above within h = h

  pub negated-over : (n m : ℕ) (xs : List X) → n + length xs ≤ m → All (IsLitOf m) (negated test (numbered n xs))
  negated-over n m [] le = All-nil (IsLitOf m)
  negated-over n m (x ∷ xs) le =
      let size : length (x ∷ xs) ≡ suc (length xs) = refl in
      step (n + 1) m x (filter (λ p. test p.1) (numbered (n + 1) xs)) (test x) (omega arith) (omega (arith, size)) (negated-over (n + 1) m xs (omega (arith, size)))

-- of one set
module _ (g : LaunchGraph) (class cycle k set first : ℕ) where
  abbrev T : Overwritten → Bool
  T = is_lost g class cycle

  abbrev at : ℕ → Overwritten
  at t = overwritten_at set t

  others : (t : ℕ) → (t ≡ cycle → ⊥) → T (at t) ≡ false
  others t ne = and_right (takes_input g class set) (t == cycle) (ne_eqb t cycle ne)

  pub kept-late : k < cycle → [] ≡ negated T (numbered first (set_overwritten k set))
  kept-late lt = sym (negated-is T (numbered first (set_overwritten k set)) ∙ ap flipped (no-item T cycle at others first (k + 1) (omega arith)))

  pub kept-other : takes_input g class set ≡ false → [] ≡ negated T (numbered first (set_overwritten k set))
  kept-other e = sym (negated-is T (numbered first (set_overwritten k set)) ∙ ap flipped (no-item T (k + 1) at (λ t _. and_left (takes_input g class set) (t == cycle) e) first (k + 1) (omega arith)))

  pub lost-one : takes_input g class set ≡ true → cycle ≤ k → negative (first + cycle + 1) ∷ [] ≡ negated T (numbered first (set_overwritten k set))
  lost-one e le =
      sym (negated-is T (numbered first (set_overwritten k set))
      ∙ ap flipped (at-item T cycle at others first (k + 1) (omega arith) (and_from (takes_input g class set) (cycle == cycle) e (eq-eqb cycle cycle refl))))

-- of all sets
pub overwritten-size : (k : ℕ) (sets : List ℕ) → length (flat_map (set_overwritten k) sets) ≡ length sets * (k + 1)
overwritten-size k sets =
    size-flat (set_overwritten k) sets
    ∙ sum-same (λ j. length (set_overwritten k j)) (λ j. k + 1) sets (λ j. length-map-range_with_len (overwritten_at j) 0 (k + 1))
    ∙ sum-const (k + 1) sets

pub lost-more : (test : Overwritten → Bool) (k first : ℕ) (sets : List ℕ) (i d : ℕ) → i < length sets → negated test (numbered first (flat_map (set_overwritten k) (take (i + 1) sets))) ≡ negated test (numbered first (flat_map (set_overwritten k) (take i sets))) ++ negated test (numbered (first + i * (k + 1)) (set_overwritten k (get_or sets i d)))
lost-more test k first sets i d lt =
    let before = flat_map (set_overwritten k) (take i sets) in
    let last = set_overwritten k (get_or sets i d) in
    let count : length (take i sets) ≡ i = omega (arith, length-take i sets) in
    let size : first + length before ≡ first + i * (k + 1) = ap (λ n. first + n) (overwritten-size k (take i sets) ∙ ap (λ n. n * (k + 1)) count) in
    let split : flat_map (set_overwritten k) (take (i + 1) sets) ≡ before ++ last =
    ap (flat_map (set_overwritten k)) (take_more sets i d lt) ∙ flat_map-append (set_overwritten k) (take i sets) (get_or sets i d ∷ []) ∙ ap (λ ys. before ++ ys) (append-nil last) in
    ap (λ ys. negated test (numbered first ys)) split
    ∙ negated-append test first before last
    ∙ ap (λ n. negated test (numbered first before) ++ negated test (numbered n last)) size

-- in one pass over the sets
module _ (g : LaunchGraph) (k first : ℕ) (sets : List ℕ) (are : AreOverwrittenVars g k first sets) where
  abbrev lost : (Overwritten → Bool) → ℕ → List Lit
  lost test n = negated test (numbered first (flat_map (set_overwritten k) (take n sets)))

  pub lost-step : (test : Overwritten → Bool) (items : List ℕ) (i d at : ℕ) (old mid new : List Lit) → items ≡ sets → i < length items → at ≡ first + i * (k + 1) → mid ≡ old ++ lost test i → new ≡ mid ++ negated test (numbered at (set_overwritten k (get_or items i d))) → new ≡ old ++ lost test (i + 1)
  lost-step test items i d at old mid new same lt ea em en =
      let more = lost-more test k first sets i d (subst (λ (xs : List ℕ). i < length xs) same lt) in
      grown old mid new (negated test (numbered (first + i * (k + 1)) (set_overwritten k (get_or sets i d)))) (lost test i) (lost test (i + 1)) em
      (en ∙ ap (λ (n : ℕ). mid ++ negated test (numbered n (set_overwritten k (get_or items i d)))) ea ∙ ap (λ (xs : List ℕ). mid ++ negated test (numbered (first + i * (k + 1)) (set_overwritten k (get_or xs i d)))) same)
      more

  pub lost-all : (test : Overwritten → Bool) (n : ℕ) → length sets ≤ n → lost test n ≡ negated test (numbered first (all_overwritten g k))
  lost-all test n le = ap (λ (xs : List ℕ). negated test (numbered first (flat_map (set_overwritten k) xs))) (take_all n sets le ∙ are.sets_are)

  pub variables : first + length sets * (k + 1) < 2 ^ 29
  variables =
      let size = ap (λ (xs : List ℕ). length (flat_map (set_overwritten k) xs)) (sym are.sets_are) ∙ overwritten-size k sets in
      let few = are.few in
      omega arith

  pub place-within : (i : ℕ) → i < length sets → first + i * (k + 1) + k + 1 < 2 ^ 29
  place-within i lt =
      let all = variables in
      let part : (i + 1) * (k + 1) ≤ length sets * (k + 1) = times_le (i + 1) (length sets) (k + 1) (omega arith) in
      let split : (i + 1) * (k + 1) ≡ i * (k + 1) + (k + 1) = omega arith in
      omega arith

  pub place-small : (i : ℕ) → i < length sets → i < 2 ^ 29
  place-small i lt =
      let all = variables in
      let split : length sets * (k + 1) ≡ length sets * k + length sets = omega arith in
      omega arith
