-- Clauses of what is needed, one operand, class and target more at a time.
use Rattle.std.proofs.Common.{◌≡◌, ℕ, zero, suc, ◌+◌, ◌-◌, ◌<◌, ◌≤◌, ◌^◌, Bool, true, false, cond, List, ◌∷◌, ◌++◌, [], length, map, take, drop, get_or, refl, sym, ap, ◌∙◌, subst, arith, length-append}
use Rattle.std.specs.Prelude.{◌==◌, ◌&&◌, ◌||◌, not, Contains, slice_get}
use Rattle.std.specs.List.{filter, flat_map, list_any, range_with_len}
use Rattle.std.proofs.lemmas.Bool.{eq-eqb, ne_eqb, and_from, and_left, and_right}
use Rattle.std.proofs.lemmas.List.{take_more, take-append-drop, take_all, map-append}
use Rattle.std.proofs.lemmas.List.Elements.{filter-append, Contains-get_or}
use Rattle.std.proofs.lemmas.List.Concat.{flat_map-append}
use Rattle.cnf_core.specs.declared.literal.Lit.{Lit}
use Rattle.cnf_core.specs.Formula.{Formula}
use Rattle.graph_meaning.specs.declared.graphs.LaunchGraph.{LaunchGraph}
use Rattle.schedule_meaning.specs.Launches.{class_at, takes_pool}
use Rattle.schedule_meaning.specs.declared.schedules.Launch.{Launch}
use Rattle.cycle_encoding.specs.Shapes.{numbered, positive, negative, vars_of, implied, when}
use Rattle.cycle_encoding.specs.Steps.{of_thing, with_clauses}
use Rattle.cycle_encoding.specs.Facts.{class_marked, one_or_none}
use Rattle.cycle_encoding.specs.Families.{is_free}
use Rattle.cycle_encoding.proofs.Tables.{get_some}
use Rattle.schedule_meaning.specs.declared.schedules.Operand.{Operand}
use Rattle.cycle_encoding.proofs.Adding.{added, size-with, with-none}
use Rattle.cycle_encoding.proofs.Marking.{mark_step}
use Rattle.cycle_encoding.proofs.Members.{NoTwice}
use Rattle.cycle_encoding.proofs.Places.{no-item, at-item}
use Rattle.cycle_encoding.proofs.Sorted.{map_same}
use Rattle.cycle_encoding.proofs.Walk.{vars-append}
use Rattle.order_encoding.specs.LiveVariables.{Need, pools, is_pooled}
use Rattle.order_encoding.specs.LiveFamilies.{is_need_at, is_pooled_operand, operands_needed, was_needed}
use Rattle.order_encoding.specs.OrderSteps.{need_at, class_needs, needed_before}
use Rattle.order_encoding.proofs.AddSteps.{of-append}
use Rattle.order_encoding.proofs.Grid.{length-of, blocks-clauses, blocks-size, implied-append}
use Rattle.std.proofs.lemmas.List.FromFn.{length-map-range_with_len, map-range_with_len_more}
use Rattle.order_encoding.proofs.NeedPlaces.{needs-size}

-- ---- which classes are pooled

pub any-numbered : {X : Type 0} (test : X → Bool) (n : ℕ) (xs : List X) → list_any (λ (p : ℕ × X). test p.1) (numbered n xs) ≡ list_any test xs
any-numbered test n [] = refl
any-numbered test n (x ∷ xs) = ap (λ b. test x || b) (any-numbered test (n + 1) xs)

pub and_swap : (a b : Bool) → (a && b) ≡ (b && a)
and_swap true true = refl
and_swap true false = refl
and_swap false true = refl
and_swap false false = refl

module _ (g : LaunchGraph) (n : ℕ) (ls : List Launch) where
  abbrev pub pooled_by : ℕ → List Bool
  pooled_by i = map (λ c. list_any (λ x. pools g c x) (take i ls)) (range_with_len 0 n)

  pub pooled_step : (i : ℕ) (d : Launch) (class : ℕ) (passes : Bool) (mid new : List Bool) → i < length ls → class ≡ class_at g (get_or ls i d).row → passes ≡ takes_pool g (get_or ls i d) → mid ≡ pooled_by i → new ≡ class_marked mid class passes → new ≡ pooled_by (i + 1)
  pooled_step i d class passes mid new lt c p is e =
      mark_step (λ c x. pools g c x) ls i d n class passes mid new lt
      (λ a. and_swap (takes_pool g (get_or ls i d)) (class_at g (get_or ls i d).row == a) ∙ ap (λ x. (x == a) && takes_pool g (get_or ls i d)) (sym c) ∙ ap (λ b. (class == a) && b) (sym p))
      is e

  pub pooled_all : (i : ℕ) (marks : List Bool) → length ls ≤ i → marks ≡ pooled_by i → marks ≡ map (is_pooled g (numbered 0 ls)) (range_with_len 0 n)
  pooled_all i marks le is =
      is ∙ ap (λ (xs : List Launch). map (λ c. list_any (λ x. pools g c x) xs) (range_with_len 0 n)) (take_all i ls le)
      ∙ map_same (λ c. list_any (λ x. pools g c x) ls) (is_pooled g (numbered 0 ls)) 0 n (λ c a b. any-numbered (λ x. pools g c x) 0 ls)

-- ---- clauses of those things of a list that pass

module _ {X : Type 0} (f : X → List Lit) (test : X → Bool) where
  abbrev pub those : List X → List (List Lit)
  those xs = map f (filter test xs)

  those-append : (xs ys : List X) → those (xs ++ ys) ≡ those xs ++ those ys
  those-append xs ys = ap (map f) (filter-append test xs ys) ∙ map-append f (filter test xs) (filter test ys)

  pub those-more : (xs : List X) (i : ℕ) (d : X) → i < length xs → those (take (i + 1) xs) ≡ those (take i xs) ++ those (get_or xs i d ∷ [])
  those-more xs i d lt = ap those (take_more xs i d lt) ∙ those-append (take i xs) (get_or xs i d ∷ [])

  pub those-part : (xs : List X) (i : ℕ) (d : X) → i < length xs → length (those (take i xs)) + length (those (get_or xs i d ∷ [])) ≤ length (those xs)
  those-part xs i d lt =
      let a = ap (λ (ls : List (List Lit)). length ls) (those-more xs i d lt) ∙ length-append (those (take i xs)) (those (get_or xs i d ∷ [])) in
      let b = ap (λ (ls : List (List Lit)). length ls) (ap those (sym (take-append-drop (i + 1) xs)) ∙ those-append (take (i + 1) xs) (drop (i + 1) xs)) ∙ length-append (those (take (i + 1) xs)) (those (drop (i + 1) xs)) in
      omega (arith, a, b)

  pub those-one : (x : X) → test x ≡ true → those (x ∷ []) ≡ f x ∷ []
  those-one x e = ap (λ b. map f (cond b (x ∷ []) [])) e

  pub those-none : (x : X) → test x ≡ false → those (x ∷ []) ≡ []
  those-none x e = ap (λ b. map f (cond b (x ∷ []) [])) e

  module _ (xs : List X) (i : ℕ) (d : X) (start mid : Formula) (lt : i < length xs) where
    pub those_step : mid ≡ with_clauses start (those (take i xs)) → (new : Formula) → new ≡ with_clauses mid (those (get_or xs i d ∷ [])) → new ≡ with_clauses start (those (take (i + 1) xs))
    those_step is new e = added start mid new (those (get_or xs i d ∷ [])) (those (take i xs)) (those (take (i + 1) xs)) is e (those-more xs i d lt)

    pub those_room : mid ≡ with_clauses start (those (take i xs)) → length start.clauses + length (those xs) < 2 ^ 30 → length mid.clauses + length (those (get_or xs i d ∷ [])) < 2 ^ 30
    those_room is room = (let a = size-with start mid (those (take i xs)) is in let b = those-part xs i d lt in omega (arith, a, b))

    -- where a variable implies them
    module _ (var : ℕ) (is : mid ≡ with_clauses start (of_thing var (those (take i xs)))) where
      pub those_of_step : (new : Formula) → new ≡ with_clauses mid (of_thing var (those (get_or xs i d ∷ []))) → new ≡ with_clauses start (of_thing var (those (take (i + 1) xs)))
      those_of_step new e =
          added start mid new (of_thing var (those (get_or xs i d ∷ []))) (of_thing var (those (take i xs))) (of_thing var (those (take (i + 1) xs))) is e
          (ap (of_thing var) (those-more xs i d lt) ∙ of-append var (those (take i xs)) (those (get_or xs i d ∷ [])))

      pub those_of_room : length start.clauses + length (those xs) < 2 ^ 30 → length mid.clauses + length (those (get_or xs i d ∷ [])) < 2 ^ 30
      those_of_room room = (let a = size-with start mid (of_thing var (those (take i xs))) is in let b = those-part xs i d lt in let c = length-of var (those (take i xs)) in omega (arith, a, b, c))

-- ---- the operand at one place more

module _ (g : LaunchGraph) (xs : List (ℕ × Launch)) (ns : List (ℕ × Need)) (cycle : ℕ) (os : List Operand) (at : ℕ) (lt : at < length os) (var : ℕ) (start mid : Formula) (is : mid ≡ with_clauses start (of_thing var (operands_needed g xs ns cycle (take at os)))) where
  abbrev none : Operand
  none = record { class = 0; second = false }

  one_is : one_or_none (slice_get os at) ≡ get_or os at none ∷ []
  one_is = ap one_or_none (get_some os at none lt)

  pub operand_room : length start.clauses + length (operands_needed g xs ns cycle os) < 2 ^ 30 → length mid.clauses + length (operands_needed g xs ns cycle (one_or_none (slice_get os at))) < 2 ^ 30
  operand_room room =
      subst (λ (ys : List Operand). length mid.clauses + length (operands_needed g xs ns cycle ys) < 2 ^ 30) (sym one_is)
      (those_of_room (λ (o : Operand). vars_of (is_need_at o.class cycle) ns) (is_pooled_operand g xs) os at none start mid lt var is room)

  pub operand_step : (new : Formula) → new ≡ with_clauses mid (of_thing var (operands_needed g xs ns cycle (one_or_none (slice_get os at)))) → new ≡ with_clauses start (of_thing var (operands_needed g xs ns cycle (take (at + 1) os)))
  operand_step new e =
      those_of_step (λ (o : Operand). vars_of (is_need_at o.class cycle) ns) (is_pooled_operand g xs) os at none start mid lt var is new
      (e ∙ ap (λ (ys : List Operand). with_clauses mid (of_thing var (operands_needed g xs ns cycle ys))) one_is)

-- one operand
module _ (g : LaunchGraph) (xs : List (ℕ × Launch)) (ns : List (ℕ × Need)) (cycle : ℕ) (o : Operand) (var : ℕ) where
  no_need : (f : Formula) → is_pooled_operand g xs o ≡ false → f ≡ with_clauses f (of_thing var (operands_needed g xs ns cycle (o ∷ [])))
  no_need f e = with-none f ∙ ap (λ cs. with_clauses f (of_thing var cs)) (sym (those-none (λ (o : Operand). vars_of (is_need_at o.class cycle) ns) (is_pooled_operand g xs) o e))

  pub free_need : (f : Formula) → is_free g o ≡ true → f ≡ with_clauses f (of_thing var (operands_needed g xs ns cycle (o ∷ [])))
  free_need f e = no_need f (and_left (not (is_free g o)) (is_pooled g xs o.class) (ap not e))

  pub unpooled_need : (f : Formula) → is_pooled g xs o.class ≡ false → f ≡ with_clauses f (of_thing var (operands_needed g xs ns cycle (o ∷ [])))
  unpooled_need f e = no_need f (and_right (not (is_free g o)) (is_pooled g xs o.class) e)

  pub due_need : (lits : List Lit) → is_free g o ≡ false → is_pooled g xs o.class ≡ true → lits ≡ vars_of (is_need_at o.class cycle) ns → (negative var ∷ lits) ∷ [] ≡ of_thing var (operands_needed g xs ns cycle (o ∷ []))
  due_need lits f p e =
      ap (λ ls. of_thing var (ls ∷ [])) e
      ∙ ap (of_thing var) (sym (those-one (λ (o : Operand). vars_of (is_need_at o.class cycle) ns) (is_pooled_operand g xs) o (and_from (not (is_free g o)) (is_pooled g xs o.class) (ap not f) p)))

-- ---- from cycle to cycle

module _ (k : ℕ) where
  -- of a class of a list without repetition
  block_else : (class a t m : ℕ) → (a ≡ class → ⊥) → vars_of (is_need_at class t) (numbered m (class_needs k a)) ≡ []
  block_else class a t m ne = no-item (is_need_at class t) k (need_at a) (λ b _. and_left (a == class) (b == t) (ne_eqb a class ne)) m k (omega arith)

  others : (class t : ℕ) (cs : List ℕ) (m : ℕ) → (Contains cs class → ⊥) → vars_of (is_need_at class t) (numbered m (flat_map (class_needs k) cs)) ≡ []
  others class t [] m out = refl
  others class t (c ∷ cs) m out =
      vars-append (is_need_at class t) m (class_needs k c) (flat_map (class_needs k) cs)
      ∙ ap (λ ys. ys ++ vars_of (is_need_at class t) (numbered (m + length (class_needs k c)) (flat_map (class_needs k) cs))) (block_else class c t m (λ e. out (here c cs e)))
      ∙ others class t cs (m + length (class_needs k c)) (λ h. out (later c cs h))
    where
      here : (c : ℕ) (cs : List ℕ) → c ≡ class → Contains (c ∷ cs) class
      here c cs e = (0, (let s : length (c ∷ cs) ≡ suc (length cs) = refl in omega (arith, s)), e)

      later : (c : ℕ) (cs : List ℕ) → Contains cs class → Contains (c ∷ cs) class
      later c cs h = (suc h.0, (let s : length (c ∷ cs) ≡ suc (length cs) = refl in let lt : h.0 < length cs = h.1 in omega (arith, s)), h.2)

  pub class-at : (t : ℕ) → t < k → (cs : List ℕ) → NoTwice cs → (m i d : ℕ) → i < length cs → vars_of (is_need_at (get_or cs i d) t) (numbered m (flat_map (class_needs k) cs)) ≡ positive (m + length (flat_map (class_needs k) (take i cs)) + t + 1) ∷ []
  class-at t tk [] once m i d lt = absurd (omega arith)
  class-at t tk (c ∷ cs) once m zero d lt =
      let T = is_need_at c t in
      let z : m + 0 ≡ m = omega arith in
      vars-append T m (class_needs k c) (flat_map (class_needs k) cs)
      ∙ ap (λ ys. ys ++ vars_of T (numbered (m + length (class_needs k c)) (flat_map (class_needs k) cs))) (at-item T t (need_at c) (λ a ne. and_right (c == c) (a == t) (ne_eqb a t ne)) m k tk (and_from (c == c) (t == t) (eq-eqb c c refl) (eq-eqb t t refl)))
      ∙ ap (λ ys. positive (m + t + 1) ∷ ys) (others c t cs (m + length (class_needs k c)) once.0)
      ∙ ap (λ n. positive (n + t + 1) ∷ []) (sym z)
  class-at t tk (c ∷ cs) once m (suc i) d lt =
      let s : length (c ∷ cs) ≡ suc (length cs) = refl in
      let inside : i < length cs = omega (arith, s) in
      let class : ℕ = get_or cs i d in
      let T = is_need_at class t in
      let ne : c ≡ class → ⊥ = λ e. once.0 (subst (λ x. Contains cs x) (sym e) (Contains-get_or cs i d inside)) in
      let size : m + length (class_needs k c) + length (flat_map (class_needs k) (take i cs)) ≡ m + length (flat_map (class_needs k) (c ∷ take i cs)) = (let e = length-append (class_needs k c) (flat_map (class_needs k) (take i cs)) in omega (arith, e)) in
      vars-append T m (class_needs k c) (flat_map (class_needs k) cs)
      ∙ ap (λ ys. ys ++ vars_of T (numbered (m + length (class_needs k c)) (flat_map (class_needs k) cs))) (block_else class c t m ne)
      ∙ class-at t tk cs once.1 (m + length (class_needs k c)) i d inside
      ∙ ap (λ n. positive (n + t + 1) ∷ []) size

  -- the clauses of one class, whose variables are those after b
  module _ (F : Need → List (List Lit)) (class b : ℕ) (first : F (need_at class 0) ≡ []) (each : (t : ℕ) → 1 ≤ t → t < k → F (need_at class t) ≡ (positive (b + t) ∷ []) ∷ []) where
    go : (a n m : ℕ) → 1 ≤ a → a + n ≤ k → m ≡ b + a → implied (numbered m (map (need_at class) (range_with_len a n))) F ≡ map (needed_before b) (range_with_len a n)
    go a zero m la le e = refl
    go a (suc n) m la le e =
        ap (λ cs. of_thing (m + 1) cs ++ implied (numbered (m + 1) (map (need_at class) (range_with_len (a + 1) n))) F) (each a la (omega arith))
        ∙ ap (λ x. (negative (x + 1) ∷ positive (b + a) ∷ []) ∷ implied (numbered (m + 1) (map (need_at class) (range_with_len (a + 1) n))) F) e
        ∙ ap (λ cs. needed_before b a ∷ cs) (go (a + 1) n (m + 1) (omega arith) (omega arith) (omega arith))

    from_zero : (j : ℕ) → j ≤ k → implied (numbered b (map (need_at class) (range_with_len 0 j))) F ≡ map (needed_before b) (range_with_len 1 (j - 1))
    from_zero zero le = refl
    from_zero (suc j) le =
        let s : suc j - 1 ≡ j = omega arith in
        ap (λ cs. of_thing (b + 1) cs ++ implied (numbered (b + 1) (map (need_at class) (range_with_len 1 j))) F) first
        ∙ go 1 j (b + 1) (omega arith) (omega arith) refl
        ∙ ap (λ n. map (needed_before b) (range_with_len 1 n)) (sym s)

    pub class-clauses : implied (numbered b (class_needs k class)) F ≡ map (needed_before b) (range_with_len 1 (k - 1))
    class-clauses = from_zero k (omega arith)

-- one class more
module _ (k first : ℕ) (cs : List ℕ) (once : NoTwice cs) (i d : ℕ) (lt : i < length cs) where
  abbrev pub place : ℕ
  place = first + length (flat_map (class_needs k) (take i cs))

  abbrev ns : List (ℕ × Need)
  ns = numbered first (flat_map (class_needs k) cs)

  not_first : was_needed ns (need_at (get_or cs i d) 0) ≡ []
  not_first = refl

  was : (t : ℕ) → 1 ≤ t → t < k → was_needed ns (need_at (get_or cs i d) t) ≡ (positive (place + t) ∷ []) ∷ []
  was t one lt' =
      let ne : (t == 0) ≡ false = ne_eqb t 0 (λ e. absurd (omega arith)) in
      let back : t - 1 + 1 ≡ t = omega arith in
      let at : place + (t - 1) + 1 ≡ place + t = omega arith in
      ap (λ b. when (not b) (vars_of (is_need_at (get_or cs i d) (t - 1)) ns ∷ [])) ne
      ∙ ap (λ (c : List Lit). c ∷ []) (class-at k (t - 1) (omega arith) cs once first i d lt ∙ ap (λ n. positive n ∷ []) at)

  pub earlier-more : implied (numbered first (flat_map (class_needs k) (take (i + 1) cs))) (was_needed ns) ≡ implied (numbered first (flat_map (class_needs k) (take i cs))) (was_needed ns) ++ map (needed_before place) (range_with_len 1 (k - 1))
  earlier-more =
      blocks-clauses (class_needs k) k (needs-size k) (was_needed ns) first cs i d lt
      ∙ ap (λ ys. implied (numbered first (flat_map (class_needs k) (take i cs))) (was_needed ns) ++ ys) (class-clauses k (was_needed ns) (get_or cs i d) place not_first was)

  pub earlier-part : length (implied (numbered first (flat_map (class_needs k) (take i cs))) (was_needed ns)) + (k - 1) ≤ length (implied (numbered first (flat_map (class_needs k) cs)) (was_needed ns))
  earlier-part =
      let F = was_needed ns in
      let a = ap (λ (c : List (List Lit)). length c) earlier-more ∙ length-append (implied (numbered first (flat_map (class_needs k) (take i cs))) F) (map (needed_before place) (range_with_len 1 (k - 1))) in
      let b : length (map (needed_before place) (range_with_len 1 (k - 1))) ≡ k - 1 = length-map-range_with_len (needed_before place) 1 (k - 1) in
      let whole : flat_map (class_needs k) cs ≡ flat_map (class_needs k) (take (i + 1) cs) ++ flat_map (class_needs k) (drop (i + 1) cs) = ap (flat_map (class_needs k)) (sym (take-append-drop (i + 1) cs)) ∙ flat_map-append (class_needs k) (take (i + 1) cs) (drop (i + 1) cs) in
      let c = ap (λ (xs : List Need). length (implied (numbered first xs) F)) whole
      ∙ ap (λ (c : List (List Lit)). length c) (implied-append F first (flat_map (class_needs k) (take (i + 1) cs)) (flat_map (class_needs k) (drop (i + 1) cs)))
      ∙ length-append (implied (numbered first (flat_map (class_needs k) (take (i + 1) cs))) F) (implied (numbered (first + length (flat_map (class_needs k) (take (i + 1) cs))) (flat_map (class_needs k) (drop (i + 1) cs))) F) in
      omega (arith, a, b, c)

  -- the first i of them have no more things than all
  pub needs-part : length (flat_map (class_needs k) (take i cs)) + k ≤ length (flat_map (class_needs k) cs)
  needs-part =
      let a = blocks-size (class_needs k) k (needs-size k) cs i d lt in
      let whole : flat_map (class_needs k) cs ≡ flat_map (class_needs k) (take (i + 1) cs) ++ flat_map (class_needs k) (drop (i + 1) cs) = ap (flat_map (class_needs k)) (sym (take-append-drop (i + 1) cs)) ∙ flat_map-append (class_needs k) (take (i + 1) cs) (drop (i + 1) cs) in
      let c = ap (λ (xs : List Need). length xs) whole ∙ length-append (flat_map (class_needs k) (take (i + 1) cs)) (flat_map (class_needs k) (drop (i + 1) cs)) in
      omega (arith, a, c)

-- the clauses of one class, cycle by cycle
module _ (before : ℕ) where
  pub none_earlier : (f : Formula) → f ≡ with_clauses f (map (needed_before before) (range_with_len 1 (1 - 1)))
  none_earlier f = with-none f

  pub cycle_step : (cycle : ℕ) (start mid : Formula) → mid ≡ with_clauses start (map (needed_before before) (range_with_len 1 (cycle - 1))) → 1 ≤ cycle → (new : Formula) → new ≡ with_clauses mid ((negative (before + cycle + 1) ∷ positive (before + cycle) ∷ []) ∷ []) → new ≡ with_clauses start (map (needed_before before) (range_with_len 1 (cycle + 1 - 1)))
  cycle_step cycle start mid is from new e =
      let n : cycle + 1 - 1 ≡ cycle - 1 + 1 = omega arith in
      let at : 1 + (cycle - 1) ≡ cycle = omega arith in
      added start mid new ((negative (before + cycle + 1) ∷ positive (before + cycle) ∷ []) ∷ []) (map (needed_before before) (range_with_len 1 (cycle - 1))) (map (needed_before before) (range_with_len 1 (cycle + 1 - 1))) is e
      (ap (λ m. map (needed_before before) (range_with_len 1 m)) n ∙ map-range_with_len_more (needed_before before) 1 (cycle - 1) cycle at)

  pub cycle_room : (k cycle : ℕ) (start mid : Formula) → mid ≡ with_clauses start (map (needed_before before) (range_with_len 1 (cycle - 1))) → 1 ≤ cycle → cycle < k → length start.clauses + (k - 1) < 2 ^ 30 → length mid.clauses < 2 ^ 30
  cycle_room k cycle start mid is from to room =
      let a = size-with start mid (map (needed_before before) (range_with_len 1 (cycle - 1))) is in
      let b = length-map-range_with_len (needed_before before) 1 (cycle - 1) in
      omega (arith, a, b)
