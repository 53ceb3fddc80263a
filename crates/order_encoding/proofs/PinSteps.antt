-- What launches to pinned sets overwrite, set by set; and clauses and counters of the pinned sets, one more at a time.
use Rattle.std.proofs.Common.{◌≡◌, ℕ, zero, suc, ◌+◌, ◌<◌, ◌≤◌, ◌^◌, Bool, true, false, cond, List, [], ◌∷◌, ◌++◌, length, map, take, get_or, refl, sym, ap, ◌∙◌, arith, length-append}
use Rattle.std.specs.Prelude.{◌==◌, ◌&&◌, is_some}
use Rattle.std.specs.List.{filter, flat_map, range_with_len}
use Rattle.std.proofs.lemmas.Bool.{eq-eqb, ne_eqb, and_left}
use Rattle.std.proofs.lemmas.List.{append-nil, take_more, map-append}
use Rattle.std.proofs.lemmas.List.Concat.{flat_map-append}
use Rattle.std.proofs.lemmas.List.FromFn.{length-map-range_with_len}
use Rattle.std.proofs.lemmas.List.Sums.{sum_by_more_le}
use Rattle.cnf_core.specs.declared.literal.Lit.{Lit}
use Rattle.cnf_core.specs.Counter.{at_most_clauses, at_most_vars, at_most_size}
use Rattle.cnf_core.specs.Formula.{Formula}
use Rattle.graph_meaning.specs.declared.graphs.LaunchGraph.{LaunchGraph}
use Rattle.schedule_meaning.specs.Launches.{goes_to}
use Rattle.schedule_meaning.specs.declared.schedules.Launch.{Launch}
use Rattle.cycle_encoding.specs.Shapes.{numbered, positive, negative, vars_of, implied, when, counters, counters_vars, counters_size}
use Rattle.cycle_encoding.specs.Steps.{with_counters}
use Rattle.cycle_encoding.specs.Variables.{is_overwriting, all_overwritten, Overwritten}
use Rattle.cycle_encoding.proofs.FamilySteps.{given-more}
use Rattle.cycle_encoding.proofs.Listed.{flat_more, kept_more}
use Rattle.cycle_encoding.proofs.Places.{no-item, at-block}
use Rattle.cycle_encoding.proofs.Rows.{counted, one_counter, both-counters, counters-size}
use Rattle.cycle_encoding.proofs.Tables.{table_more}
use Rattle.cycle_encoding.proofs.Totals.{size-flat, sum-map}
use Rattle.order_encoding.specs.PinFamilies.{is_overwritten_at, overwrites_next, stays_overwritten, set_clauses, overwrites_after, late_clauses}
use Rattle.cycle_encoding.specs.Steps.{set_overwritten}
use Rattle.order_encoding.specs.OrderSteps.{next_in_set, stays_in_set, clauses_in_set}
use Rattle.order_encoding.proofs.AddSteps.{flat-part}
use Rattle.order_encoding.proofs.Grid.{cycle_is}

-- ---- things by the numbers of a range that pass

module _ {X : Type 0} (f : ℕ → List X) (test : ℕ → Bool) where
  one_kept : (x : ℕ) (ys : List ℕ) (b : Bool) → flat_map f (cond b (x ∷ ys) ys) ≡ when b (f x) ++ flat_map f ys
  one_kept x ys true = refl
  one_kept x ys false = refl

  pub kept-is : (xs : List ℕ) → flat_map f (filter test xs) ≡ flat_map (λ x. when (test x) (f x)) xs
  kept-is [] = refl
  kept-is (x ∷ xs) = one_kept x (filter test xs) (test x) ∙ ap (λ ys. when (test x) (f x) ++ ys) (kept-is xs)

  pub kept-part : (t n : ℕ) → t < n → test t ≡ true → length (flat_map f (filter test (range_with_len 0 t))) + length (f t) ≤ length (flat_map f (filter test (range_with_len 0 n)))
  kept-part t n lt e =
      let a = ap (λ (xs : List X). length xs) (kept-is (range_with_len 0 t)) in
      let b = ap (λ (xs : List X). length xs) (kept-is (range_with_len 0 n)) in
      let c : length (when (test t) (f t)) ≡ length (f t) = ap (λ b. length (when b (f t))) e in
      let d = flat-part (λ x. when (test x) (f x)) t n lt in
      omega (arith, a, b, c, d)

-- ---- shapes

vars_step : {X Y : Type 0} (n : ℕ) (x : X) (y : Y) (ps : List (ℕ × X)) (qs : List (ℕ × Y)) (b : Bool) → map (λ (p : ℕ × Y). positive p.0) qs ≡ map (λ (p : ℕ × X). positive p.0) ps → map (λ (p : ℕ × Y). positive p.0) (cond b ((n, y) ∷ qs) qs) ≡ map (λ (p : ℕ × X). positive p.0) (cond b ((n, x) ∷ ps) ps)
vars_step n x y ps qs true e = ap (λ ls. positive n ∷ ls) e
vars_step n x y ps qs false e = e

vars-map : {X Y : Type 0} (T : Y → Bool) (h : X → Y) (m : ℕ) (xs : List X) → vars_of T (numbered m (map h xs)) ≡ vars_of (λ x. T (h x)) (numbered m xs)
vars-map T h m [] = refl
vars-map {X} {Y} T h m (x ∷ xs) =
    vars_step (m + 1) x (h x) (filter (λ (p : ℕ × X). T (h p.1)) (numbered (m + 1) xs)) (filter (λ (p : ℕ × Y). T p.1) (numbered (m + 1) (map h xs))) (T (h x)) (vars-map T h (m + 1) xs)

implied_step : {X : Type 0} (C : List Lit) (p : ℕ × X) (rest : List (List Lit)) (ps : List (ℕ × X)) (b : Bool) → rest ≡ map (λ (l : Lit). negative l.var ∷ C) (map (λ (p : ℕ × X). positive p.0) ps) → map (λ (c : List Lit). negative p.0 ∷ c) (when b (C ∷ [])) ++ rest ≡ map (λ (l : Lit). negative l.var ∷ C) (map (λ (p : ℕ × X). positive p.0) (cond b (p ∷ ps) ps))
implied_step C p rest ps true e = ap (λ cs. (negative p.0 ∷ C) ∷ cs) e
implied_step C p rest ps false e = e

implied-vars : {X : Type 0} (T : X → Bool) (C : List Lit) (ps : List (ℕ × X)) → implied ps (λ x. when (T x) (C ∷ [])) ≡ map (λ (l : Lit). negative l.var ∷ C) (vars_of T ps)
implied-vars T C [] = refl
implied-vars {X} T C (p ∷ ps) =
    implied_step C p (implied ps (λ x. when (T x) (C ∷ []))) (filter (λ (p : ℕ × X). T p.1) ps) (T p.1) (implied-vars T C ps)

implied-same : {X : Type 0} (f h : X → List (List Lit)) (ps : List (ℕ × X)) → ((x : X) → f x ≡ h x) → implied ps f ≡ implied ps h
implied-same f h [] e = refl
implied-same f h (p ∷ ps) e =
    ap (λ (cs : List (List Lit)). map (λ (c : List Lit). negative p.0 ∷ c) cs ++ implied ps f) (e p.1)
    ∙ ap (λ (cs : List (List Lit)). map (λ (c : List Lit). negative p.0 ∷ c) (h p.1) ++ cs) (implied-same f h ps e)

-- ---- what is overwritten of one set

abbrev over_at : ℕ → ℕ → Overwritten
over_at j t = record { set = j; cycle = t }

module _ (g : LaunchGraph) (k first j : ℕ) where
  -- the variable before those of the set
  abbrev pub place : ℕ
  place = first + length (flat_map (set_overwritten k) (filter (is_overwriting g) (range_with_len 0 j)))

  -- and that before those of the next one
  pub place-more : is_overwriting g j ≡ true → place + (k + 1) ≡ first + length (flat_map (set_overwritten k) (filter (is_overwriting g) (range_with_len 0 (j + 1))))
  place-more t =
      let a = ap (λ (os : List Overwritten). length os) (kept_more (set_overwritten k) (is_overwriting g) j true t) ∙ length-append (flat_map (set_overwritten k) (filter (is_overwriting g) (range_with_len 0 j))) (set_overwritten k j) in
      let b = length-map-range_with_len (over_at j) 0 (k + 1) in
      omega arith

  other_set : (c a : ℕ) → (a ≡ j → ⊥) → (m : ℕ) → vars_of (is_overwritten_at j c) (numbered m (set_overwritten k a)) ≡ []
  other_set c a ne m = no-item (is_overwritten_at j c) (k + 1) (over_at a) (λ b _. and_left (a == j) (b == c) (ne_eqb a j ne)) m (k + 1) (omega arith)

  module _ (lt : j < length g.sets) (t : is_overwriting g j ≡ true) where
    set-vars : (c : ℕ) → vars_of (is_overwritten_at j c) (numbered first (all_overwritten g k)) ≡ vars_of (λ t. t == c) (numbered place (range_with_len 0 (k + 1)))
    set-vars c =
        at-block (is_overwritten_at j c) j (set_overwritten k) (is_overwriting g) (other_set c) first (length g.sets) lt t
        ∙ vars-map (is_overwritten_at j c) (over_at j) place (range_with_len 0 (k + 1))
        ∙ ap (λ b. vars_of (λ t. b && (t == c)) (numbered place (range_with_len 0 (k + 1)))) (eq-eqb j j refl)

    pub place-within : place + (k + 1) ≤ first + length (all_overwritten g k)
    place-within =
        let a = kept-part (set_overwritten k) (is_overwriting g) j (length g.sets) lt t in
        let b = length-map-range_with_len (over_at j) 0 (k + 1) in
        omega arith

    abbrev vs : List (ℕ × Overwritten)
    vs = numbered first (all_overwritten g k)

    stay : (t : ℕ) → t < k → implied vs (stays_overwritten vs j t) ≡ stays_in_set place t ∷ []
    stay t less =
        let C = vars_of (is_overwritten_at j (t + 1)) vs in
        let next : C ≡ positive (place + (t + 1) + 1) ∷ [] = set-vars (t + 1) ∙ sym (cycle_is place (k + 1) (t + 1) (omega arith)) in
        let now : vars_of (is_overwritten_at j t) vs ≡ positive (place + t + 1) ∷ [] = set-vars t ∙ sym (cycle_is place (k + 1) t (omega arith)) in
        let two : place + (t + 1) + 1 ≡ place + t + 2 = omega arith in
        implied-vars (is_overwritten_at j t) C vs
        ∙ ap (map (λ (l : Lit). negative l.var ∷ C)) now
        ∙ ap (λ (c : List Lit). (negative (place + t + 1) ∷ c) ∷ []) (next ∙ ap (λ m. positive m ∷ []) two)

    stays : (n : ℕ) → n ≤ k → flat_map (λ t. implied vs (stays_overwritten vs j t)) (range_with_len 0 n) ≡ map (stays_in_set place) (range_with_len 0 n)
    stays zero le = refl
    stays (suc n) le =
        let s : suc n ≡ n + 1 = omega arith in
        let F : ℕ → List (List Lit) = λ t. implied vs (stays_overwritten vs j t) in
        ap (λ m. flat_map F (range_with_len 0 m)) s ∙ flat_more F n
        ∙ ap (λ (cs : List (List Lit)). cs ++ F n) (stays n (omega arith))
        ∙ ap (λ (cs : List (List Lit)). map (stays_in_set place) (range_with_len 0 n) ++ cs) (stay n (omega arith))
        ∙ sym (table_more (stays_in_set place) n) ∙ ap (λ m. map (stays_in_set place) (range_with_len 0 m)) (sym s)

    pub set-clauses : (xs : List (ℕ × Launch)) → set_clauses k xs vs j ≡ clauses_in_set k xs place j
    set-clauses xs =
        ap (λ (cs : List (List Lit)). cs ++ flat_map (λ t. implied vs (stays_overwritten vs j t)) (range_with_len 0 k)) (implied-same (overwrites_next vs j) (next_in_set k place j) xs (λ l. ap (λ (c : List Lit). when (goes_to j l) (c ∷ [])) (set-vars (l.cycle + 1))))
        ∙ ap (λ (cs : List (List Lit)). implied xs (next_in_set k place j) ++ cs) (stays k (omega arith))

-- ---- the pinned sets, one more at a time

module _ (F : ℕ → List (List Lit)) (xs : List ℕ) (i d : ℕ) (lt : i < length xs) where
  pub set-more : flat_map F (take (i + 1) xs) ≡ flat_map F (take i xs) ++ F (get_or xs i d)
  set-more =
      ap (flat_map F) (take_more xs i d lt) ∙ flat_map-append F (take i xs) (get_or xs i d ∷ [])
      ∙ ap (λ ys. flat_map F (take i xs) ++ ys) (append-nil (F (get_or xs i d)))

  pub set-part : length (flat_map F (take i xs)) + length (F (get_or xs i d)) ≤ length (flat_map F xs)
  set-part =
      let a = size-flat F (take i xs) in
      let b = size-flat F xs in
      let c = sum_by_more_le (λ x. length (F x)) xs i d lt in
      omega arith

-- those that pass
one_of : (f : ℕ → List Lit) (x : ℕ) (ys : List ℕ) (b : Bool) → when b (f x ∷ []) ++ map f ys ≡ map f (cond b (x ∷ ys) ys)
one_of f x ys true = refl
one_of f x ys false = refl

pub passing-sets : (f : ℕ → List Lit) (test : ℕ → Bool) (xs : List ℕ) → flat_map (λ x. when (test x) (f x ∷ [])) xs ≡ map f (filter test xs)
passing-sets f test [] = refl
passing-sets f test (x ∷ xs) =
    ap (λ (cs : List (List Lit)). when (test x) (f x ∷ []) ++ cs) (passing-sets f test xs) ∙ one_of f x (filter test xs) (test x)

-- ---- counters of the pinned sets

module _ (group : ℕ → List Lit) (xs : List ℕ) (i d : ℕ) (lt : i < length xs) where
  abbrev lits_of : List Lit
  lits_of = group (get_or xs i d)

  groups-more : map group (take (i + 1) xs) ≡ map group (take i xs) ++ lits_of ∷ []
  groups-more = ap (map group) (take_more xs i d lt) ∙ map-append group (take i xs) (get_or xs i d ∷ [])

  vars-part : counters_vars 1 (map group (take i xs)) + at_most_vars 1 (length lits_of) ≤ counters_vars 1 (map group xs)
  vars-part =
      let a = sum-map (λ (c : List Lit). at_most_vars 1 (length c)) group (take i xs) in
      let b = sum-map (λ (c : List Lit). at_most_vars 1 (length c)) group xs in
      let c = sum_by_more_le (λ x. at_most_vars 1 (length (group x))) xs i d lt in
      omega arith

  size-part : counters_size 1 (map group (take i xs)) + at_most_size 1 (length lits_of) ≤ counters_size 1 (map group xs)
  size-part =
      let a = sum-map (λ (c : List Lit). at_most_size 1 (length c)) group (take i xs) in
      let b = sum-map (λ (c : List Lit). at_most_size 1 (length c)) group xs in
      let c = sum_by_more_le (λ x. at_most_size 1 (length (group x))) xs i d lt in
      omega arith

  module _ (f h : Formula) (lits : List Lit) (e : h ≡ with_counters f (map group (take i xs))) (l : lits ≡ lits_of) where
    pub set-counted : counted h lits ≡ with_counters f (map group (take (i + 1) xs))
    set-counted =
        ap (λ (h : Formula). counted h lits) e ∙ ap (counted (with_counters f (map group (take i xs)))) l
        ∙ one_counter (with_counters f (map group (take i xs))) lits_of
        ∙ both-counters f (map group (take i xs)) (lits_of ∷ [])
        ∙ ap (with_counters f) (sym groups-more)

    pub vars-now : h.vars ≡ f.vars + counters_vars 1 (map group (take i xs))
    vars-now = ap (λ (h : Formula). h.vars) e

    pub set-vars-room : f.vars + counters_vars 1 (map group xs) < 2 ^ 29 → h.vars + at_most_vars 1 (length lits) < 2 ^ 29
    set-vars-room room =
        let a = vars-part in
        let b = vars-now in
        let c : at_most_vars 1 (length lits) ≡ at_most_vars 1 (length lits_of) = ap (λ (ls : List Lit). at_most_vars 1 (length ls)) l in
        omega arith

    pub set-room : ((old p : ℕ) (lits : List Lit) → length (at_most_clauses old p lits) ≡ at_most_size p (length lits)) → length f.clauses + counters_size 1 (map group xs) < 2 ^ 30 → length h.clauses + at_most_size 1 (length lits) < 2 ^ 30
    set-room size room =
        let a = size-part in
        let b : length h.clauses ≡ length f.clauses + counters_size 1 (map group (take i xs)) = ap (λ (h : Formula). length h.clauses) e ∙ length-append f.clauses (counters f.vars 1 (map group (take i xs))) ∙ ap (λ n. length f.clauses + n) (counters-size 1 size f.vars (map group (take i xs))) in
        let c : at_most_size 1 (length lits) ≡ at_most_size 1 (length lits_of) = ap (λ (ls : List Lit). at_most_size 1 (length ls)) l in
        omega arith

-- ---- the launches to a set, one more at a time

module _ (test : Launch → Bool) where
  one_goes : (p : ℕ × Launch) (b : Bool) → map (λ (p : ℕ × Launch). positive p.0) (cond b (p ∷ []) []) ≡ cond b (positive p.0 ∷ []) []
  one_goes p true = refl
  one_goes p false = refl

  pub going-more : (ls : List Launch) (i : ℕ) (d : Launch) → i < length ls → vars_of test (numbered 0 (take (i + 1) ls)) ≡ vars_of test (numbered 0 (take i ls)) ++ cond (test (get_or ls i d)) (positive (i + 1) ∷ []) []
  going-more ls i d lt =
      ap (map (λ (p : ℕ × Launch). positive p.0)) (given-more test ls i d lt)
      ∙ map-append (λ (p : ℕ × Launch). positive p.0) (filter (λ (p : ℕ × Launch). test p.1) (numbered 0 (take i ls))) (cond (test (get_or ls i d)) ((i + 1, get_or ls i d) ∷ []) [])
      ∙ ap (λ ys. vars_of test (numbered 0 (take i ls)) ++ ys) (one_goes (i + 1, get_or ls i d) (test (get_or ls i d)))

-- ---- what waits for the branch of a guard

module _ (g : LaunchGraph) (k first : ℕ) (ls : List Launch) where
  abbrev late_if : Bool → List (List Lit)
  late_if b = when b (implied (numbered 0 ls) (overwrites_after g (numbered first (when b (range_with_len 0 k)))))

  pub late-there : is_some g.guard ≡ true → late_clauses g (numbered 0 ls) (numbered first (when (is_some g.guard) (range_with_len 0 k))) ≡ implied (numbered 0 ls) (overwrites_after g (numbered first (range_with_len 0 k)))
  late-there e = ap late_if e

  pub late-not : is_some g.guard ≡ false → [] ≡ late_clauses g (numbered 0 ls) (numbered first (when (is_some g.guard) (range_with_len 0 k)))
  late-not e = sym (ap late_if e)
