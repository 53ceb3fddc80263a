-- The lists of the encodings that leave launches out are those of their scope.
use Rattle.std.proofs.Common.{◌≡◌, ℕ, zero, suc, ◌+◌, ◌-◌, ◌<◌, ◌≤◌, Bool, true, false, cond, List, [], ◌∷◌, ◌++◌, length, map, max, get_or, refl, sym, ap, ◌∙◌, subst, arith, inl, inr, ◌⊎◌, Option, Some, None}
use Rattle.std.specs.Prelude.{◌&&◌, ◌||◌, ◌↔◌, nat_le, not, Contains, Decides, slice_index_or}
use Rattle.std.specs.Option.{option_map_or}
use Rattle.std.specs.List.{filter, flat_map, range_with_len}
use Rattle.std.proofs.lemmas.Bool.{false≢true, cases_Bool, cases_lt, le-leb, lt-leb, and_from, or_cases, or_left, or_right}
use Rattle.std.proofs.lemmas.List.{append-nil, map-id}
use Rattle.std.proofs.lemmas.List.Elements.{filter-append}
use Rattle.std.proofs.lemmas.List.FromFn.{get_or-map-range_with_len, map-range_with_len_more}
use Rattle.schedule_meaning.specs.Limits.{most_cycles}
use Rattle.machine_table.specs.Tables.{IsTable, MayUse, use_of}
use Rattle.machine_table.specs.declared.tables.Table.{Table}
use Rattle.machine_table.specs.declared.tables.Use.{Use}
use Rattle.machine_table.specs.declared.tables.InstrKind.{InstrKind}
use Rattle.machine_table.specs.declared.tables.InstrKind.TheVariants.{Store, Beq}
use Rattle.graph_meaning.specs.WellFormed.{IsLaunchGraph, next_class}
use Rattle.graph_meaning.specs.Graphs.{is_zero_class}
use Rattle.graph_meaning.specs.declared.graphs.LaunchGraph.{LaunchGraph}
use Rattle.schedule_meaning.specs.Launches.{instr_at, launches, gives_word, is_store, is_branch, class_at}
use Rattle.schedule_meaning.specs.declared.schedules.To.{To}
use Rattle.schedule_meaning.specs.declared.schedules.Allocation.{Allocation}
use Rattle.schedule_meaning.specs.declared.schedules.Launch.{Launch}
use Rattle.cycle_encoding.specs.Variables.{slots_of, all_seen, is_word_class, classes_of}
use Rattle.cycle_encoding.specs.Variables.{destinations, use_launches, row_launches, row_numbers, launches_from, all_launches, shown_classes, made_classes, is_safe}
use Rattle.cycle_encoding.specs.CycleFormula.{listed_in}
use Rattle.cycle_encoding.specs.Facts.{launch_to}
use Rattle.cycle_encoding.specs.Counts.{row_is}
use Rattle.cycle_encoding.specs.CycleFormula.{Listed, Scope, allocation_in, first_by, wants_by, first_cycle_in, wants_in}
use Rattle.cycle_encoding.specs.Encodings.{IsScope, allocation_of}
use Rattle.cycle_encoding.specs.declared.encodings.Encoding.{Encoding}
use Rattle.cycle_encoding.specs.declared.encodings.Encoding.TheVariants as encodings
use Rattle.cycle_encoding.specs.declared.encodings.Encoding.TheVariants.{Wide, Narrow, Pinned}
use Rattle.cycle_encoding.specs.Narrow.{Wanted, CanStart, HasVariable, IsPinnedList}
use Rattle.cycle_encoding.specs.Coming.{start_needs, is_come, are_come, last_come, last_come_from, IsExactUpTo}
use Rattle.cycle_encoding.specs.Wanting.{is_marked_class}
use Rattle.cycle_encoding.specs.Scoped.{is_spoken_of, first_cycle}
use Rattle.cycle_encoding.proofs.Rows.{range_more}
use Rattle.cycle_encoding.proofs.RowFacts.{some-and}
use Rattle.cycle_encoding.proofs.Members.{filter-out, range-out}
use Rattle.cycle_encoding.proofs.PinnedRows.{within}
use Rattle.cycle_encoding.proofs.Lists.{listed-one}
use Rattle.cycle_encoding.proofs.LackSteps.{await-in, await-out}
use Rattle.cycle_encoding.proofs.ComeSteps.{are-in, are-out, low-class, no-branch-word}

-- ---- a first cycle, as a test

-- the launch is in or behind the first cycle
abbrev pub is_begun : Option ℕ → ℕ → Bool
is_begun first t = option_map_or (λ n. nat_le n t) first false

assoc : (a b c : Bool) → (a && (b && c)) ≡ ((a && b) && c)
assoc true b c = refl
assoc false b c = refl

and-false : (a : Bool) → (a && false) ≡ false
and-false true = refl
and-false false = refl

le-max : (n m t : ℕ) → nat_le (max n m) t ≡ (nat_le n t && nat_le m t)
le-max n m t =
    elim (cases_lt t n) [
      | inl lt ↦ lt-leb (max n m) t (omega arith) ∙ ap (λ b. b && nat_le m t) (sym (lt-leb n t lt))
      | inr le ↦ elim (cases_lt t m) [
        | inl lt ↦ lt-leb (max n m) t (omega arith) ∙ sym (ap (λ b. nat_le n t && b) (lt-leb m t lt) ∙ and-false (nat_le n t))
        | inr le2 ↦ le-leb (max n m) t (omega arith) ∙ sym (and_from (nat_le n t) (nat_le m t) (le-leb n t le) (le-leb m t le2))
      ]
    ]

latest-one : (come : List (Option ℕ)) (t n : ℕ) (cs : List ℕ) → ((m : ℕ) → is_begun (last_come_from come m cs) t ≡ (nat_le m t && are_come come t cs)) → (o : Option ℕ) → is_begun (option_map_or (λ m. last_come_from come (max n m) cs) o None) t ≡ (nat_le n t && (option_map_or (λ m. nat_le m t) o false && are_come come t cs))
latest-one come t n cs rest None = sym (and-false (nat_le n t))
latest-one come t n cs rest (Some m) = rest (max n m) ∙ ap (λ b. b && are_come come t cs) (le-max n m t) ∙ sym (assoc (nat_le n t) (nat_le m t) (are_come come t cs))

true-last : (b : Bool) → b ≡ (b && true)
true-last true = refl
true-last false = refl

latest-is : (come : List (Option ℕ)) (t : ℕ) (cs : List ℕ) (n : ℕ) → is_begun (last_come_from come n cs) t ≡ (nat_le n t && are_come come t cs)
latest-is come t [] n = true-last (nat_le n t)
latest-is come t (c ∷ cs) n = latest-one come t n cs (λ m. latest-is come t cs m) (get_or come c None)

-- the classes have come where the last of them has
pub latest-begun : (come : List (Option ℕ)) (t : ℕ) (cs : List ℕ) → is_begun (last_come come cs) t ≡ are_come come t cs
latest-begun come t cs = latest-is come t cs 0 ∙ ap (λ b. b && are_come come t cs) (le-leb 0 t (omega arith))

-- ---- launches from a first cycle

filter_by : {X A : Type 0} (p : A → Bool) (f : X → A) (b : Bool) → ((x : X) → p (f x) ≡ b) → (xs : List X) → filter p (map f xs) ≡ cond b (map f xs) []
filter_by p f true h [] = refl
filter_by p f true h (x ∷ xs) = ap (λ b. cond b (f x ∷ filter p (map f xs)) (filter p (map f xs))) (h x) ∙ ap (λ ys. f x ∷ ys) (filter_by p f true h xs)
filter_by p f false h [] = refl
filter_by p f false h (x ∷ xs) = ap (λ b. cond b (f x ∷ filter p (map f xs)) (filter p (map f xs))) (h x) ∙ filter_by p f false h xs

flat_step : {X A : Type 0} (f : X → List A) (b : Bool) (x : X) (ys : List X) (zs : List A) → zs ≡ flat_map f ys → cond b (f x) [] ++ zs ≡ flat_map f (cond b (x ∷ ys) ys)
flat_step f true x ys zs e = ap (λ ws. f x ++ ws) e
flat_step f false x ys zs e = e

flat_some : {X A : Type 0} (q : X → Bool) (f : X → List A) (xs : List X) → flat_map (λ x. cond (q x) (f x) []) xs ≡ flat_map f (filter q xs)
flat_some q f [] = refl
flat_some q f (x ∷ xs) = flat_step f (q x) x (filter q xs) (flat_map (λ x. cond (q x) (f x) []) xs) (flat_some q f xs)

filter_flat : {X A : Type 0} (p : A → Bool) (f : X → List A) (xs : List X) → filter p (flat_map f xs) ≡ flat_map (λ x. filter p (f x)) xs
filter_flat p f [] = refl
filter_flat p f (x ∷ xs) = filter-append p (f x) (flat_map f xs) ∙ ap (λ ys. filter p (f x) ++ ys) (filter_flat p f xs)

flat_same : {X A : Type 0} (f h : X → List A) (xs : List X) → ((x : X) → f x ≡ h x) → flat_map f xs ≡ flat_map h xs
flat_same f h [] e = refl
flat_same f h (x ∷ xs) e = ap (λ ys. ys ++ flat_map f xs) (e x) ∙ ap (λ ys. h x ++ ys) (flat_same f h xs e)

filter_none : {X : Type 0} (xs : List X) → [] ≡ filter (λ x. false) xs
filter_none [] = refl
filter_none (x ∷ xs) = filter_none xs

flat_nil : {X A : Type 0} (xs : List X) → flat_map {A = A} (λ x. []) xs ≡ []
flat_nil [] = refl
flat_nil (x ∷ xs) = flat_nil xs

one_more : (a n j : ℕ) → a + n ≡ j → range_with_len a (n + 1) ≡ range_with_len a n ++ j ∷ []
one_more a n j e = sym (map-id (range_with_len a (n + 1))) ∙ map-range_with_len_more (λ (x : ℕ). x) a n j e ∙ ap (λ (xs : List ℕ). xs ++ j ∷ []) (map-id (range_with_len a n))

range_tail : (a n : ℕ) → filter (λ t. nat_le a t) (range_with_len 0 n) ≡ range_with_len a (n - a)
range_tail a zero = (let z : 0 - a ≡ 0 = omega arith in sym (ap (range_with_len a) z))
range_tail a (suc n) =
    let s : suc n ≡ n + 1 = omega arith in
    let step = ap (λ m. filter (λ t. nat_le a t) (range_with_len 0 m)) s ∙ ap (filter (λ t. nat_le a t)) (range_more n) ∙ filter-append (λ t. nat_le a t) (range_with_len 0 n) (n ∷ []) ∙ ap (λ xs. xs ++ filter (λ t. nat_le a t) (n ∷ [])) (range_tail a n) in
    elim (cases_lt n a) [
      | inl lt ↦
          (let before : n - a ≡ suc n - a = omega arith in
          step ∙ ap (λ b. range_with_len a (n - a) ++ cond b (n ∷ []) []) (lt-leb a n lt) ∙ append-nil (range_with_len a (n - a)) ∙ ap (range_with_len a) before)
      | inr le ↦
          (let after : n - a + 1 ≡ suc n - a = omega arith in
          step ∙ ap (λ b. range_with_len a (n - a) ++ cond b (n ∷ []) []) (le-leb a n le) ∙ sym (one_more a (n - a) n (omega arith)) ∙ ap (range_with_len a) after)
    ]

module _ (g : LaunchGraph) (table : Table) (allocation : Allocation) (k : ℕ) (firsts : ℕ → Option ℕ) where
  abbrev pub begun : Launch → Bool
  begun l = is_begun (firsts l.row) l.cycle

  module _ (row : ℕ) (tos : List To) where
    abbrev in_cycle : ℕ → ℕ → List Launch
    in_cycle s t = map (launch_to row s t) tos

    -- of the launches in a slot those are left that are in or behind the first cycle
    slot_left : (s : ℕ) (ts : List ℕ) → filter begun (flat_map (in_cycle s) ts) ≡ flat_map (in_cycle s) (filter (λ t. is_begun (firsts row) t) ts)
    slot_left s ts =
        filter_flat begun (in_cycle s) ts
        ∙ flat_same (λ t. filter begun (in_cycle s t)) (λ t. cond (is_begun (firsts row) t) (in_cycle s t) []) ts (λ t. filter_by begun (launch_to row s t) (is_begun (firsts row) t) (λ to. refl) tos)
        ∙ flat_some (λ t. is_begun (firsts row) t) (in_cycle s) ts

    slot_kept : (n m s : ℕ) → firsts row ≡ Some n → flat_map (in_cycle s) (range_with_len n (m - n)) ≡ filter begun (flat_map (in_cycle s) (range_with_len 0 (m - 0)))
    slot_kept n m s e =
        let z : m - 0 ≡ m = omega arith in
        sym (slot_left s (range_with_len 0 (m - 0))
        ∙ ap (λ (o : Option ℕ). flat_map (in_cycle s) (filter (λ t. is_begun o t) (range_with_len 0 (m - 0)))) e
        ∙ ap (flat_map (in_cycle s)) (range_tail n (m - 0))
        ∙ ap (λ j. flat_map (in_cycle s) (range_with_len n (j - n))) z)

    abbrev ends_by : Use → ℕ
    ends_by u = k + 1 - u.latency

    in_slot : Use → ℕ → List Launch
    in_slot u s = flat_map (in_cycle s) (range_with_len 0 (ends_by u - 0))

    none_kept : (u : Use) (s : ℕ) → firsts row ≡ None → filter begun (in_slot u s) ≡ []
    unfolding in_slot
    none_kept u s e =
        slot_left s (range_with_len 0 (ends_by u - 0))
        ∙ ap (λ (o : Option ℕ). flat_map (in_cycle s) (filter (λ t. is_begun o t) (range_with_len 0 (ends_by u - 0)))) e
        ∙ ap (flat_map (in_cycle s)) (sym (filter_none (range_with_len 0 (ends_by u - 0))))

    use_kept : (u : Use) (o : Option ℕ) → firsts row ≡ o → option_map_or (λ n. use_launches table k row n tos u) o [] ≡ filter begun (use_launches table k row 0 tos u)
    unfolding in_slot
    use_kept u None e = sym (filter_flat begun (in_slot u) (slots_of table u) ∙ flat_same (λ s. filter begun (in_slot u s)) (λ s. []) (slots_of table u) (λ s. none_kept u s e) ∙ flat_nil (slots_of table u))
    use_kept u (Some n) e = flat_same (λ s. flat_map (in_cycle s) (range_with_len n (ends_by u - n))) (λ s. filter begun (in_slot u s)) (slots_of table u) (λ s. slot_kept n (ends_by u) s e) ∙ sym (filter_flat begun (in_slot u) (slots_of table u))

    by_use : (o : Option Use) → option_map_or (λ u. option_map_or (λ n. use_launches table k row n tos u) (firsts row) []) o [] ≡ filter begun (option_map_or (λ u. use_launches table k row 0 tos u) o [])
    by_use None = refl
    by_use (Some u) = use_kept u (firsts row) refl

  by_instr : (row : ℕ) (o : Option InstrKind) → option_map_or (λ i. option_map_or (λ u. option_map_or (λ n. use_launches table k row n (destinations g allocation i row) u) (firsts row) []) (use_of table i) []) o [] ≡ filter begun (option_map_or (λ i. option_map_or (λ u. use_launches table k row 0 (destinations g allocation i row) u) (use_of table i) []) o [])
  by_instr row None = refl
  by_instr row (Some i) = by_use row (destinations g allocation i row) (use_of table i)

  row_kept : (row : ℕ) → row_launches g table allocation k (firsts row) row ≡ filter begun (row_launches g table allocation k (Some 0) row)
  row_kept row = by_instr row (instr_at g row)

  pub all-kept : launches_from g table allocation k firsts ≡ filter begun (all_launches g table allocation k)
  all-kept =
      flat_same (λ row. row_launches g table allocation k (firsts row) row) (λ row. filter begun (row_launches g table allocation k (Some 0) row)) (row_numbers g) row_kept
      ∙ sym (filter_flat begun (row_launches g table allocation k (Some 0)) (row_numbers g))

-- ---- classes

filter_both : (p q : ℕ → Bool) (xs : List ℕ) → filter (λ x. p x && q x) xs ≡ filter p (filter q xs)
filter_both p q [] = refl
filter_both p q (x ∷ xs) =
    elim (cases_Bool (q x)) [
      | inl t ↦
          ap (λ b. cond (p x && b) (x ∷ filter (λ x. p x && q x) xs) (filter (λ x. p x && q x) xs)) t
          ∙ ap (λ b. cond b (x ∷ filter (λ x. p x && q x) xs) (filter (λ x. p x && q x) xs)) (sym (true-last (p x)))
          ∙ ap (λ ys. cond (p x) (x ∷ ys) ys) (filter_both p q xs)
          ∙ sym (ap (λ b. filter p (cond b (x ∷ filter q xs) (filter q xs))) t)
      | inr n ↦
          ap (λ b. cond (p x && b) (x ∷ filter (λ x. p x && q x) xs) (filter (λ x. p x && q x) xs)) n
          ∙ ap (λ b. cond b (x ∷ filter (λ x. p x && q x) xs) (filter (λ x. p x && q x) xs)) (and-false (p x))
          ∙ filter_both p q xs
          ∙ sym (ap (λ b. filter p (cond b (x ∷ filter q xs) (filter q xs))) n)
    ]

pub shown-kept : (g : LaunchGraph) (wants : ℕ → Bool) → shown_classes g wants ≡ filter wants (made_classes g)
shown-kept g wants = filter_both wants (λ c. is_word_class g c && (not (is_safe g c) && not (is_zero_class g c))) (classes_of g)

-- ---- which launches have variables

three_kinds : (i : InstrKind) → (gives_word i ≡ true) ⊎ (is_store i ≡ true) ⊎ (is_branch i ≡ true)
three_kinds (Store access) = inr (inl refl)
three_kinds Beq = inr (inr refl)
three_kinds i = inl refl

module _ (g : LaunchGraph) (table : Table) (allocation : Allocation) (well : IsLaunchGraph g) (is_table : IsTable table)
    (come : List (Option ℕ)) (marks : List Bool) (exact : IsExactUpTo g table allocation come 24) (wanted : (class : ℕ) → (is_marked_class marks class ≡ true) ↔ (Wanted g class × (class < next_class g.rows))) where
  start-out : (row t : ℕ) → t ≤ most_cycles → are_come come t (start_needs g allocation row) ≡ true → CanStart g table allocation row t
  start-out row t le h class awaits =
      (exact t class le).0
      (are-out g table allocation come t (start_needs g allocation row) h class (await-in g allocation row class awaits))

  start-in : (row t : ℕ) → t ≤ most_cycles → CanStart g table allocation row t → are_come come t (start_needs g allocation row) ≡ true
  start-in row t le start =
      are-in g table allocation come t (start_needs g allocation row) (λ c h.
      (exact t c le).1 (start c (await-out g allocation row c h)))

  spoken-out : (l : Launch) → is_spoken_of g marks l.row ≡ true → (launches g is_store l ≡ true) ⊎ (launches g is_branch l ≡ true) ⊎ Wanted g (class_at g l.row)
  spoken-out l h =
      elim (or_cases (row_is g is_store l.row) (row_is g is_branch l.row || is_marked_class marks (class_at g l.row)) h) [
        | inl s ↦ inl s
        | inr t ↦ elim (or_cases (row_is g is_branch l.row) (is_marked_class marks (class_at g l.row)) t) [
          | inl b ↦ inr (inl b)
          | inr m ↦ inr (inr ((wanted (class_at g l.row)).0 m).0)
        ]
      ]

  spoken-in : (l : Launch) (i : InstrKind) → instr_at g l.row ≡ Some i → (launches g is_store l ≡ true) ⊎ (launches g is_branch l ≡ true) ⊎ Wanted g (class_at g l.row) → is_spoken_of g marks l.row ≡ true
  spoken-in l i e (inl s) = or_left (row_is g is_store l.row) (row_is g is_branch l.row || is_marked_class marks (class_at g l.row)) s
  spoken-in l i e (inr (inl b)) = or_right (row_is g is_store l.row) (row_is g is_branch l.row || is_marked_class marks (class_at g l.row)) (or_left (row_is g is_branch l.row) (is_marked_class marks (class_at g l.row)) b)
  spoken-in l i e (inr (inr w)) =
      elim (three_kinds i) [
        | inl t ↦
            (let bound = low-class g table allocation well l.row i e (no-branch-word i t) in
            or_right (row_is g is_store l.row) (row_is g is_branch l.row || is_marked_class marks (class_at g l.row)) (or_right (row_is g is_branch l.row) (is_marked_class marks (class_at g l.row)) ((wanted (class_at g l.row)).1 (w, bound))))
        | inr (inl t) ↦ or_left (row_is g is_store l.row) (row_is g is_branch l.row || is_marked_class marks (class_at g l.row)) (ap (λ (o : Option InstrKind). option_map_or is_store o false) e ∙ t)
        | inr (inr t) ↦ or_right (row_is g is_store l.row) (row_is g is_branch l.row || is_marked_class marks (class_at g l.row)) (or_left (row_is g is_branch l.row) (is_marked_class marks (class_at g l.row)) (ap (λ (o : Option InstrKind). option_map_or is_branch o false) e ∙ t))
      ]

  first-out : (l : Launch) (b : Bool) → is_spoken_of g marks l.row ≡ b → is_begun (cond b (last_come come (start_needs g allocation l.row)) None) l.cycle ≡ true → l.cycle ≤ most_cycles → HasVariable g table allocation l
  first-out l true e h le = record {
    start = start-out l.row l.cycle le (sym (latest-begun come l.cycle (start_needs g allocation l.row)) ∙ h);
    wanted = spoken-out l e;
  }
  first-out l false e h le = absurd (false≢true h)

  first-in : (l : Launch) (i : InstrKind) → instr_at g l.row ≡ Some i → l.cycle ≤ most_cycles → HasVariable g table allocation l → is_begun (first_cycle g allocation come marks l.row) l.cycle ≡ true
  first-in l i e le v =
      ap (λ b. is_begun (cond b (last_come come (start_needs g allocation l.row)) None) l.cycle) (spoken-in l i e v.wanted)
      ∙ latest-begun come l.cycle (start_needs g allocation l.row) ∙ start-in l.row l.cycle le v.start

  module _ (s : Scope) (same : allocation_in s ≡ allocation) (firsts : s.firsts ≡ map (first_cycle g allocation come marks) (row_numbers g)) (wants : s.wants ≡ marks) where
    module _ (by_firsts : (row : ℕ) → first_cycle_in s row ≡ slice_index_or s.firsts row None) (by_wants : (class : ℕ) → wants_in s class ≡ slice_index_or s.wants class false) (k : ℕ) (few : k ≤ most_cycles) where
      first-is : (row : ℕ) → row < length g.rows + 1 + length g.sets → first_cycle_in s row ≡ first_cycle g allocation come marks row
      first-is row lt =
          by_firsts row
          ∙ ap (λ (xs : List (Option ℕ)). slice_index_or xs row None) firsts
          ∙ get_or-map-range_with_len (first_cycle g allocation come marks) 0 (length g.rows + 1 + length g.sets) row row None lt (omega arith)

      wants-is : (class : ℕ) → wants_in s class ≡ is_marked_class marks class
      wants-is class = by_wants class ∙ ap (λ (xs : List Bool). slice_index_or xs class false) wants

      keep : Launch → Bool
      keep l = is_begun (first_cycle_in s l.row) l.cycle

      keeps-one : (l : Launch) → Contains (all_launches g table allocation k) l → Decides (keep l) (HasVariable g table allocation l)
      unfolding keep
      keeps-one l h =
          let ok = listed-one g table allocation k is_table l h in
          let i = some-and (instr_at g l.row) (λ i. MayUse table i l.slot) ok.can in
          let is = ap (λ (f : Option ℕ). is_begun f l.cycle) (first-is l.row (within g l.row i.0 i.1)) in
          let early = ok.early in (
            (λ t. first-out l (is_spoken_of g marks l.row) refl (sym is ∙ t) (omega arith)),
            (λ v. is ∙ first-in l i.0 i.1 (omega arith) v),
          )

      wants-one : (c : ℕ) → Contains (made_classes g) c → Decides (wants_in s c) (Wanted g c)
      wants-one c h =
          let low = (range-out 0 (next_class g.rows) c (filter-out (λ c. is_word_class g c && (not (is_safe g c) && not (is_zero_class g c))) (classes_of g) c h).0).1 in (
            (λ t. ((wanted c).0 (sym (wants-is c) ∙ t)).0),
            (λ w. wants-is c ∙ (wanted c).1 (w, (omega arith))),
          )

      tabled-lists : IsPinnedList g table allocation k (listed_in g table k s)
      unfolding keep
      tabled-lists = record {
        allocation_is = same;
        keep = keep;
        keeps = keeps-one;
        launches_are = ap (λ a. launches_from g table a k (first_cycle_in s)) same
            ∙ all-kept g table allocation k (first_cycle_in s);
        want = wants_in s;
        wants = wants-one;
        seen_are = ap (all_seen table k) (shown-kept g (wants_in s));
      }

    abbrev lists_by : Encoding → ℕ → Listed
    lists_by e k = record {
      allocation = allocation_of e;
      launches = launches_from g table (allocation_of e) k (λ row. first_by e s.firsts row);
      seen = all_seen table k (shown_classes g (λ class. wants_by e s.wants class));
    }

    -- the scope of an encoding that looks at the tables
    by-tables : (e : Encoding) → s.encoding ≡ e → allocation_of e ≡ allocation
        → ((row : ℕ) → first_by e s.firsts row ≡ slice_index_or s.firsts row None)
        → ((class : ℕ) → wants_by e s.wants class ≡ slice_index_or s.wants class false)
        → (k : ℕ) → k ≤ most_cycles → IsPinnedList g table (allocation_of e) k (listed_in g table k s)
    by-tables e is at f w k few =
        subst (λ a. IsPinnedList g table a k (listed_in g table k s)) (sym at)
        (tabled-lists (λ row. ap (λ (e : Encoding). first_by e s.firsts row) is ∙ f row)
        (λ class. ap (λ (e : Encoding). wants_by e s.wants class) is ∙ w class) k few)

    by-encoding : (e : Encoding) → s.encoding ≡ e → allocation_of e ≡ allocation → IsScope e g table s
    by-encoding Wide is at = record {
      encoding = is;
      lists = λ k few. ap {A = Encoding} {B = Listed} (λ e. lists_by e k) is;
    }
    by-encoding Narrow is at = record {
      encoding = is;
      lists = by-tables Narrow is at (λ row. refl) (λ class. refl);
    }
    by-encoding Pinned is at = record {
      encoding = is;
      lists = by-tables Pinned is at (λ row. refl) (λ class. refl);
    }
    by-encoding encodings.Live is at = record {
      encoding = is;
      lists = by-tables encodings.Live is at (λ row. refl) (λ class. refl);
    }

    -- in each encoding the tables give its lists
    pub tabled-scope : IsScope s.encoding g table s
    tabled-scope = by-encoding s.encoding refl same
