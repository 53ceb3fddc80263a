-- Deadlines and limits are no more and no greater than cycles, slots and rows allow.
use Rattle.std.proofs.Common.{◌≡◌, ℕ, zero, suc, ◌+◌, ◌-◌, ◌*◌, ◌<◌, ◌≤◌, ◌^◌, min, max, Bool, true, false, cond, List, [], ◌∷◌, ◌++◌, length, get_or, take, map, refl, sym, ap, ◌∙◌, subst, arith, inl, inr, Option, Some, None, length-append}
use Rattle.std.specs.Prelude.{◌&&◌, ◌==◌, Contains, bytes_eq, fold, is_some, nat_le, nat_lt}
use Rattle.std.specs.Option.{option_map_or}
use Rattle.std.specs.List.{All, AllPairs, filter, flat_map, list_any, range_with_len}
use Rattle.std.proofs.lemmas.Bool.{and_parts, cases_lt, eq-eqb, false≢true, ltb-true}
use Rattle.std.proofs.lemmas.List.{get_or_default, get_or_past, take_all}
use Rattle.std.proofs.lemmas.List.Elements.{All-contains, All-nil, All-push}
use Rattle.std.proofs.lemmas.List.FromFn.{get_or-map-range_with_len, length-map-range_with_len, length-range_with_len}
use Rattle.std.proofs.lemmas.List.Sums.{count_by-le-length, length-filter, sum_by-le}
use Rattle.std.proofs.lemmas.Nat.{mul-le}
use Rattle.std.proofs.lemmas.Option.{none-some, slice_get-get_or}
use Rattle.word_ops.specs.Operates.{operate_place}
use Rattle.word_ops.specs.declared.operates.Operate.{Operate}
use Rattle.word_ops.specs.declared.operates.Operate.TheVariants.{Addl}
use Rattle.word_ops.specs.declared.sorts.Access.TheVariants.{Quad, Byte, Long, Word}
use Rattle.machine_table.specs.InstrOrder.{kind_number}
use Rattle.machine_table.specs.Tables.{IsTable}
use Rattle.machine_table.specs.declared.tables.InstrKind.{InstrKind}
use Rattle.machine_table.specs.declared.tables.InstrKind.TheVariants as kinds
use Rattle.machine_table.specs.declared.tables.Table.{Table}
use Rattle.machine_table.specs.declared.tables.Use.{Use}
use Rattle.graph_meaning.specs.WellFormed.{IsLaunchGraph, next_class}
use Rattle.graph_meaning.specs.declared.graphs.LaunchGraph.{LaunchGraph}
use Rattle.graph_meaning.specs.declared.graphs.LaunchRow.{LaunchRow}
use Rattle.schedule_meaning.specs.Launches.{class_at}
use Rattle.schedule_meaning.specs.Limits.{most_cycles}
use Rattle.schedule_meaning.specs.declared.schedules.Launch.{Launch}
use Rattle.cycle_encoding.specs.Variables.{classes_of, row_numbers, slots_of}
use Rattle.cycle_encoding.proofs.Launched.{size-map}
use Rattle.cycle_encoding.proofs.Members.{NoTwice, All-from_members, filter-in, filter-out, here, map-in, map-out, range-in}
use Rattle.cycle_encoding.proofs.Tables.{next_more}
use Rattle.cycle_encoding.proofs.Tests.{some_in}
use Rattle.cycle_encoding.proofs.Totals.{size-flat}
use Rattle.slot_capacity.specs.CapacityCounts.{IsSmall}
use Rattle.slot_capacity.specs.CapacitySteps.{AreApart}
use Rattle.slot_capacity.specs.Deadlines.{before_branch, deadlines, deadlines_within, first_made, first_of_row, is_guard, last_made, last_of_row, lowered, own_deadline, sooner, least_delay}
use Rattle.slot_capacity.specs.Due.{due_classes, due_within}
use Rattle.slot_capacity.specs.Limits.{all_limits, belongs, capacity_by, coming_by, from_cycle, group_limits, groups_of, is_first, is_limited, last_of, later_limits, limit_at, with_group}
use Rattle.slot_capacity.specs.Makers.{always_reads, can_come, is_made, makers_of, makes_own}
use Rattle.slot_capacity.specs.Spans.{span_of, spans_of}
use Rattle.slot_capacity.specs.declared.deadlines.Deadline.{Deadline}
use Rattle.slot_capacity.specs.declared.limits.Capacity.{Capacity}
use Rattle.slot_capacity.specs.declared.limits.Limit.{Limit}
use Rattle.slot_capacity.specs.declared.spans.Span.{Span}
use Rattle.slot_capacity.proofs.Extremes.{greatest-above, greatest-within, least-below}
use Rattle.slot_capacity.proofs.Keeping.{deadline-due, deadlines-once, due-of, due-once, limit-is}
use Rattle.slot_capacity.proofs.LaunchedVars.{once-apart}
use Rattle.slot_capacity.proofs.Matching.{keys-filter, matched}
use Rattle.slot_capacity.proofs.SpanFacts.{is-within}
use Rattle.slot_capacity.proofs.Things.{classes}

-- ---- lists

-- things that stand once, each of them also in another list
pub once-within : {X : Type 0} (xs ys : List X) → NoTwice xs → ((x : X) → Contains xs x → Contains ys x)
    → length xs ≤ length ys
once-within {X} xs ys once sub =
    matched (λ (x y : X). x ≡ y) (λ x z y p q. p ∙ sym q) xs ys once (λ x h. (x, sub x h, refl))

pub flat-few : {X A : Type 0} (f : X → List A) (n : ℕ) (xs : List X)
    → ((x : X) → Contains xs x → length (f x) ≤ n) → length (flat_map f xs) ≤ length xs * n
flat-few f n xs few =
    let a = size-flat f xs in
    let b = sum_by-le (λ x. length (f x)) n xs (All-from_members (λ x. length (f x) ≤ n) xs few) in
    omega arith

filter_few : {X : Type 0} (test : X → Bool) (xs : List X) → length (filter test xs) ≤ length xs
filter_few test xs = (let a = length-filter test xs in let b = count_by-le-length test xs in omega arith)

-- ---- spans

module _ (g : LaunchGraph) (listed : List Launch) (table : Table) (k : ℕ)
    (early : (l : Launch) → Contains listed l → l.cycle ≤ k) where
  abbrev spans : List (Option Span)
  spans = spans_of g listed

  span_of_bounds : (row : ℕ) (s : Span) → span_of listed row ≡ Some s → (s.first ≤ s.last) × (s.last ≤ k)
  span_of_bounds row s e =
      let test = λ (l : Launch). l.row == row in
      let w = is-within (filter test listed) 0 k (λ l h.
      let f = filter-out test listed l h in
      let le = early l f.0 in
      ((let z : 0 ≤ l.cycle = omega arith in z), le)) s e in
      (w.1, w.2)

  span_bounds : (row : ℕ) (s : Span) → get_or spans row None ≡ Some s → (s.first ≤ s.last) × (s.last ≤ k)
  span_bounds row s e = elim (cases_lt row (length g.rows + 1 + length g.sets)) [
    | inl lt ↦
        span_of_bounds row s
        (sym (get_or-map-range_with_len (span_of listed) 0 (length g.rows + 1 + length g.sets) row row None lt
        (omega arith))
        ∙ e)
    | inr ge ↦ (
        let size = length-map-range_with_len (span_of listed) 0 (length g.rows + 1 + length g.sets) in
        absurd (none-some s (sym (get_or_past spans row None (omega arith)) ∙ e)))
  ]

  last_row : (row : ℕ) (o : Option Span) → get_or spans row None ≡ o → option_map_or (λ (s : Span). s.last) o 0 ≤ k
  last_row row None e = omega arith
  last_row row (Some s) e = (span_bounds row s e).1

  last_within : (class : ℕ) → last_made g table k spans class ≤ k
  last_within class =
      greatest-within (map (last_of_row spans) (makers_of g spans class)) k (λ x h.
      let row = map-out (last_of_row spans) (makers_of g spans class) x h in
      let le = last_row row.0 (get_or spans row.0 None) refl in
      let e = row.2 in
      omega arith)

  -- a class that some row makes has a first cycle and a last one behind it
  made_spans : (class : ℕ) → is_made g spans class ≡ true
      → first_made g table k spans class ≤ last_made g table k spans class
  made_spans class h = by_rows (makers_of g spans class) refl
    where
      by_rows : (rows : List ℕ) → makers_of g spans class ≡ rows
          → first_made g table k spans class ≤ last_made g table k spans class
      by_rows [] e =
          absurd (false≢true (ap (λ (rows : List ℕ). nat_lt 0 (length rows)) (sym e) ∙ h))
      by_rows (row ∷ rows) e =
          let there : Contains (makers_of g spans class) row =
          subst (λ (xs : List ℕ). Contains xs row) (sym e) (here row rows) in
          let test = λ (row : ℕ). (class_at g row == class) && (makes_own g row && can_come spans row) in
          let f = filter-out test (row_numbers g) row there in
          let p = and_parts (class_at g row == class) (makes_own g row && can_come spans row) f.1 in
          let q = and_parts (makes_own g row) (can_come spans row) p.1 in
          let s = some_span (get_or spans row None) refl q.1 in
          let bounds = span_bounds row s.0 s.1 in
          let ordered = bounds.0 in
          let first : first_of_row spans row ≡ (s.0).first = ap (λ o. option_map_or (λ (s : Span). s.first) o 0) s.1 in
          let last : last_of_row spans row ≡ (s.0).last = ap (λ o. option_map_or (λ (s : Span). s.last) o 0) s.1 in
          let low =
          least-below (map (first_of_row spans) (makers_of g spans class)) (first_of_row spans row)
          (map-in (first_of_row spans) (makers_of g spans class) row there) in
          let high =
          greatest-above (map (last_of_row spans) (makers_of g spans class)) (last_of_row spans row)
          (map-in (last_of_row spans) (makers_of g spans class) row there) in
          omega arith
        where
          some_span : (o : Option Span) → get_or spans row None ≡ o → is_some o ≡ true
              → (s : Span) × (get_or spans row None ≡ Some s)
          some_span None e h = absurd (false≢true h)
          some_span (Some s) e h = (s, e)

  -- ---- deadlines

  pub record IsOrdered (x : Deadline) : Type 0 where
    pub some : x.first ≤ x.last
    pub ends_by : x.last ≤ k

  own_ordered : (class first last before : ℕ) → first ≤ last → last ≤ k → (b : Bool)
      → (first ≤ cond b (max first (min last before)) last) × (cond b (max first (min last before)) last ≤ k)
  own_ordered class first last before le lk true = (omega arith, omega arith)
  own_ordered class first last before le lk false = (le, lk)

  sooner_ordered : (x : Deadline) (last n : ℕ) → x.first ≤ last → last ≤ k → (b : Bool)
      → (x.first ≤ cond b (max x.first (min last n)) last) × (cond b (max x.first (min last n)) last ≤ k)
  sooner_ordered x last n le lk true = (omega arith, omega arith)
  sooner_ordered x last n le lk false = (le, lk)

  lowered_ordered : (x : Deadline) (readers : List Deadline) (last : ℕ) → x.first ≤ last → last ≤ k
      → (x.first ≤ fold (sooner g table k spans x) last readers) × (fold (sooner g table k spans x) last readers ≤ k)
  lowered_ordered x [] last le lk = (le, lk)
  lowered_ordered x (r ∷ rs) last le lk =
      let o =
      sooner_ordered x last (r.last - least_delay g table k spans x.class) le lk
      (always_reads g spans r.class x.class) in
      lowered_ordered x rs (sooner g table k spans x last r) o.0 o.1

  ordered_within : (n : ℕ) (x : Deadline) → Contains (deadlines_within g table k spans n) x → IsOrdered x
  ordered_within zero x h =
      let c = map-out (own_deadline g table k spans) (filter (is_made g spans) (due_classes g spans)) x h in
      let made = (filter-out (is_made g spans) (due_classes g spans) c.0 c.1).1 in
      let o =
      own_ordered c.0 (first_made g table k spans c.0) (last_made g table k spans c.0)
      (before_branch g table k spans c.0)
      (made_spans c.0 made) (last_within c.0) (is_guard g c.0) in
      subst IsOrdered c.2 (record { some = o.0; ends_by = o.1 })
  ordered_within (suc n) x h =
      let xs = deadlines_within g table k spans n in
      let y = map-out (lowered g table k spans xs) xs x h in
      let is = ordered_within n y.0 y.1 in
      let o = lowered_ordered y.0 xs (y.0).last is.some is.ends_by in
      subst IsOrdered y.2 (record { some = o.0; ends_by = o.1 })

  pub all-ordered : (x : Deadline) → Contains (deadlines g table k spans) x → IsOrdered x
  all-ordered x h = ordered_within k x h

-- ---- how many classes there are

next_below : (g : LaunchGraph) → IsLaunchGraph g → (n : ℕ) → n ≤ length g.rows → next_class (take n g.rows) ≤ n
next_below g well zero le = (let z : next_class (take 0 g.rows) ≡ 0 = refl in omega arith)
next_below g well (suc n) le =
    let lt : n < length g.rows = omega arith in
    let first : 0 < length g.rows = omega arith in
    let d = get_or g.rows n (g_row g.rows first) in
    let e = next_more g.rows n d lt in
    let ih = next_below g well n (omega arith) in
    let c : (get_or g.rows n d).class ≤ next_class (take n g.rows) =
    well.classes n (get_or g.rows n d) (slice_get-get_or g.rows n d lt) in
    let one = ap (λ m. next_class (take m g.rows)) (let z : n + 1 ≡ suc n = omega arith in z) in
    omega arith
  where
    g_row : (rows : List LaunchRow) → 0 < length rows → LaunchRow
    g_row [] lt = (let z : length {A = LaunchRow} [] ≡ 0 = refl in absurd (omega (arith, z)))
    g_row (r ∷ rows) lt = r

pub classes-few : (g : LaunchGraph) → IsLaunchGraph g → next_class g.rows < 2 ^ 30
classes-few g well =
    let few = well.few in
    let le = next_below g well (length g.rows) (omega arith) in
    let all = ap (λ (rows : List LaunchRow). next_class rows) (take_all (length g.rows) g.rows (omega arith)) in
    omega arith

-- ---- how many groups of slots there are

place_below : (o : Operate) → nat_lt (operate_place o) 66 ≡ true
place_below Addl = refl
place_below o = refl

kind_below : (i : InstrKind) → nat_lt (kind_number i) 66 ≡ true
kind_below (kinds.Operate o) = place_below o
kind_below kinds.Lda = refl
kind_below kinds.Ldah = refl
kind_below (kinds.Load Quad) = refl
kind_below (kinds.Load Byte) = refl
kind_below (kinds.Load Word) = refl
kind_below (kinds.Load Long) = refl
kind_below (kinds.Store Quad) = refl
kind_below (kinds.Store Byte) = refl
kind_below (kinds.Store Word) = refl
kind_below (kinds.Store Long) = refl
kind_below kinds.Beq = refl

kinds_once : (us : List Use) → AllPairs (λ u v. kind_number u.instr < kind_number v.instr) us
    → NoTwice (map (λ u. kind_number u.instr) us)
kinds_once [] h = tt
kinds_once (u ∷ us) h =
    let size : length (u ∷ us) ≡ suc (length us) = refl in (
      (λ c.
          let m = map-out (λ (u : Use). kind_number u.instr) us (kind_number u.instr) c in
          let there = m.1 in
          let lt = there.1 in
          let below : kind_number u.instr < kind_number (get_or us there.0 u).instr =
          h 0 (suc there.0) u (omega arith) (omega (arith, size)) in
          let same : get_or us there.0 u ≡ m.0 = get_or_default us there.0 u m.0 there.1 ∙ there.2 in
          let equal = ap (λ (v : Use). kind_number v.instr) same ∙ m.2 in
          omega arith),
      kinds_once us (λ i j d lt len. h (suc i) (suc j) d (omega arith) (omega (arith, size))),
    )

uses_few : (table : Table) → IsTable table → length table.uses ≤ 66
uses_few table well =
    let le =
    once-within (map (λ (u : Use). kind_number u.instr) table.uses) (range_with_len 0 66)
    (kinds_once table.uses well.order)
    (λ n h.
    let u = map-out (λ (u : Use). kind_number u.instr) table.uses n h in
    let lt = ltb-true (kind_number (u.0).instr) 66 (kind_below (u.0).instr) in
    let e = u.2 in
    range-in 0 66 n (omega arith) (omega arith)) in
    let a = size-map (λ (u : Use). kind_number u.instr) table.uses in
    let b = length-range_with_len 0 66 in
    omega arith

module _ (table : Table) where
  grown : (groups : List (List ℕ)) (slots : List ℕ) → length (with_group groups slots) ≤ length groups + 1
  grown groups slots = by_case (list_any (λ group. bytes_eq group slots) groups)
    where
      by_case : (b : Bool) → length (cond b groups (groups ++ slots ∷ [])) ≤ length groups + 1
      by_case true = omega arith
      by_case false =
          let a = length-append groups (slots ∷ []) in
          let s : length (slots ∷ []) ≡ 1 = refl in
          omega arith

  groups_from : (us : List Use) (groups : List (List ℕ))
      → length (fold (λ groups u. with_group groups (slots_of table u)) groups us) ≤ length groups + length us
  groups_from [] groups = omega arith
  groups_from (u ∷ us) groups =
      let ih = groups_from us (with_group groups (slots_of table u)) in
      let one = grown groups (slots_of table u) in
      let s : length (u ∷ us) ≡ suc (length us) = refl in
      omega arith

  pub groups-few : IsTable table → length (groups_of table) ≤ 66
  groups-few well =
      let a = groups_from table.uses [] in
      let b = uses_few table well in
      let z : length {A = List ℕ} [] ≡ 0 = refl in
      omega arith

  short : IsTable table → (u : Use) → length (slots_of table u) ≤ 8
  short well u =
      let a = filter_few (λ s. list_any (λ r. r == s) u.slots) (range_with_len 0 (length table.slots)) in
      let b = length-range_with_len 0 (length table.slots) in
      let c = (well.slots).1 in
      omega arith

  with_short : (groups : List (List ℕ)) (slots : List ℕ) → All (λ group. length group ≤ 8) groups → length slots ≤ 8
      → All (λ group. length group ≤ 8) (with_group groups slots)
  with_short groups slots all le = by_case (list_any (λ group. bytes_eq group slots) groups)
    where
      by_case : (b : Bool) → All (λ group. length group ≤ 8) (cond b groups (groups ++ slots ∷ []))
      by_case true = all
      by_case false = All-push (λ (group : List ℕ). length group ≤ 8) groups slots all le

  groups_short : IsTable table → (us : List Use) (groups : List (List ℕ)) → All (λ group. length group ≤ 8) groups
      → All (λ group. length group ≤ 8) (fold (λ groups u. with_group groups (slots_of table u)) groups us)
  groups_short well [] groups all = all
  groups_short well (u ∷ us) groups all =
      groups_short well us (with_group groups (slots_of table u))
      (with_short groups (slots_of table u) all (short well u))

  -- each group has eight slots at most
  pub all-short : IsTable table → All (λ group. length group ≤ 8) (groups_of table)
  all-short well = groups_short well table.uses [] (All-nil (λ (group : List ℕ). length group ≤ 8))

-- ---- limits

module _ (g : LaunchGraph) (table : Table) (k : ℕ) (spans : List (Option Span)) (xs : List Deadline)
    (is_table : IsTable table)
    (cycles : k ≤ most_cycles) (early : (x : Deadline) → Contains xs x → x.last ≤ k) where
  last_early : (ys : List Deadline) → ((x : Deadline) → Contains ys x → Contains xs x) → last_of ys ≤ k
  last_early ys sub =
      greatest-within (map (λ (x : Deadline). x.last) ys) k (λ n h.
      let x = map-out (λ (x : Deadline). x.last) ys n h in
      let le = early x.0 (sub x.0 x.1) in
      let e = x.2 in
      omega arith)

  one_few : (b : Bool) (m : Limit) → length (cond b (m ∷ []) []) ≤ 1
  one_few true m = (let s : length (m ∷ []) ≡ 1 = refl in omega arith)
  one_few false m = (let z : length {A = Limit} [] ≡ 0 = refl in omega arith)

  abbrev members_of : List ℕ → List Deadline
  members_of group = filter (λ x. belongs g table spans group x.class) xs

  later_few : (group : List ℕ) (e : ℕ) → length (later_limits group (from_cycle e (members_of group)) e) ≤ 25
  later_few group e =
      let later = from_cycle e (members_of group) in
      let last =
      last_early later (λ x h.
      (filter-out (λ (x : Deadline). belongs g table spans group x.class) xs x
      (filter-out (λ (x : Deadline). nat_le e x.first) (members_of group) x h).0).0) in
      let n = last_of later + 1 - e in
      let a =
      flat-few (limit_at group later e) 1 (range_with_len e n) (λ t h.
      one_few (nat_lt (length group * (t + 1 - e)) (length (coming_by t later)))
      (record { due = coming_by t later; cycle = t; most = length group * (t + 1 - e) })) in
      let b = length-range_with_len e n in
      omega arith

  group_few : (group : List ℕ) → length (group_limits g table k spans xs group) ≤ 600
  group_few group =
      let a =
      flat-few (λ e. later_limits group (from_cycle e (members_of group)) e) 25
      (filter (is_first (members_of group)) (range_with_len 0 k)) (λ e h. later_few group e) in
      let b = filter_few (is_first (members_of group)) (range_with_len 0 k) in
      let c = length-range_with_len 0 k in
      omega arith

  limits_few : length (all_limits g table k spans xs) < 2 ^ 16
  limits_few =
      let a = flat-few (group_limits g table k spans xs) 600 (groups_of table) (λ group h. group_few group) in
      let b = groups-few table is_table in
      omega arith

  most_few : (m : Limit) → Contains (all_limits g table k spans xs) m → m.most ≤ 200
  most_few m h =
      let is = limit-is g table k spans xs m h in
      let group : length is.group ≤ 8 =
      All-contains (λ (group : List ℕ). length group ≤ 8) (groups_of table) is.group (all-short table is_table)
      is.known in
      let last =
      last_early (from_cycle is.begin (filter (λ x. belongs g table spans is.group x.class) xs)) (λ x h.
      (filter-out (λ (x : Deadline). belongs g table spans is.group x.class) xs x
      (filter-out (λ (x : Deadline). nat_le is.begin x.first)
      (filter (λ (x : Deadline). belongs g table spans is.group x.class) xs) x h).0).0) in
      let until = is.until in
      let le = mul-le (length is.group) (m.cycle + 1 - is.begin) 8 25 group (omega arith) in
      let e = is.most_is in
      omega arith

  due_few : NoTwice (classes xs) → (m : Limit) → Contains (all_limits g table k spans xs) m
      → length m.due ≤ length (filter (is_limited (all_limits g table k spans xs)) xs)
  due_few once m h =
      let limits = all_limits g table k spans xs in
      let is = limit-is g table k spans xs m h in
      let of = λ (x : Deadline). x.class in
      let le =
      once-within (classes m.due) (classes (filter (is_limited limits) xs)) (due-once g table spans xs m is once)
      (λ c hc.
      let x = map-out of m.due c hc in
      let due = due-of g table spans xs m is x.0 x.1 in
      subst (λ c. Contains (classes (filter (is_limited limits) xs)) c) x.2
      (map-in of (filter (is_limited limits) xs) x.0
      (filter-in (is_limited limits) xs x.0 due.among
      (some_in (λ (m : Limit). list_any (λ (y : Deadline). y.class == (x.0).class) m.due) limits m h
      (some_in (λ (y : Deadline). y.class == (x.0).class) m.due x.0 x.1 (eq-eqb (x.0).class (x.0).class refl)))))) in
      let a = size-map of m.due in
      let b = size-map of (filter (is_limited limits) xs) in
      omega arith

-- ---- capacity

module _ (g : LaunchGraph) (table : Table) (k : ℕ) (listed : List Launch) (well : IsLaunchGraph g)
    (is_table : IsTable table)
    (cycles : k ≤ most_cycles) (early : (l : Launch) → Contains listed l → l.cycle ≤ k) where
  abbrev of_listed : Capacity
  of_listed = capacity_by g table k (spans_of g listed)

  abbrev all : List Deadline
  all = deadlines g table k (spans_of g listed)

  abbrev limits : List Limit
  limits = all_limits g table k (spans_of g listed) all

  ordered : (x : Deadline) → Contains all x → IsOrdered g listed table k early x
  ordered x h = all-ordered g listed table k early x h

  counted_among : (x : Deadline) → Contains of_listed.counted x → Contains all x
  counted_among x h = (filter-out (is_limited limits) all x h).0

  pub capacity-apart : AreApart of_listed.counted
  capacity-apart = record {
    apart = once-apart of_listed.counted (keys-filter (λ (x : Deadline). x.class) (is_limited limits) all
        (deadlines-once g table k (spans_of g listed)));
    some = All-from_members (λ (x : Deadline). x.first ≤ x.last) of_listed.counted
        (λ x h. (ordered x (counted_among x h)).some);
    early = All-from_members (λ (x : Deadline). x.last < 2 ^ 29) of_listed.counted (λ x h.
        let le = (ordered x (counted_among x h)).ends_by in
        (let z : x.last < 2 ^ 29 = omega arith in z));
  }

  few_classes : length all < 2 ^ 30
  few_classes =
      let a = size-map (λ (x : Deadline). x.class) all in
      let b =
      once-within (classes all) (classes_of g) (deadlines-once g table k (spans_of g listed)) (λ c h.
      deadline_class c h) in
      let c = length-range_with_len 0 (next_class g.rows) in
      let d = classes-few g well in
      omega arith
    where
      deadline_class : (c : ℕ) → Contains (classes all) c → Contains (classes_of g) c
      deadline_class c h = due_class (next_class g.rows) c (deadline-due g table k (spans_of g listed) c h)
        where
          due_class : (n c : ℕ) → Contains (due_within g (spans_of g listed) n) c → Contains (classes_of g) c
          due_class zero c h = (filter-out _ (classes_of g) c h).0
          due_class (suc n) c h = (filter-out _ (classes_of g) c h).0

  pub capacity-small : IsSmall of_listed
  capacity-small =
      let few = few_classes in
      let less = filter_few (is_limited limits) all in
      let last = λ (x : Deadline) (h : Contains all x). (ordered x h).ends_by in
      record {
        counted = omega arith;
        early = All-from_members (λ (x : Deadline). x.last ≤ most_cycles) of_listed.counted (λ x h.
            let le = (ordered x (counted_among x h)).ends_by in
            (let z : x.last ≤ most_cycles = omega arith in z));
        limits = limits_few g table k (spans_of g listed) all is_table cycles last;
        due = All-from_members (λ (m : Limit). length m.due ≤ length of_listed.counted) limits
            (due_few g table k (spans_of g listed) all is_table cycles last
            (deadlines-once g table k (spans_of g listed)));
        most = All-from_members (λ (m : Limit). m.most ≤ 200) limits
            (most_few g table k (spans_of g listed) all is_table cycles last);
      }
