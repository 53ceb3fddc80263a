-- From when to when the launches of a row are.
use Rattle.std.proofs.Common.{◌≡◌, ℕ, ◌+◌, ◌-◌, ◌<◌, ◌≤◌, Bool, true, false, min, max, List, [], ◌∷◌, length, get_or, map, refl, sym, ap, subst, ◌∙◌, arith, inl, inr, Option, Some, None}
use Rattle.std.specs.Prelude.{◌==◌, not, is_some, Contains, fold, option_map, ◌⊎◌}
use Rattle.std.specs.Option.{option_map_or}
use Rattle.std.specs.List.{filter, flat_map, list_any, range_with_len}
use Rattle.std.proofs.lemmas.Bool.{and_parts, cases_lt, eq-eqb, eqb-true, false≢true, not-true}
use Rattle.std.proofs.lemmas.List.Elements.{All-contains, Contains-get_or}
use Rattle.std.proofs.lemmas.List.FromFn.{length-map-range_with_len, get_or-map-range_with_len}
use Rattle.std.proofs.lemmas.List.{get_or_past}
use Rattle.std.proofs.lemmas.Option.{none-some, same_Some}
use Rattle.machine_table.specs.Tables.{IsTable, IsUse, latency_of, use_of}
use Rattle.machine_table.specs.InstrOrder.{kind_number}
use Rattle.machine_table.specs.declared.tables.InstrKind.{InstrKind}
use Rattle.machine_table.specs.declared.tables.Table.{Table}
use Rattle.machine_table.specs.declared.tables.Use.{Use}
use Rattle.graph_meaning.specs.declared.graphs.LaunchGraph.{LaunchGraph}
use Rattle.schedule_meaning.specs.Launches.{class_at, instr_at, is_branch}
use Rattle.graph_meaning.specs.WellFormed.{IsLaunchGraph, next_class}
use Rattle.cycle_encoding.specs.Counts.{row_is}
use Rattle.cycle_encoding.proofs.ComeSteps.{low-class}
use Rattle.slot_capacity.specs.Makers.{can_come, has, makes_own, reads_of}
use Rattle.schedule_meaning.specs.declared.schedules.Allocation.{Allocation}
use Rattle.schedule_meaning.specs.declared.schedules.Launch.{Launch}
use Rattle.schedule_meaning.specs.declared.schedules.To.{To}
use Rattle.schedule_meaning.specs.declared.schedules.To.TheVariants.{Pool}
use Rattle.cycle_encoding.specs.Variables.{destinations, launches_from, row_launches, row_numbers, slots_of, use_launches}
use Rattle.cycle_encoding.proofs.Members.{either, filter-in, filter-out, find-out, flat-in, flat-out, here, later, map-in, map-out, nothing, range-in, range-out}
use Rattle.cycle_encoding.proofs.PinnedRows.{within}
use Rattle.cycle_encoding.proofs.Tests.{some_in}
use Rattle.slot_capacity.specs.Spans.{span_of, spans_of, widened}
use Rattle.slot_capacity.specs.declared.spans.Span.{Span}
use Rattle.slot_capacity.proofs.Loops.{none-pass}

-- ---- spans of lists

-- a span that has been found only grows
pub grows : (ls : List Launch) (s : Span)
    → (t : Span) × (fold widened (Some s) ls ≡ Some t) × (t.first ≤ s.first) × (s.last ≤ t.last)
grows [] s = (s, refl, omega arith, omega arith)
grows (l ∷ ls) s =
    let r = grows ls (record { first = min s.first l.cycle; last = max s.last l.cycle }) in
    let a = r.2 in
    let b = r.3 in
    (r.0, r.1, omega arith, omega arith)

covered_here : (ls : List Launch) (m l : Launch) → m.cycle ≡ l.cycle → (o : Option Span)
    → (s : Span) × (fold widened (widened o m) ls ≡ Some s) × (s.first ≤ l.cycle) × (l.cycle ≤ s.last)
covered_here ls m l e None =
    let r = grows ls (record { first = m.cycle; last = m.cycle }) in
    let a = r.2 in
    let b = r.3 in
    (r.0, r.1, omega arith, omega arith)
covered_here ls m l e (Some s) =
    let r = grows ls (record { first = min s.first m.cycle; last = max s.last m.cycle }) in
    let a = r.2 in
    let b = r.3 in
    (r.0, r.1, omega arith, omega arith)

-- each launch is in the span
pub covered : (ls : List Launch) (o : Option Span) (l : Launch) → Contains ls l
    → (s : Span) × (fold widened o ls ≡ Some s) × (s.first ≤ l.cycle) × (l.cycle ≤ s.last)
covered [] o l h = absurd (nothing l h)
covered (m ∷ ls) o l h = elim (either m l ls h) [
  | inl e ↦ covered_here ls m l (ap (λ (l : Launch). l.cycle) e) o
  | inr c ↦ covered ls (widened o m) l c
]

-- a span has a launch
pub has-launch : (ls : List Launch) (s : Span) → fold widened None ls ≡ Some s → (l : Launch) × Contains ls l
has-launch [] s e = absurd (none-some s e)
has-launch (l ∷ ls) s e = (l, here l ls)

-- and is within what its launches are within
pub kept-within : (ls : List Launch) (low high : ℕ)
    → ((l : Launch) → Contains ls l → (low ≤ l.cycle) × (l.cycle ≤ high))
    → (s t : Span) → low ≤ s.first → s.first ≤ s.last → s.last ≤ high → fold widened (Some s) ls ≡ Some t
    → (low ≤ t.first) × (t.first ≤ t.last) × (t.last ≤ high)
kept-within [] low high h s t a b c e =
    let same = same_Some s t e in
    let first : s.first ≡ t.first = ap (λ (s : Span). s.first) same in
    let last : s.last ≡ t.last = ap (λ (s : Span). s.last) same in
    (omega arith, omega arith, omega arith)
kept-within (l ∷ ls) low high h s t a b c e =
    let p = h l (here l ls) in
    let p0 = p.0 in
    let p1 = p.1 in
    kept-within ls low high (λ m k. h m (later l m ls k))
    (record { first = min s.first l.cycle; last = max s.last l.cycle }) t (omega arith) (omega arith) (omega arith) e

pub is-within : (ls : List Launch) (low high : ℕ) → ((l : Launch) → Contains ls l → (low ≤ l.cycle) × (l.cycle ≤ high))
    → (t : Span) → fold widened None ls ≡ Some t → (low ≤ t.first) × (t.first ≤ t.last) × (t.last ≤ high)
is-within [] low high h t e = absurd (none-some t e)
is-within (l ∷ ls) low high h t e =
    let p = h l (here l ls) in
    kept-within ls low high (λ m k. h m (later l m ls k)) (record { first = l.cycle; last = l.cycle }) t p.0
    (omega arith)
    p.1 e

-- a span from the first cycle of some launch to the last one
pub span-is : (ls : List Launch) (low high : ℕ)
    → ((l : Launch) → Contains ls l → (low ≤ l.cycle) × (l.cycle ≤ high)) → (x y : Launch) → Contains ls x → x.cycle
    ≡ low
    → Contains ls y → y.cycle ≡ high → fold widened None ls ≡ Some (record { first = low; last = high })
span-is ls low high h x y hx ex hy ey =
    let a = covered ls None x hx in
    let b = covered ls None y hy in
    let t : Span = a.0 in
    let same : t ≡ b.0 = same_Some t b.0 (sym a.1 ∙ b.1) in
    let last : t.last ≡ (b.0).last = ap (λ (s : Span). s.last) same in
    let w = is-within ls low high h t a.1 in
    let a2 = a.2 in
    let b3 = b.3 in
    let w0 = w.0 in
    let w2 = w.2 in
    let e0 : t.first ≡ low = omega arith in
    let e1 : t.last ≡ high = omega arith in
    a.1 ∙ ap Some (ap (λ n. the_span n t.last) e0 ∙ ap (λ n. the_span low n) e1)
  where
    the_span : ℕ → ℕ → Span
    the_span a b = record { first = a; last = b }

-- ---- spans of rows

-- what a launch of a row that begins in its first cycle is
pub record IsFrom (g : LaunchGraph) (table : Table) (a : Allocation) (k : ℕ) (firsts : ℕ → Option ℕ)
    (l : Launch) : Type 0
  where
    pub instr : InstrKind
    pub used : Use
    pub first : ℕ
    pub instr_is : instr_at g l.row ≡ Some instr
    pub use_is : use_of table instr ≡ Some used
    pub first_is : firsts l.row ≡ Some first
    pub slot : Contains (slots_of table used) l.slot
    pub begins : first ≤ l.cycle
    pub ends : l.cycle < k + 1 - used.latency
    pub goes : Contains (destinations g a instr l.row) l.to

module _ (g : LaunchGraph) (table : Table) (a : Allocation) (k : ℕ) (firsts : ℕ → Option ℕ) where
  abbrev at : ℕ → ℕ → ℕ → To → Launch
  at row slot cycle to = record { cycle = cycle; slot = slot; row = row; to = to }

  abbrev of_first : ℕ → List To → Use → ℕ → List Launch
  of_first row tos u n = use_launches table k row n tos u

  abbrev of_use : ℕ → List To → Use → List Launch
  of_use row tos u = option_map_or (of_first row tos u) (firsts row) []

  abbrev of_instr : ℕ → InstrKind → List Launch
  of_instr row i = option_map_or (of_use row (destinations g a i row)) (use_of table i) []

  abbrev of_row : ℕ → List Launch
  of_row row = row_launches g table a k (firsts row) row

  option-out : {X : Type 0} (f : X → List Launch) (o : Option X) (l : Launch) → Contains (option_map_or f o []) l
      → (x : X) × (o ≡ Some x) × Contains (f x) l
  option-out f None l h = absurd (nothing l h)
  option-out f (Some x) l h = (x, refl, h)

  abbrev in_slot : ℕ → List To → ℕ → ℕ → ℕ → List Launch
  in_slot row tos n m s = flat_map (λ t. map (at row s t) tos) (range_with_len n (m - n))

  row-out : (row : ℕ) (l : Launch) → Contains (of_row row) l → (l.row ≡ row) × IsFrom g table a k firsts l
  row-out row l h =
      let i = option-out (of_instr row) (instr_at g row) l h in
      let tos = destinations g a i.0 row in
      let u = option-out (of_use row tos) (use_of table i.0) l i.2 in
      let n = option-out (of_first row tos u.0) (firsts row) l u.2 in
      let s = flat-out (in_slot row tos n.0 (k + 1 - (u.0).latency)) (slots_of table u.0) l n.2 in
      let t = flat-out (λ t. map (at row s.0 t) tos) (range_with_len n.0 (k + 1 - (u.0).latency - n.0)) l s.2 in
      let o = map-out (at row s.0 t.0) tos l t.2 in
      let b = range-out n.0 (k + 1 - (u.0).latency - n.0) t.0 t.1 in
      let b0 = b.0 in
      let b1 = b.1 in
      let cycle : t.0 ≡ l.cycle = ap (λ (l : Launch). l.cycle) o.2 in
      let is : row ≡ l.row = ap (λ (l : Launch). l.row) o.2 in (
        sym is,
        record {
          instr = i.0;
          used = u.0;
          first = n.0;
          instr_is = ap (instr_at g) (sym is) ∙ i.1;
          use_is = u.1;
          first_is = ap firsts (sym is) ∙ n.1;
          slot = subst (λ x. Contains (slots_of table u.0) x) (ap (λ (l : Launch). l.slot) o.2) s.1;
          begins = omega arith;
          ends = omega arith;
          goes = subst (λ x. Contains (destinations g a i.0 x) l.to) is
              (subst (λ x. Contains tos x) (ap (λ (l : Launch). l.to) o.2) o.1);
        },
      )

  pub from-out : (l : Launch) → Contains (launches_from g table a k firsts) l → IsFrom g table a k firsts l
  from-out l h = (let r = flat-out of_row (row_numbers g) l h in (row-out r.0 l r.2).1)

  row-in : (l : Launch) → IsFrom g table a k firsts l → Contains (of_row l.row) l
  row-in l is =
      let u = is.used in
      let tos = destinations g a is.instr l.row in
      let b = is.begins in
      let e = is.ends in
      subst (λ o. Contains (option_map_or (of_instr l.row) o []) l) (sym is.instr_is)
      (subst (λ o. Contains (option_map_or (of_use l.row tos) o []) l) (sym is.use_is)
      (subst (λ o. Contains (option_map_or (of_first l.row tos u) o []) l) (sym is.first_is)
      (flat-in (in_slot l.row tos is.first (k + 1 - u.latency)) (slots_of table u) l.slot l is.slot
      (flat-in (λ t. map (at l.row l.slot t) tos) (range_with_len is.first (k + 1 - u.latency - is.first)) l.cycle l
      (range-in is.first (k + 1 - u.latency - is.first) l.cycle b (omega arith))
      (map-in (at l.row l.slot l.cycle) tos l.to is.goes)))))

  pub from-in : (l : Launch) → IsFrom g table a k firsts l → Contains (launches_from g table a k firsts) l
  from-in l is =
      let w = within g l.row is.instr is.instr_is in
      flat-in of_row (row_numbers g) l.row l
      (range-in 0 (length g.rows + 1 + length g.sets) l.row (omega arith) (omega arith)) (row-in l is)

  abbrev of_number : ℕ → List Launch
  of_number row = filter (λ l. l.row == row) (launches_from g table a k firsts)

  number-out : (row : ℕ) (l : Launch) → Contains (of_number row) l → (l.row ≡ row) × IsFrom g table a k firsts l
  number-out row l h =
      let f = filter-out (λ (l : Launch). l.row == row) (launches_from g table a k firsts) l h in
      (eqb-true l.row row f.1, from-out l f.0)

  -- where no launch of the row's number is listed, it has no span
  pub no-span : (row : ℕ) → ((l : Launch) → l.row ≡ row → IsFrom g table a k firsts l → ⊥)
      → None ≡ span_of (launches_from g table a k firsts) row
  no-span row none =
      sym (ap (fold widened None)
      (none-pass (λ (l : Launch). l.row == row) (launches_from g table a k firsts)
      (λ l h. never l h (l.row == row) refl)))
    where
      never : (l : Launch) → Contains (launches_from g table a k firsts) l → (b : Bool) → (l.row == row) ≡ b → b ≡ false
      never l h true e = absurd (none l (eqb-true l.row row e) (from-out l h))
      never l h false e = refl

  -- the span of a row's number from which some launch can start so early that it ends by k
  pub the-span : IsTable table → (row : ℕ) (i : InstrKind) (u : Use) (first : ℕ) → instr_at g row ≡ Some i
      → use_of table i ≡ Some u → firsts row ≡ Some first → u.latency ≤ k → first ≤ k - u.latency
      → span_of (launches_from g table a k firsts) row ≡ Some (record { first = first; last = k - u.latency })
  the-span well row i u first ei eu ef lk fl =
      let known : IsUse table u =
      All-contains (IsUse table) table.uses u well.uses
      (find-out (λ (u : Use). kind_number u.instr == kind_number i) table.uses u eu).0 in
      let some = known.some in
      let slot : ℕ = get_or u.slots 0 0 in
      let of : Contains u.slots slot = Contains-get_or u.slots 0 0 some in
      let exists : slot < length table.slots = All-contains (λ s. s < length table.slots) u.slots slot known.exist of in
      let listed : Contains (slots_of table u) slot =
      filter-in (λ s. list_any (λ r. r == s) u.slots) (range_with_len 0 (length table.slots)) slot
      (range-in 0 (length table.slots) slot (omega arith) (omega arith))
      (some_in (λ r. r == slot) u.slots slot of (eq-eqb slot slot refl)) in
      let one : 1 ≤ u.latency = known.latency.0 in
      let member : (t : ℕ) → first ≤ t → t < k + 1 - u.latency → Contains (of_number row) (at row slot t Pool) =
      λ t b e. filter-in (λ (l : Launch). l.row == row) (launches_from g table a k firsts) (at row slot t Pool)
      (from-in (at row slot t Pool)
      (record {
        instr = i;
        used = u;
        first = first;
        instr_is = ei;
        use_is = eu;
        first_is = ef;
        slot = listed;
        begins = b;
        ends = e;
        goes = here Pool _;
      }))
      (eq-eqb row row refl) in
      span-is (of_number row) first (k - u.latency) (λ l h. bounds l (number-out row l h)) (at row slot first Pool)
      (at row slot (k - u.latency) Pool) (member first (omega arith) (omega arith)) refl
      (member (k - u.latency) fl (omega arith)) refl
    where
      bounds : (l : Launch) → (l.row ≡ row) × IsFrom g table a k firsts l
          → (first ≤ l.cycle) × (l.cycle ≤ k - u.latency)
      bounds l p =
          let is = p.1 in
          let instr : is.instr ≡ i = same_Some is.instr i (sym is.instr_is ∙ ap (instr_at g) p.0 ∙ ei) in
          let uses : is.used ≡ u = same_Some is.used u (sym is.use_is ∙ ap (use_of table) instr ∙ eu) in
          let latency : (is.used).latency ≡ u.latency = ap (λ (u : Use). u.latency) uses in
          let begins : is.first ≡ first = same_Some is.first first (sym is.first_is ∙ ap firsts p.0 ∙ ef) in
          let b = is.begins in
          let e = is.ends in
          (omega arith, omega arith)

  -- ---- by the cases of the code

  use_by : (o : Option Use) (n : ℕ) → option_map (λ u. u.latency) o ≡ Some n
      → (u : Use) × (o ≡ Some u) × (u.latency ≡ n)
  use_by None n e = absurd (none-some n e)
  use_by (Some u) n e = (u, refl, same_Some u.latency n e)

  no_use : (o : Option Use) → option_map (λ u. u.latency) o ≡ None → o ≡ None
  no_use None e = refl
  no_use (Some u) e = absurd (none-some u.latency (sym e))

  pub span-no-instr : (row : ℕ) → instr_at g row ≡ None → None ≡ span_of (launches_from g table a k firsts) row
  span-no-instr row e =
      no-span row (λ l r is. none-some is.instr (sym e ∙ ap (instr_at g) (sym r) ∙ is.instr_is))

  module _ (row : ℕ) (i : InstrKind) (ei : instr_at g row ≡ Some i) where
    of_instr_is : (l : Launch) → l.row ≡ row → (is : IsFrom g table a k firsts l) → use_of table i ≡ Some is.used
    of_instr_is l r is =
        ap (use_of table) (same_Some i is.instr (sym ei ∙ ap (instr_at g) (sym r) ∙ is.instr_is)) ∙ is.use_is

    pub span-no-latency : latency_of table i ≡ None → None ≡ span_of (launches_from g table a k firsts) row
    span-no-latency e =
        no-span row (λ l r is. none-some is.used (sym (no_use (use_of table i) e) ∙ of_instr_is l r is))

    pub span-no-first : firsts row ≡ None → None ≡ span_of (launches_from g table a k firsts) row
    span-no-first e = no-span row (λ l r is. none-some is.first (sym e ∙ ap firsts (sym r) ∙ is.first_is))

    module _ (n first : ℕ) (el : latency_of table i ≡ Some n) (ef : firsts row ≡ Some first) where
      pub span-late : (k < n) ⊎ (k - n < first) → None ≡ span_of (launches_from g table a k firsts) row
      span-late late = no-span row (λ l r is. late_by l r is late)
        where
          late_by : (l : Launch) → l.row ≡ row → IsFrom g table a k firsts l → (k < n) ⊎ (k - n < first) → ⊥
          late_by l r is late =
              let u = use_by (use_of table i) n el in
              let uses : u.0 ≡ is.used = same_Some u.0 is.used (sym u.1 ∙ of_instr_is l r is) in
              let latency : (u.0).latency ≡ (is.used).latency = ap (λ (u : Use). u.latency) uses in
              let is_n = u.2 in
              let begins : is.first ≡ first = same_Some is.first first (sym is.first_is ∙ ap firsts r ∙ ef) in
              let b = is.begins in
              let e = is.ends in
              elim late [ inl x ↦ absurd (omega arith) | inr x ↦ absurd (omega arith) ]

      pub span-there : IsTable table → n ≤ k → first ≤ k - n
          → Some (record { first = first; last = k - n }) ≡ span_of (launches_from g table a k firsts) row
      span-there well nk fn =
          let u = use_by (use_of table i) n el in
          let is_n : (u.0).latency ≡ n = u.2 in
          ap (λ m. Some (the_span first (k - m))) (sym is_n)
          ∙ sym (the-span well row i u.0 first ei u.1 ef (omega arith) (omega arith))
        where
          the_span : ℕ → ℕ → Span
          the_span a b = record { first = a; last = b }

  -- the span at a row's number
  pub span-at : (row : ℕ) (d : Option Span)
      → row < length g.rows + 1 + length g.sets
      → get_or (spans_of g (launches_from g table a k firsts)) row d ≡ span_of (launches_from g table a k firsts) row
  span-at row d lt =
      get_or-map-range_with_len (span_of (launches_from g table a k firsts)) 0 (length g.rows + 1 + length g.sets)
      row row d
      lt (omega arith)

  -- a row's number that has a launch has an instruction
  pub coming-launch : (row : ℕ) → can_come (spans_of g (launches_from g table a k firsts)) row ≡ true
      → (l : Launch) × (l.row ≡ row) × Contains (launches_from g table a k firsts) l
  coming-launch row h = elim (cases_lt row (length g.rows + 1 + length g.sets)) [
    | inl lt ↦ found (span_of launches row) refl (ap is_some (sym (span-at row None lt)) ∙ h)
    | inr le ↦ (
        let size = length-map-range_with_len (span_of launches) 0 (length g.rows + 1 + length g.sets) in
        absurd (false≢true (ap is_some (sym (get_or_past (spans_of g launches) row None (omega arith))) ∙ h)))
  ]
    where
      launches : List Launch
      launches = launches_from g table a k firsts

      found : (o : Option Span) → span_of launches row ≡ o → is_some o ≡ true
          → (l : Launch) × (l.row ≡ row) × Contains launches l
      found None e h = absurd (false≢true h)
      found (Some s) e h =
          let l = has-launch (of_number row) s e in
          let f = filter-out (λ (l : Launch). l.row == row) launches l.0 l.1 in
          (l.0, eqb-true (l.0).row row f.1, f.0)

  -- if it makes its class, that is one of the graph's
  pub coming-low : IsLaunchGraph g → (row : ℕ) → makes_own g row ≡ true
      → can_come (spans_of g (launches_from g table a k firsts)) row ≡ true → class_at g row < next_class g.rows
  coming-low well row own come =
      let l = coming-launch row come in
      let is = from-out l.0 l.2 in
      let instr : instr_at g row ≡ Some is.instr = ap (instr_at g) (sym l.1) ∙ is.instr_is in
      let p = and_parts (not (row_is g is_branch row)) (not (has (reads_of g row) (class_at g row))) own in
      let no_branch = ap (λ o. option_map_or is_branch o false) (sym instr) ∙ not-true (row_is g is_branch row) p.0 in
      low-class g table a well row is.instr instr no_branch
