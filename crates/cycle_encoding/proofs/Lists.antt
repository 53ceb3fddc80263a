-- Which launches have variables where sets may have pins, that none has two, and what is overwritten.
use Rattle.std.proofs.Common.{◌≡◌, ℕ, ◌+◌, ◌-◌, ◌<◌, ◌≤◌, Bool, true, false, not, cond, inl, inr, List, [], ◌∷◌, length, map, refl, sym, ap, ◌∙◌, subst, arith, Option, Some, None}
use Rattle.std.specs.Prelude.{◌==◌, ◌&&◌, Contains, IsSomeAnd, option_map, option_and_then, unwrap_or, slice_get, ◌⊎◌}
use Rattle.std.specs.Option.{option_map_or}
use Rattle.std.specs.List.{All, filter, flat_map, list_any, range_with_len}
use Rattle.std.proofs.lemmas.Bool.{false≢true, cases_Bool, not-true, not_from_false, and_parts, and_from, eqb-true, eq-eqb}
use Rattle.std.proofs.lemmas.List.Elements.{All-contains, All-filter}
use Rattle.machine_table.specs.Tables.{IsTable, IsUse, use_of, latency_of, MayUse}
use Rattle.machine_table.specs.InstrOrder.{kind_number}
use Rattle.graph_meaning.specs.Graphs.{is_input_register}
use Rattle.schedule_meaning.specs.Launches.{instr_at, class_at, gives_word, is_load, pin_of, set_at}
use Rattle.schedule_meaning.specs.Fits.{CanLaunch, EndsBy}
use Rattle.machine_table.specs.declared.tables.Table.{Table}
use Rattle.machine_table.specs.declared.tables.Use.{Use}
use Rattle.machine_table.specs.declared.tables.InstrKind.{InstrKind}
use Rattle.machine_table.specs.declared.tables.InstrKind.TheVariants.{Beq}
use Rattle.graph_meaning.specs.declared.graphs.LaunchGraph.{LaunchGraph}
use Rattle.graph_meaning.specs.declared.graphs.SetClass.{SetClass}
use Rattle.schedule_meaning.specs.declared.schedules.To.{To}
use Rattle.schedule_meaning.specs.declared.schedules.To.TheVariants.{Pool, Set}
use Rattle.schedule_meaning.specs.declared.schedules.Allocation.{Allocation}
use Rattle.schedule_meaning.specs.declared.schedules.Allocation.TheVariants.{Block, Live}
use Rattle.schedule_meaning.specs.declared.schedules.Launch.{Launch}
use Rattle.schedule_meaning.proofs.Rules.{in_list}
use Rattle.cycle_encoding.specs.Variables.{slots_of}
use Rattle.cycle_encoding.specs.CycleFormula.{Listed}
use Rattle.cycle_encoding.specs.CycleRules.{HasPlace, MayGo, MayGoTo, MayGoToPin}
use Rattle.cycle_encoding.specs.Variables.{takes, takes_pin, destinations, set_numbers, use_launches, row_launches, row_numbers, all_launches, is_overwriting, overwriting_sets, all_overwritten, Overwritten}
use Rattle.cycle_encoding.specs.Narrow.{IsPinnedList}
use Rattle.cycle_encoding.specs.CycleRules.{KeepsCycleRules}
use Rattle.cycle_encoding.proofs.Tests.{some_of, some_in}
use Rattle.cycle_encoding.proofs.Members.{NoTwice, here, later, either, filter-in, filter-out, find-out, map-in, map-out, flat-in, flat-out, range-in, range-out, filter-once, map-once, flat-once, range-once, All-from_members, nothing}
use Rattle.cycle_encoding.proofs.RowFacts.{some-and}
use Rattle.cycle_encoding.proofs.PinnedRows.{within}

-- what holds of each launch that has a variable
pub record IsListed (g : LaunchGraph) (table : Table) (a : Allocation) (k : ℕ) (l : Launch) : Type 0 where
  pub can : CanLaunch g table l
  pub goes : MayGo g a l
  pub ends : EndsBy g table k l
  pub slot : l.slot < length table.slots
  pub early : l.cycle < k

module _ {X A : Type 0} (f : X → List A) where
  option-out : (o : Option X) (a : A) → Contains (option_map_or f o []) a → (x : X) × (o ≡ Some x) × Contains (f x) a
  option-out None a h = absurd (nothing a h)
  option-out (Some x) a h = (x, refl, h)

  option-once : (o : Option X) → ((x : X) → NoTwice (f x)) → NoTwice (option_map_or f o [])
  option-once None h = tt
  option-once (Some x) h = h x

-- ---- launches

abbrev at : ℕ → ℕ → ℕ → To → Launch
at row slot cycle to = record { cycle = cycle; slot = slot; row = row; to = to }

abbrev number_of : To → ℕ
number_of Pool = 0
number_of (Set j) = j

module _ (g : LaunchGraph) (a : Allocation) where
  pool_apart : (js : List ℕ) → Contains (map Set js) Pool → ⊥
  pool_apart js h = (let m = map-out Set js Pool h in different m.0 m.2)
    where
      different : (j : ℕ) → Set j ≡ Pool → ⊥
      different j e = cc

  sets_once : (b : Bool) (js : List ℕ) → NoTwice js → NoTwice (Pool ∷ cond b (map Set js) [])
  sets_once true js once = (pool_apart js, map-once number_of Set (λ j. refl) js once)
  sets_once false js once = ((λ h. nothing Pool h), tt)

  destinations-once : (i : InstrKind) (row : ℕ) → NoTwice (destinations g a i row)
  destinations-once i row =
      sets_once (gives_word i) (filter (takes g a i (class_at g row)) (set_numbers g)) (filter-once (takes g a i (class_at g row)) (set_numbers g) (range-once 0 (length g.sets)))

  -- a launch that may go where it goes goes to the pool, or to a pin
  abbrev pub GoesTo : Launch → To → Type 0
  GoesTo l to =
      ((to ≡ Pool) × (pin_of g to ≡ None)) ⊎ ((r : ℕ) × (s : SetClass) × (set_at g to ≡ Some s) × (pin_of g to ≡ Some
      r) × MayGoToPin g a l s r)

  goes_pin : (l : Launch) (j : ℕ) (s : SetClass) → slice_get g.sets j ≡ Some s → (o : Option ℕ) → s.pin ≡ o
      → IsSomeAnd o (MayGoToPin g a l s) → GoesTo l (Set j)
  goes_pin l j s e None t h = absurd h
  goes_pin l j s e (Some r) t h = inr (r, s, e, ap (option_and_then (λ s. s.pin)) e ∙ t, h)

  goes_set : (l : Launch) (j : ℕ) (o : Option SetClass) → slice_get g.sets j ≡ o
      → IsSomeAnd o (λ s. IsSomeAnd s.pin (MayGoToPin g a l s)) → GoesTo l (Set j)
  goes_set l j None e h = absurd h
  goes_set l j (Some s) e h = goes_pin l j s e s.pin refl h

  goes_by : (l : Launch) (to : To) → MayGoTo g a l to → GoesTo l to
  goes_by l Pool h = inl (refl, refl)
  goes_by l (Set j) h = goes_set l j (slice_get g.sets j) refl h

  pub goes_of : (l : Launch) → MayGo g a l → GoesTo l l.to
  goes_of l h = goes_by l l.to h

  -- a word of the instruction may go to the pin where it isn't that of a load which overwrites, or the launches are by live
  -- ranges
  takes_by : (b : Allocation) (i : InstrKind) (r : ℕ) → takes_pin g b i r ≡ true → is_load i ≡ true
      → is_input_register g r ≡ true → b ≡ Live
  takes_by Live i r h load input = refl
  takes_by Block i r h load input =
      absurd (false≢true (sym (not-true (is_load i && is_input_register g r) h)
      ∙ and_from (is_load i) (is_input_register g r) load input))

  by_takes : (b : Allocation) (i : InstrKind) (r : ℕ) → (is_load i ≡ true → is_input_register g r ≡ true → b ≡ Live)
      → takes_pin g b i r ≡ true
  by_takes Live i r h = refl
  by_takes Block i r h =
      elim (cases_Bool (is_load i && is_input_register g r)) [
        | inl t ↦ (let q = and_parts (is_load i) (is_input_register g r) t in absurd (different (h q.0 q.1)))
        | inr f ↦ not_from_false (is_load i && is_input_register g r) f
      ]
    where
      different : Block ≡ Live → ⊥
      different e = cc

  -- a destination is one to which the launch can go
  pin_takes : (i : InstrKind) (c : ℕ) (s : SetClass) (o : Option ℕ)
      → ((s.class == c) && option_map_or (takes_pin g a i) o false) ≡ true
      → (r : ℕ) × (o ≡ Some r) × (s.class ≡ c) × (takes_pin g a i r ≡ true)
  pin_takes i c s None h = absurd (false≢true (and_parts (s.class == c) false h).1)
  pin_takes i c s (Some r) h =
      let p = and_parts (s.class == c) (takes_pin g a i r) h in
      (r, refl, eqb-true s.class c p.0, p.1)

  set_takes : (i : InstrKind) (c j : ℕ) (o : Option SetClass) → slice_get g.sets j ≡ o
      → option_map_or (λ s. (s.class == c) && option_map_or (takes_pin g a i) s.pin false) o false ≡ true
      → (s : SetClass) × (r : ℕ) × (slice_get g.sets j ≡ Some s) × (s.pin ≡ Some r) × (s.class ≡ c)
      × (takes_pin g a i r ≡ true)
  set_takes i c j None e h = absurd (false≢true h)
  set_takes i c j (Some s) e h = (let p = pin_takes i c s s.pin h in (s, p.0, e, p.1, p.2, p.3))

  when_then : {A : Type 0} (b : Bool) (xs : List A) (x : A) → Contains (cond b xs []) x → (b ≡ true) × Contains xs x
  when_then true xs x h = (refl, h)
  when_then false xs x h = absurd (nothing x h)

  abbrev taking : InstrKind → ℕ → List ℕ
  taking i c = filter (takes g a i c) (set_numbers g)

  go-by : (l : Launch) (i : InstrKind) → instr_at g l.row ≡ Some i → (to : To)
      → Contains (destinations g a i l.row) to → MayGoTo g a l to
  go-by l i e Pool h = tt
  go-by l i e (Set j) h =
      elim (either Pool (Set j) (cond (gives_word i) (map Set (taking i (class_at g l.row))) []) h) [
        | inl same ↦ absurd (different same)
        | inr c ↦ (
            let w = when_then (gives_word i) (map Set (taking i (class_at g l.row))) (Set j) c in
            let m = map-out Set (taking i (class_at g l.row)) (Set j) w.1 in
            let f = filter-out (takes g a i (class_at g l.row)) (set_numbers g) m.0 m.1 in
            let n : m.0 ≡ j = set_same m.0 j m.2 in
            let t =
            set_takes i (class_at g l.row) j (slice_get g.sets j) refl
            (subst (λ j. takes g a i (class_at g l.row) j ≡ true) n f.1) in
            subst (λ o. IsSomeAnd o (λ s. IsSomeAnd s.pin (MayGoToPin g a l s))) (sym t.2)
            (subst (λ o. IsSomeAnd o (MayGoToPin g a l t.0)) (sym t.3)
            (record {
              gives = (ap (λ o. option_map_or gives_word o false) e ∙ w.0, sym t.4);
              loads_over = λ load input.
                  takes_by a i t.1 t.5 (ap (λ o. option_map_or is_load o false) (sym e) ∙ load) input;
            })))
      ]
    where
      different : Pool ≡ Set j → ⊥
      different e = cc

      set_same : (a b : ℕ) → Set a ≡ Set b → a ≡ b
      set_same a b e = cc

  -- and each such is one
  go-in : (l : Launch) (i : InstrKind) → instr_at g l.row ≡ Some i → (to : To) → MayGoTo g a l to
      → Contains (destinations g a i l.row) to
  go-in l i e Pool h = here Pool (cond (gives_word i) (map Set (taking i (class_at g l.row))) [])
  go-in l i e (Set j) h = by_set (slice_get g.sets j) refl h
    where
      by_pin : (s : SetClass) → slice_get g.sets j ≡ Some s → (o : Option ℕ) → s.pin ≡ o
          → IsSomeAnd o (MayGoToPin g a l s) → Contains (destinations g a i l.row) (Set j)
      by_pin s at None p h = absurd h
      by_pin s at (Some r) p h =
          let lt : j < length g.sets = in_list g.sets j s at in
          let gave : gives_word i ≡ true = ap (λ o. option_map_or gives_word o false) (sym e) ∙ h.gives.0 in
          let may : takes_pin g a i r ≡ true =
          by_takes a i r (λ load input. h.loads_over (ap (λ o. option_map_or is_load o false) e ∙ load) input) in
          let taken : takes g a i (class_at g l.row) j ≡ true =
          ap
          (λ o. option_map_or
          (λ s. (s.class == class_at g l.row) && option_map_or (takes_pin g a i) s.pin false) o false) at
          ∙ ap (λ o. (s.class == class_at g l.row) && option_map_or (takes_pin g a i) o false) p
          ∙ and_from (s.class == class_at g l.row) (takes_pin g a i r)
          (eq-eqb s.class (class_at g l.row) (sym h.gives.1)) may in
          later Pool (Set j) (cond (gives_word i) (map Set (taking i (class_at g l.row))) [])
          (subst (λ b. Contains (cond b (map Set (taking i (class_at g l.row))) []) (Set j)) (sym gave)
          (map-in Set (taking i (class_at g l.row)) j
          (filter-in (takes g a i (class_at g l.row)) (set_numbers g) j
          (range-in 0 (length g.sets) j (omega arith) (omega arith)) taken)))

      by_set : (o : Option SetClass) → slice_get g.sets j ≡ o → IsSomeAnd o (λ s. IsSomeAnd s.pin (MayGoToPin g a l s))
          → Contains (destinations g a i l.row) (Set j)
      by_set None at h = absurd h
      by_set (Some s) at h = by_pin s at s.pin refl h

module _ (g : LaunchGraph) (table : Table) (a : Allocation) (k : ℕ) where
  abbrev cycles_for : Use → List ℕ
  cycles_for u = range_with_len 0 (k + 1 - u.latency - 0)

  abbrev in_slot : ℕ → List To → Use → ℕ → List Launch
  in_slot row tos u s = flat_map (λ t. map (at row s t) tos) (cycles_for u)

  abbrev use_all : ℕ → List To → Use → List Launch
  use_all row tos u = use_launches table k row 0 tos u

  use_row : (row : ℕ) (tos : List To) (u : Use) (l : Launch) → Contains (use_all row tos u) l → (l.row ≡ row) × Contains (slots_of table u) l.slot × (l.cycle < k + 1 - u.latency) × Contains tos l.to
  use_row row tos u l h =
      let s = flat-out (in_slot row tos u) (slots_of table u) l h in
      let t = flat-out (λ t. map (at row s.0 t) tos) (cycles_for u) l s.2 in
      let o = map-out (at row s.0 t.0) tos l t.2 in
      let b = (range-out 0 (k + 1 - u.latency - 0) t.0 t.1).1 in
      let same : t.0 ≡ l.cycle = ap (λ (l : Launch). l.cycle) o.2 in (
        sym (ap (λ (l : Launch). l.row) o.2),
        subst (λ x. Contains (slots_of table u) x) (ap (λ (l : Launch). l.slot) o.2) s.1,
        omega arith,
        subst (λ x. Contains tos x) (ap (λ (l : Launch). l.to) o.2) o.1,
      )

  row_row : (row : ℕ) (l : Launch) → Contains (row_launches g table a k (Some 0) row) l → l.row ≡ row
  row_row row l h =
      let i = option-out (λ i. option_map_or (use_all row (destinations g a i row)) (use_of table i) []) (instr_at g row) l h in
      let u = option-out (use_all row (destinations g a i.0 row)) (use_of table i.0) l i.2 in
      (use_row row (destinations g a i.0 row) u.0 l u.2).0

  use_once : (row : ℕ) (tos : List To) → NoTwice tos → (u : Use) → NoTwice (use_all row tos u)
  use_once row tos once u =
      flat-once (λ (l : Launch). l.slot) (in_slot row tos u)
      (λ s l h. let t = flat-out (λ t. map (at row s t) tos) (cycles_for u) l h in let o = map-out (at row s t.0) tos l t.2 in sym (ap (λ (l : Launch). l.slot) o.2))
      (λ s. flat-once (λ (l : Launch). l.cycle) (λ t. map (at row s t) tos)
      (λ t l h. let o = map-out (at row s t) tos l h in sym (ap (λ (l : Launch). l.cycle) o.2))
      (λ t. map-once (λ (l : Launch). l.to) (at row s t) (λ to. refl) tos once)
      (cycles_for u) (range-once 0 (k + 1 - u.latency - 0)))
      (slots_of table u) (filter-once (λ s. list_any (λ r. r == s) u.slots) (range_with_len 0 (length table.slots)) (range-once 0 (length table.slots)))

  -- no launch has two variables
  pub launches-once : NoTwice (all_launches g table a k)
  launches-once =
      flat-once (λ (l : Launch). l.row) (row_launches g table a k (Some 0)) row_row
      (λ row. option-once (λ i. option_map_or (use_all row (destinations g a i row)) (use_of table i) []) (instr_at g row) (λ i. option-once (use_all row (destinations g a i row)) (use_of table i) (use_once row (destinations g a i row) (destinations-once g a i row))))
      (row_numbers g) (range-once 0 (length g.rows + 1 + length g.sets))

  latency_is : (i : InstrKind) (u : Use) (o : Option InstrKind) → o ≡ Some i → use_of table i ≡ Some u → unwrap_or (latency_of table (unwrap_or o Beq)) 0 ≡ u.latency
  latency_is i u o ei eu = ap (λ o. unwrap_or (option_map (λ (u : Use). u.latency) (use_of table (unwrap_or o Beq))) 0) ei ∙ ap (λ o. unwrap_or (option_map (λ (u : Use). u.latency) o) 0) eu

  module _ (well : IsTable table) where
    use_is : (i : InstrKind) (u : Use) → use_of table i ≡ Some u → IsUse table u
    use_is i u e = All-contains (IsUse table) table.uses u well.uses (find-out (λ (u : Use). kind_number u.instr == kind_number i) table.uses u e).0

    -- each launch that has a variable
    pub listed-one : (l : Launch) → Contains (all_launches g table a k) l → IsListed g table a k l
    listed-one l h =
        let r = flat-out (row_launches g table a k (Some 0)) (row_numbers g) l h in
        let i = option-out (λ i. option_map_or (use_all r.0 (destinations g a i r.0)) (use_of table i) []) (instr_at g r.0) l r.2 in
        let u = option-out (use_all r.0 (destinations g a i.0 r.0)) (use_of table i.0) l i.2 in
        let is = use_row r.0 (destinations g a i.0 r.0) u.0 l u.2 in
        let instr : instr_at g l.row ≡ Some i.0 = ap (instr_at g) is.0 ∙ i.1 in
        let s = filter-out (λ s. list_any (λ r. r == s) (u.0).slots) (range_with_len 0 (length table.slots)) l.slot is.1 in
        let member = some_of (λ r. r == l.slot) (u.0).slots s.1 in
        let slot : Contains (u.0).slots l.slot = subst (λ x. Contains (u.0).slots x) (eqb-true member.0 l.slot member.2) member.1 in
        let latency = latency_is i.0 u.0 (instr_at g l.row) instr u.1 in
        let least = (use_is i.0 u.0 u.1).latency in
        let one : 1 ≤ (u.0).latency = least.0 in
        let bound : l.cycle < k + 1 - (u.0).latency = is.2 in
        let there : Contains (destinations g a i.0 l.row) l.to = subst (λ row. Contains (destinations g a i.0 row) l.to) (sym is.0) is.3 in
        record {
          goes = go-by g a l i.0 instr l.to there;
          can = subst (λ o. IsSomeAnd o (λ i. MayUse table i l.slot)) (sym instr) (subst (λ o. IsSomeAnd o (λ u. Contains u.slots l.slot)) (sym u.1) slot);
          ends = omega arith;
          slot = (let b = (range-out 0 (length table.slots) l.slot s.0).1 in omega arith);
          early = omega arith;
        }

    pub listed-all : All (IsListed g table a k) (all_launches g table a k)
    listed-all = All-from_members (IsListed g table a k) (all_launches g table a k) listed-one

    -- each launch that can be made and ends by k has one
    pub listed-in : (l : Launch) → CanLaunch g table l → MayGo g a l → EndsBy g table k l → Contains (all_launches g table a k) l
    listed-in l can goes ends =
        let i = some-and (instr_at g l.row) (λ i. MayUse table i l.slot) can in
        let u = some-and (use_of table i.0) (λ u. Contains u.slots l.slot) i.2 in
        let known = use_is i.0 u.0 u.1 in
        let slot : l.slot < length table.slots = All-contains (λ s. s < length table.slots) (u.0).slots l.slot known.exist u.2 in
        let latency = latency_is i.0 u.0 (instr_at g l.row) i.1 u.1 in
        let slots : Contains (slots_of table u.0) l.slot = filter-in (λ s. list_any (λ r. r == s) (u.0).slots) (range_with_len 0 (length table.slots)) l.slot (range-in 0 (length table.slots) l.slot (omega arith) (omega arith)) (some_in (λ r. r == l.slot) (u.0).slots l.slot u.2 (eq-eqb l.slot l.slot refl)) in
        let cycle : Contains (range_with_len 0 (k + 1 - (u.0).latency - 0)) l.cycle = range-in 0 (k + 1 - (u.0).latency - 0) l.cycle (omega arith) (omega arith) in
        let tos : List To = destinations g a i.0 l.row in
        let by_use : Contains (use_all l.row tos u.0) l =
        flat-in (in_slot l.row tos u.0) (slots_of table u.0) l.slot l slots
        (flat-in (λ t. map (at l.row l.slot t) tos) (cycles_for u.0) l.cycle l cycle (map-in (at l.row l.slot l.cycle) tos l.to (go-in g a l i.0 i.1 l.to goes))) in
        let by_row : Contains (row_launches g table a k (Some 0) l.row) l =
        subst (λ o. Contains (option_map_or (λ i. option_map_or (use_all l.row (destinations g a i l.row)) (use_of table i) []) o []) l) (sym i.1)
        (subst (λ o. Contains (option_map_or (use_all l.row tos) o []) l) (sym u.1) by_use) in
        flat-in (row_launches g table a k (Some 0)) (row_numbers g) l.row l (range-in 0 (length g.rows + 1 + length g.sets) l.row (omega arith) (let w = within g l.row i.0 i.1 in omega arith)) by_row

    -- launches that can be made and end by k are in slots of the table and below k
    place : (l : Launch) → CanLaunch g table l → EndsBy g table k l → HasPlace table k l
    place l can ends =
        let i = some-and (instr_at g l.row) (λ i. MayUse table i l.slot) can in
        let u = some-and (use_of table i.0) (λ u. Contains u.slots l.slot) i.2 in
        let known = use_is i.0 u.0 u.1 in
        let latency = latency_is i.0 u.0 (instr_at g l.row) i.1 u.1 in
        let one : 1 ≤ (u.0).latency = known.latency.0 in
        (All-contains (λ s. s < length table.slots) (u.0).slots l.slot known.exist u.2, omega arith)

    pub pinned-places : (ls : List Launch) → KeepsCycleRules g table a k ls → All (HasPlace table k) ls
    pinned-places ls rules =
        All-from_members (HasPlace table k) ls (λ l h.
        place l (All-contains (CanLaunch g table) ls l rules.rows h) (All-contains (EndsBy g table k) ls l rules.in_time h))

    -- the launches of the pinned encoding
    pub pinned-listed : (e : Listed) → IsPinnedList g table a k e → All (IsListed g table a k) e.launches
    pinned-listed e n = subst (λ (ls : List Launch). All (IsListed g table a k) ls) (sym n.launches_are) (All-filter n.keep (IsListed g table a k) (all_launches g table a k) listed-all)

module _ (g : LaunchGraph) (table : Table) (k : ℕ) where
  -- ---- what is overwritten

  abbrev overwritten_at : ℕ → ℕ → Overwritten
  overwritten_at j t = record { set = j; cycle = t }

  pub over-in : (j t : ℕ) → Contains (overwriting_sets g) j → t ≤ k → Contains (all_overwritten g k) (overwritten_at j t)
  over-in j t hj le =
      flat-in (λ j. map (overwritten_at j) (range_with_len 0 (k + 1))) (overwriting_sets g) j (overwritten_at j t) hj
      (map-in (overwritten_at j) (range_with_len 0 (k + 1)) t (range-in 0 (k + 1) t (omega arith) (omega arith)))

  pub over-out : (v : Overwritten) → Contains (all_overwritten g k) v → (is_overwriting g v.set ≡ true) × (v.cycle ≤ k)
  over-out v h =
      let j = flat-out (λ j. map (overwritten_at j) (range_with_len 0 (k + 1))) (overwriting_sets g) v h in
      let t = map-out (overwritten_at j.0) (range_with_len 0 (k + 1)) v j.2 in
      let b = (range-out 0 (k + 1) t.0 t.1).1 in
      let same : t.0 ≡ v.cycle = ap (λ (v : Overwritten). v.cycle) t.2 in
      (subst (λ x. is_overwriting g x ≡ true) (ap (λ (v : Overwritten). v.set) t.2) (filter-out (is_overwriting g) (set_numbers g) j.0 j.1).1, omega arith)

  pub over-once : NoTwice (all_overwritten g k)
  over-once =
      flat-once (λ (v : Overwritten). v.set) (λ j. map (overwritten_at j) (range_with_len 0 (k + 1)))
      (λ j v h. let t = map-out (overwritten_at j) (range_with_len 0 (k + 1)) v h in sym (ap (λ (v : Overwritten). v.set) t.2))
      (λ j. map-once (λ (v : Overwritten). v.cycle) (overwritten_at j) (λ t. refl) (range_with_len 0 (k + 1)) (range-once 0 (k + 1)))
      (overwriting_sets g) (filter-once (is_overwriting g) (set_numbers g) (range-once 0 (length g.sets)))
