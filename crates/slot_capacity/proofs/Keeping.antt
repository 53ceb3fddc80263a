-- A schedule that fits keeps what is said of due classes: no more are launched from one cycle to another than there are
-- slots and cycles.
use Rattle.std.proofs.Common.{◌≡◌, ℕ, zero, suc, ◌+◌, ◌-◌, ◌*◌, ◌<◌, ◌≤◌, min, Bool, true, false, cond, List, [], ◌∷◌, length, map, refl, sym, ap, ◌∙◌, subst, arith, inl, inr, Option}
use Rattle.std.specs.Prelude.{◌==◌, All, Contains, nat_le, nat_lt, option_and_then}
use Rattle.std.specs.Option.{option_map_or}
use Rattle.std.specs.List.{count_by, filter, flat_map, list_any, range_with_len}
use Rattle.std.proofs.lemmas.Bool.{eq-eqb, leb-true}
use Rattle.std.proofs.lemmas.List.Elements.{All-contains}
use Rattle.std.proofs.lemmas.List.FromFn.{length-range_with_len}
use Rattle.std.proofs.lemmas.List.Sums.{length-filter}
use Rattle.machine_table.specs.Tables.{IsTable, use_of}
use Rattle.machine_table.specs.declared.tables.Table.{Table}
use Rattle.graph_meaning.specs.WellFormed.{next_class}
use Rattle.graph_meaning.specs.declared.graphs.LaunchGraph.{LaunchGraph}
use Rattle.schedule_meaning.specs.Fits.{Collide, Fits}
use Rattle.schedule_meaning.specs.Launches.{class_at}
use Rattle.schedule_meaning.specs.declared.schedules.Allocation.{Allocation}
use Rattle.schedule_meaning.specs.declared.schedules.Allocation.TheVariants.{Block, Live}
use Rattle.schedule_meaning.specs.declared.schedules.Launch.{Launch}
use Rattle.cycle_encoding.specs.Variables.{classes_of, slots_of}
use Rattle.cycle_encoding.proofs.Launched.{size-map}
use Rattle.cycle_encoding.proofs.Members.{All-from_members, NoTwice, either, filter-in, filter-once, filter-out, flat-in, flat-out, map-in, map-out, nothing, range-in, range-once, range-out}
use Rattle.cycle_encoding.proofs.Tests.{some_in}
use Rattle.slot_capacity.specs.Deadlines.{deadlines, deadlines_within, own_deadline, lowered}
use Rattle.slot_capacity.specs.Due.{due_classes, due_within}
use Rattle.slot_capacity.specs.Limits.{all_limits, belongs, capacity_by, capacity_of, coming_by, from_cycle, group_limits, groups_of, is_first, is_limited, last_of, later_limits, limit_at, row_belongs, row_slots}
use Rattle.slot_capacity.specs.Makers.{has, is_made, makers_of}
use Rattle.slot_capacity.specs.Spans.{spans_of}
use Rattle.slot_capacity.specs.declared.deadlines.Deadline.{Deadline}
use Rattle.slot_capacity.specs.declared.limits.Limit.{Limit}
use Rattle.slot_capacity.specs.declared.spans.Span.{Span}
use Rattle.slot_capacity.proofs.Coming.{Makes, has-out, use-known, used-at}
use Rattle.slot_capacity.proofs.MakerLists.{map-of-map}
use Rattle.slot_capacity.proofs.Matching.{flat-length, keys-filter, matched, one-place}
use Rattle.slot_capacity.proofs.Meeting.{all-met, made-from, maker-row}
use Rattle.slot_capacity.proofs.RowSlots.{all-at}
use Rattle.slot_capacity.proofs.Suffices.{Keeps, by-launched, was_launched}
use Rattle.slot_capacity.proofs.Things.{classes, thing}

-- ---- each due class has one deadline

due_once : (g : LaunchGraph) (spans : List (Option Span)) (n : ℕ) → NoTwice (due_within g spans n)
due_once g spans zero = filter-once _ (classes_of g) (range-once 0 (next_class g.rows))
due_once g spans (suc n) = filter-once _ (classes_of g) (range-once 0 (next_class g.rows))

map_itself : (xs : List ℕ) → map (λ x. x) xs ≡ xs
map_itself [] = refl
map_itself (x ∷ xs) = ap (λ ys. x ∷ ys) (map_itself xs)

module _ (g : LaunchGraph) (table : Table) (k : ℕ) (spans : List (Option Span)) where
  classes_within : (n : ℕ)
      → classes (deadlines_within g table k spans n) ≡ filter (is_made g spans) (due_classes g spans)
  classes_within zero =
      map-of-map (λ (x : Deadline). x.class) (own_deadline g table k spans)
      (filter (is_made g spans) (due_classes g spans))
      ∙ map_itself (filter (is_made g spans) (due_classes g spans))
  classes_within (suc n) =
      map-of-map (λ (x : Deadline). x.class) (lowered g table k spans (deadlines_within g table k spans n))
      (deadlines_within g table k spans n)
      ∙ classes_within n

  pub deadlines-once : NoTwice (classes (deadlines g table k spans))
  deadlines-once =
      subst (λ (cs : List ℕ). NoTwice cs) (sym (classes_within k))
      (filter-once (is_made g spans) (due_classes g spans) (due_once g spans (next_class g.rows)))

  -- a deadline is that of a due class
  pub deadline-due : (c : ℕ) → Contains (classes (deadlines g table k spans)) c → Contains (due_classes g spans) c
  deadline-due c h =
      (filter-out (is_made g spans) (due_classes g spans) c
      (subst (λ (cs : List ℕ). Contains cs c) (classes_within k) h)).0

  due_low : (n c : ℕ) → Contains (due_within g spans n) c → c < next_class g.rows
  due_low zero c h =
      (let r = range-out 0 (next_class g.rows) c (filter-out _ (classes_of g) c h).0 in omega arith)
  due_low (suc n) c h =
      (let r = range-out 0 (next_class g.rows) c (filter-out _ (classes_of g) c h).0 in omega arith)

  -- and its class one of the graph's
  pub deadlines-low : (n : ℕ) → All (λ x. x.class < next_class g.rows) (deadlines_within g table k spans n)
  deadlines-low n =
      All-from_members (λ (x : Deadline). x.class < next_class g.rows) (deadlines_within g table k spans n)
      (λ x h. due_low (next_class g.rows) x.class
      (filter-out (is_made g spans) (due_classes g spans) x.class
      (subst (λ (cs : List ℕ). Contains cs x.class) (classes_within n)
      (map-in (λ (x : Deadline). x.class) (deadlines_within g table k spans n) x h))).0)

-- ---- limits

-- a limit of a group of slots from a cycle on
pub record IsLimit (g : LaunchGraph) (table : Table) (spans : List (Option Span)) (xs : List Deadline)
    (m : Limit) : Type 0
  where
    pub group : List ℕ
    pub begin : ℕ
    pub known : Contains (groups_of table) group
    pub from : begin ≤ m.cycle
    pub due_are : m.due
        ≡ coming_by m.cycle (from_cycle begin (filter (λ x. belongs g table spans group x.class) xs))
    pub most_is : m.most ≡ length group * (m.cycle + 1 - begin)
    pub until : m.cycle ≤ last_of (from_cycle begin (filter (λ x. belongs g table spans group x.class) xs))

when_one : {X : Type 0} (b : Bool) (x y : X) → Contains (cond b (x ∷ []) []) y → x ≡ y
when_one true x y h = elim (either x y [] h) [ inl e ↦ e | inr c ↦ absurd (nothing y c) ]
when_one false x y h = absurd (nothing y h)

module _ (g : LaunchGraph) (table : Table) (k : ℕ) (spans : List (Option Span)) (xs : List Deadline) where
  pub limit-is : (m : Limit) → Contains (all_limits g table k spans xs) m → IsLimit g table spans xs m
  limit-is m h =
      let group = flat-out (group_limits g table k spans xs) (groups_of table) m h in
      let members = filter (λ (x : Deadline). belongs g table spans group.0 x.class) xs in
      let e =
      flat-out (λ e. later_limits group.0 (from_cycle e members) e) (filter (is_first members) (range_with_len 0 k)) m
      group.2 in
      let later = from_cycle e.0 members in
      let t = flat-out (limit_at group.0 later e.0) (range_with_len e.0 (last_of later + 1 - e.0)) m e.2 in
      let r = range-out e.0 (last_of later + 1 - e.0) t.0 t.1 in
      let low = r.0 in
      let high = r.1 in
      let the : Limit = record {
        due = coming_by t.0 later;
        cycle = t.0;
        most = length group.0 * (t.0 + 1 - e.0);
      } in
      let same : the ≡ m =
      when_one (nat_lt (length group.0 * (t.0 + 1 - e.0)) (length (coming_by t.0 later))) the m t.2 in
      subst (IsLimit g table spans xs) same (record {
        group = group.0;
        begin = e.0;
        known = group.1;
        from = low;
        due_are = refl;
        most_is = refl;
        until = omega arith;
      })

-- what one of the due classes of a limit is
pub record IsDueOf (g : LaunchGraph) (table : Table) (spans : List (Option Span)) (xs : List Deadline) (m : Limit)
    (l : IsLimit g table spans xs m) (x : Deadline) : Type 0 where
  pub among : Contains xs x
  pub belongs_to : belongs g table spans l.group x.class ≡ true
  pub begins : l.begin ≤ x.first
  pub comes : x.first ≤ m.cycle

pub due-of : (g : LaunchGraph) (table : Table) (spans : List (Option Span)) (xs : List Deadline) (m : Limit)
    (l : IsLimit g table spans xs m) (x : Deadline) → Contains m.due x → IsDueOf g table spans xs m l x
due-of g table spans xs m l x h =
    let members = filter (λ (x : Deadline). belongs g table spans l.group x.class) xs in
    let a = filter-out (λ (x : Deadline). nat_le x.first m.cycle) (from_cycle l.begin members) x
    (subst (λ (ys : List Deadline). Contains ys x) l.due_are h) in
    let b = filter-out (λ (x : Deadline). nat_le l.begin x.first) members x a.0 in
    let c = filter-out (λ (x : Deadline). belongs g table spans l.group x.class) xs x b.0 in
    record {
      among = c.0;
      belongs_to = c.1;
      begins = leb-true l.begin x.first b.1;
      comes = leb-true x.first m.cycle a.1;
    }

pub due-once : (g : LaunchGraph) (table : Table) (spans : List (Option Span)) (xs : List Deadline) (m : Limit)
    → IsLimit g table spans xs m → NoTwice (classes xs) → NoTwice (classes m.due)
due-once g table spans xs m l once =
    let members = filter (λ (x : Deadline). belongs g table spans l.group x.class) xs in
    let of = λ (x : Deadline). x.class in
    subst (λ (ys : List Deadline). NoTwice (classes ys)) (sym l.due_are)
    (keys-filter of (λ (x : Deadline). nat_le x.first m.cycle) (from_cycle l.begin members)
    (keys-filter of (λ (x : Deadline). nat_le l.begin x.first) members
    (keys-filter of (λ (x : Deadline). belongs g table spans l.group x.class) xs once)))

-- ---- a schedule

module _ (g : LaunchGraph) (table : Table) (a : Allocation) (k : ℕ) (listed ls : List Launch) (is_table : IsTable table)
    (fit : Fits g table a k ls) (among : (l : Launch) → Contains ls l → Contains listed l) where
  abbrev spans : List (Option Span)
  spans = spans_of g listed

  abbrev xs : List Deadline
  xs = deadlines g table k spans

  -- the slot of a launch is one of its row's
  slot_there : (l : Launch) → Contains ls l → Contains (row_slots g table l.row) l.slot
  slot_there l h =
      let u = used-at g table a k ls is_table fit l h in
      let known = use-known g table a k ls is_table fit u.instr u.used u.use_is in
      let exists = All-contains (λ s. s < length table.slots) (u.used).slots l.slot known.exist u.slot in
      subst (λ o. Contains (option_map_or (slots_of table) o []) l.slot)
      (sym (ap (option_and_then (use_of table)) u.instr_is ∙ u.use_is))
      (filter-in (λ s. list_any (λ r. r == s) (u.used).slots) (range_with_len 0 (length table.slots)) l.slot
      (range-in 0 (length table.slots) l.slot (omega arith) (omega arith))
      (some_in (λ r. r == l.slot) (u.used).slots l.slot u.slot (eq-eqb l.slot l.slot refl)))

  -- a launch that makes the class, in a slot and cycle
  abbrev Placed : ℕ → ℕ × ℕ → Type 0
  Placed c p = (l : Launch) × Makes g ls c l × (l.slot ≡ p.0) × (l.cycle ≡ p.1)

  placed_once : (c d : ℕ) (p : ℕ × ℕ) → Placed c p → Placed d p → c ≡ d
  placed_once c d p (l, m, s, t) (l2, m2, s2, t2) =
      let same : l ≡ l2 =
      one-place Collide ls fit.apart l l2 m.there m2.there (t ∙ sym t2, s ∙ sym s2) (t2 ∙ sym t, s2 ∙ sym s) in
      sym m.class ∙ ap (λ (l : Launch). class_at g l.row) same ∙ m2.class

  module _ (m : Limit) (is : IsLimit g table spans xs m) where
    abbrev cycles : ℕ
    cycles = m.cycle + 1 - is.begin

    abbrev places_of : ℕ → List (ℕ × ℕ)
    places_of s = map (λ t. (s, t)) (range_with_len is.begin cycles)

    abbrev places : List (ℕ × ℕ)
    places = flat_map places_of is.group

    abbrev passes : Deadline → Bool
    passes x = was_launched g ls (thing x.class (min m.cycle x.last))

    place_of : (c : ℕ) → Contains (classes (filter passes m.due)) c → (p : ℕ × ℕ) × Contains places p × Placed c p
    place_of c h =
        let x = map-out (λ (x : Deadline). x.class) (filter passes m.due) c h in
        let f = filter-out passes m.due x.0 x.1 in
        let due = due-of g table spans xs m is x.0 f.0 in
        let l = by-launched g ls (x.0).class (min m.cycle (x.0).last) f.1 in
        let makes = l.1 in
        let meets = all-met g table a k listed ls is_table fit among x.0 due.among in
        let first = meets.first in
        let from = made-from g table a k listed ls is_table fit among (x.0).class l.0 makes in
        let until = l.2 in
        let begins = due.begins in
        let row : row_belongs g table is.group (l.0).row ≡ true =
        all-at (row_belongs g table is.group) (makers_of g spans (x.0).class) (l.0).row due.belongs_to
        (maker-row g table a k listed ls is_table fit among (x.0).class l.0 makes) in
        let slot : Contains is.group (l.0).slot =
        has-out is.group (l.0).slot
        (all-at (has is.group) (row_slots g table (l.0).row) (l.0).slot row (slot_there l.0 makes.there)) in (
          ((l.0).slot, (l.0).cycle),
          flat-in places_of is.group (l.0).slot ((l.0).slot, (l.0).cycle) slot
              (map-in (λ t. ((l.0).slot, t)) (range_with_len is.begin cycles) (l.0).cycle
              (range-in is.begin cycles (l.0).cycle (omega arith) (omega arith))),
          (l.0, subst (λ c. Makes g ls c l.0) x.2 makes, refl, refl),
        )

    pub limit-few : count_by passes m.due ≤ m.most
    limit-few =
        let once : NoTwice (classes (filter passes m.due)) =
        keys-filter (λ (x : Deadline). x.class) passes m.due
        (due-once g table spans xs m is (deadlines-once g table k spans)) in
        let le = matched Placed placed_once (classes (filter passes m.due)) places once place_of in
        let size = size-map (λ (x : Deadline). x.class) (filter passes m.due) ∙ length-filter passes m.due in
        let long : length places ≡ length is.group * cycles =
        flat-length places_of cycles
        (λ s. size-map (λ t. (s, t)) (range_with_len is.begin cycles) ∙ length-range_with_len is.begin cycles)
        is.group in
        let most = is.most_is in
        omega arith

  -- what an encoding by live ranges says of due classes
  live_kept : Keeps g ls (capacity_by g table k spans)
  live_kept =
      let limits = all_limits g table k spans xs in
      record {
        once = keys-filter (λ (x : Deadline). x.class) (is_limited limits) xs (deadlines-once g table k spans);
        from = λ x h l m.
            let there = (filter-out (is_limited limits) xs x h).0 in
            let meets = all-met g table a k listed ls is_table fit among x there in
            let first = meets.first in
            let from = made-from g table a k listed ls is_table fit among x.class l m in
            (let z : x.first ≤ l.cycle = omega arith in z);
        by = λ x h. (all-met g table a k listed ls is_table fit among x (filter-out (is_limited limits) xs x h).0).by;
        few = λ m h. limit-few m (limit-is g table k spans xs m h);
      }

-- a schedule that fits keeps what any encoding says of due classes
pub fitting-keeps : (g : LaunchGraph) (table : Table) (a : Allocation) (k : ℕ) (listed ls : List Launch) → IsTable table
    → Fits g table a k ls → ((l : Launch) → Contains ls l → Contains listed l)
    → Keeps g ls (capacity_of g table a k listed)
fitting-keeps g table Block k listed ls is_table fit among = record {
  once = tt;
  from = λ x h. absurd (nothing x h);
  by = λ x h. absurd (nothing x h);
  few = λ m h. absurd (nothing m h);
}
fitting-keeps g table Live k listed ls is_table fit among = live_kept g table Live k listed ls is_table fit among
