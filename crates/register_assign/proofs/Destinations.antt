-- Where launches go: which of them write an input's register, and the register of each that gives a word.
use Rattle.std.proofs.Common.{◌≡◌, ◌≢◌, ℕ, ◌<◌, ◌≤◌, List, length, sym, ◌∙◌, ap, subst, inl, inr, ◌⊎◌, arith, true, ◌&&◌, Some, None}
use Rattle.std.specs.Prelude.{Contains, IsTrue, IfSome, slice_get, slice_index, count_by, unwrap_or, option_and_then}
use Rattle.std.proofs.lemmas.Option.{none-some}
use Rattle.std.proofs.lemmas.List.Elements.{Contains-get_or, All-get_or}
use Rattle.graph_meaning.specs.Graphs.{is_memory_name, IsProper}
use Rattle.graph_meaning.specs.WellFormed.{IsLaunchGraph}
use Rattle.schedule_meaning.specs.Launches.{launches, gives_word, pin_of, writes_pin, goes_to, is_pool, takes_pool}
use Rattle.schedule_meaning.specs.Fits.{CanGo, IsWhereWanted, IsReached, Fits}
use Rattle.schedule_meaning.specs.Lifetimes.{holds}
use Rattle.machine_table.specs.Tables.{IsTable}
use Rattle.register_assign.specs.Listings.{register_at}
use Rattle.register_assign.specs.PoolPlaces.{pool_place}
use Rattle.graph_meaning.specs.declared.graphs.SetClass.{SetClass}
use Rattle.graph_meaning.specs.declared.graphs.LaunchGraph.{LaunchGraph}
use Rattle.machine_table.specs.declared.tables.Table.{Table}
use Rattle.schedule_meaning.specs.declared.schedules.To.{To}
use Rattle.schedule_meaning.specs.declared.schedules.To.TheVariants.{Pool, Set}
use Rattle.schedule_meaning.specs.declared.schedules.Allocation.{Allocation}
use Rattle.schedule_meaning.specs.declared.schedules.Launch.{Launch}
use Rattle.schedule_meaning.proofs.Counted.{places_of_launches}
use Rattle.schedule_meaning.proofs.Rules.{at_each}
use Rattle.register_assign.proofs.Counts.{count_two}
use Rattle.register_assign.proofs.Placing.{place_inside, places_differ}
use Rattle.register_assign.proofs.Proper.{pool_differs, pool_low}
use Rattle.schedule_meaning.proofs.Pins.{index_contained, pinned_from, written_from, writes_from, from_goes, go, same_pin}

module _ (g : LaunchGraph) (table : Table) (allocation : Allocation) (k : ℕ) (ordered : List Launch)
    (graph : IsLaunchGraph g) (proper : IsProper g)
    (fits : Fits g table allocation k ordered) where
  pub can_go : (n : ℕ) (l : Launch) → slice_get ordered n ≡ Some l → CanGo g allocation ordered l
  can_go n l e = at_each (CanGo g allocation ordered) ordered fits.destinations n l e

  -- a set with a pin is no memory
  memory_step : (s : SetClass) (r : ℕ) → s.pin ≡ Some r → (IsTrue (is_memory_name s.name) → s.pin ≡ None) → ¬ IsTrue (is_memory_name s.name)
  memory_step s r e h m = none-some r (sym (h m) ∙ e)

  pub no_memory : (j : ℕ) (s : SetClass) (r : ℕ) → slice_get g.sets j ≡ Some s → s.pin ≡ Some r → ¬ IsTrue (is_memory_name s.name)
  no_memory j s r e p = memory_step s r p (at_each (λ s. IsTrue (is_memory_name s.name) → s.pin ≡ None) g.sets graph.memory_unpinned j s e)

  place_by : (j : ℕ) (s : SetClass) (r : ℕ) → ¬ IsTrue (is_memory_name s.name) → s.pin ≡ Some r → IsReached g ordered j s → IsWhereWanted g ordered j s (Some r)
  place_by j s r n p (inl m) = absurd (n m)
  place_by j s r n p (inr h) = subst (IsWhereWanted g ordered j s) p h

  pub place_of_pin : (j : ℕ) (s : SetClass) (r : ℕ) → slice_get g.sets j ≡ Some s → s.pin ≡ Some r → IsWhereWanted g ordered j s (Some r)
  place_of_pin j s r e p = place_by j s r (no_memory j s r e p) p (fits.targets j s e)

  few_by : (j : ℕ) (s : SetClass) (r : ℕ) → IsWhereWanted g ordered j s (Some r) → count_by (goes_to j) ordered ≤ 1
  few_by j s r (inl one) = omega arith
  few_by j s r (inr h) = let z = h.0 in omega arith

  -- sets with one pin are one set
  pub one_pin : (i j r : ℕ) (s t : SetClass) → slice_get g.sets i ≡ Some s → slice_get g.sets j ≡ Some t → s.pin ≡ Some r → t.pin ≡ Some r → i ≡ j
  one_pin = same_pin g proper.own_pins

  -- ---- the register of a launch

  reg_by : (n : ℕ) (l : Launch) → slice_get ordered n ≡ Some l
      → register_at g allocation ordered n
      ≡ unwrap_or (pin_of g l.to) (slice_index g.pool (pool_place g allocation ordered n))
  reg_by n l e =
      ap
      (λ o. unwrap_or (option_and_then (λ l. pin_of g l.to) o) (slice_index g.pool (pool_place g allocation ordered n)))
      e

  pub reg_of_pin : (n : ℕ) (l : Launch) (r : ℕ) → slice_get ordered n ≡ Some l → pin_of g l.to ≡ Some r → register_at g allocation ordered n ≡ r
  reg_of_pin n l r e h =
      reg_by n l e ∙ ap (λ o. unwrap_or o (slice_index g.pool (pool_place g allocation ordered n))) h

  reg_of_pool : (n : ℕ) (l : Launch) → slice_get ordered n ≡ Some l → pin_of g l.to ≡ None
      → register_at g allocation ordered n ≡ slice_index g.pool (pool_place g allocation ordered n)
  reg_of_pool n l e h =
      reg_by n l e ∙ ap (λ o. unwrap_or o (slice_index g.pool (pool_place g allocation ordered n))) h

  takes : (l : Launch) → l.to ≡ Pool → IsTrue (launches g gives_word l) → takes_pool g l ≡ true
  takes l e t = ap (λ to. is_pool to && launches g gives_word l) e ∙ t

  pin_low : (r : ℕ) (to : To) → pin_of g to ≡ Some r → r < 31
  pin_low r to h =
      let p = pinned_from g to r h in
      subst (λ o. IfSome o (λ r. r < 31)) p.4 (at_each (λ s. IfSome s.pin (λ r. r < 31)) g.sets proper.low_pins p.0 p.1 p.3)

  pub pin_apart : (r : ℕ) (to : To) → pin_of g to ≡ Some r → ¬ Contains g.pool r
  pin_apart r to h =
      let p = pinned_from g to r h in
      subst (λ o. IfSome o (λ r. ¬ Contains g.pool r)) p.4 (at_each (λ s. IfSome s.pin (λ r. ¬ Contains g.pool r)) g.sets proper.pins_apart p.0 p.1 p.3)

  -- two launches to one pin are one
  pub one_writer : (i j r : ℕ) (l m : Launch) → i < j → slice_get ordered i ≡ Some l → slice_get ordered j ≡ Some m → pin_of g l.to ≡ Some r → pin_of g m.to ≡ Some r → ⊥
  one_writer i j r l m lt el em wl wm =
      let p = pinned_from g l.to r wl in
      let q = pinned_from g m.to r wm in
      let same : p.0 ≡ q.0 = one_pin p.0 q.0 r p.1 q.1 p.3 q.3 p.4 q.4 in
      let two : 2 ≤ count_by (goes_to p.0) ordered = count_two (goes_to p.0) ordered i j l m lt el em (from_goes g p.0 l p.2) (from_goes g p.0 m (q.2 ∙ ap Set (sym same))) in
      let few : count_by (goes_to p.0) ordered ≤ 1 = few_by p.0 p.1 r (place_of_pin p.0 p.1 r p.3 p.4) in
      absurd (omega arith)

  -- no launch writes register 31
  pub none_31 : (j : ℕ) (m : Launch) → slice_get ordered j ≡ Some m → ¬ IsTrue (writes_pin g 31 m)
  none_31 j m e h = let low : 31 < 31 = pin_low 31 m.to (written_from g 31 m h) in absurd (omega arith)

  module _ (is_table : IsTable table) where
    in_pool : (n : ℕ) (l : Launch) → slice_get ordered n ≡ Some l → takes_pool g l ≡ true
        → pool_place g allocation ordered n < length g.pool
    in_pool n l e t =
        place_inside g ordered allocation k n l fits.pool e t
        (at_each (λ l. (l.cycle < k) × (l.slot < 8)) ordered
        (places_of_launches g table allocation k ordered is_table fits) n l e).0

    -- a pool register, or the pin to which the launch goes
    pub own_kind : (n : ℕ) (l : Launch) → slice_get ordered n ≡ Some l → IsTrue (launches g gives_word l) → Contains g.pool (register_at g allocation ordered n) ⊎ IsTrue (writes_pin g (register_at g allocation ordered n) l)
    own_kind n l e t =
        elim (go g allocation ordered l (can_go n l e)) [
          | inl p ↦
              inl (subst (λ r. Contains g.pool r) (sym (reg_of_pool n l e p.1))
              (Contains-get_or g.pool (pool_place g allocation ordered n) 0 (in_pool n l e (takes l p.0 t))))
          | inr (r, s, at, w, c) ↦ inr (subst (λ q. IsTrue (writes_pin g q l)) (sym (reg_of_pin n l r e w)) (writes_from g r l w))
        ]

    pub own_low : (n : ℕ) (l : Launch) → slice_get ordered n ≡ Some l → IsTrue (launches g gives_word l) → register_at g allocation ordered n < 31
    own_low n l e t =
        elim (go g allocation ordered l (can_go n l e)) [
          | inl p ↦
              subst (λ r. r < 31) (sym (reg_of_pool n l e p.1))
              (All-get_or (λ r. r < 31) g.pool (pool_place g allocation ordered n) 0 (in_pool n l e (takes l p.0 t))
              (pool_low g proper))
          | inr (r, s, at, w, c) ↦ subst (λ r. r < 31) (sym (reg_of_pin n l r e w)) (pin_low r l.to w)
        ]

    one_of_two : (a b : ℕ) → a ≢ b → (a < b) ⊎ (b < a)
    one_of_two a b n = grind arith

    -- two places of the pool have two registers
    pool_apart : (a b : ℕ) → a < length g.pool → b < length g.pool → a ≢ b → slice_index g.pool a ≢ slice_index g.pool b
    pool_apart a b la lb n e =
        elim (one_of_two a b n) [
          | inl less ↦ pool_differs g proper a b 0 less lb e
          | inr less ↦ pool_differs g proper b a 0 less la (sym e)
        ]

    -- a launch that gives a word has another register than one before it that holds its own
    pub own_register : (i j : ℕ) (l m : Launch) → i < j → slice_get ordered i ≡ Some l → slice_get ordered j ≡ Some m
        → IsTrue (launches g gives_word l) → IsTrue (launches g gives_word m)
        → (takes_pool g l ≡ true → holds g allocation ordered m.cycle l ≡ true)
        → register_at g allocation ordered i ≢ register_at g allocation ordered j
    own_register i j l m lt el em gl gm held same =
        elim (go g allocation ordered l (can_go i l el)) [
          | inl p ↦ elim (go g allocation ordered m (can_go j m em)) [
            | inl q ↦ (
                let own = takes l p.0 gl in
                let place = in_pool j m em (takes m q.0 gm) in
                pool_apart (pool_place g allocation ordered i) (pool_place g allocation ordered j) (in_pool i l el own)
                place (places_differ g ordered allocation i j l m lt el em own (held own) place)
                (sym (reg_of_pool i l el p.1) ∙ same ∙ reg_of_pool j m em q.1))
            | inr (r, s, at, w, c) ↦
                index_contained g.pool r (pin_apart r m.to w) (pool_place g allocation ordered i)
                (in_pool i l el (takes l p.0 gl)) (sym (reg_of_pool i l el p.1) ∙ same ∙ reg_of_pin j m r em w)
          ]
          | inr (r, s, at, w, c) ↦ elim (go g allocation ordered m (can_go j m em)) [
            | inl q ↦
                index_contained g.pool r (pin_apart r l.to w) (pool_place g allocation ordered j)
                (in_pool j m em (takes m q.0 gm)) (sym (reg_of_pool j m em q.1) ∙ sym same ∙ reg_of_pin i l r el w)
            | inr (q, t, at', v, d) ↦
                one_writer i j r l m lt el em w (v ∙ ap Some (sym (reg_of_pin j m q em v) ∙ sym same ∙ reg_of_pin i l r el w))
          ]
        ]
