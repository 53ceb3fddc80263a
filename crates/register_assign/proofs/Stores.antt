-- The memory that a load or a store finds is the one that the stores of earlier cycles leave.
use Rattle.std.proofs.Common.{◌≡◌, ℕ, zero, suc, ◌<◌, ◌≤◌, List, [], ◌∷◌, ◌++◌, take, refl, sym, ◌∙◌, ap, inl, inr, ◌⊎◌, arith, Bool, true, false, cond, Option, Some, None}
use Rattle.std.specs.Prelude.{All, AllPairs, Contains, IsTrue, slice_get, nat_lt, Decides}
use Rattle.std.specs.Option.{option_map_or}
use Rattle.std.proofs.lemmas.Bool.{false≢true}
use Rattle.std.proofs.lemmas.Bool.Decides.{Decides-ltb, not_from_Decides}
use Rattle.std.proofs.lemmas.List.Elements.{All-head, All-tail}
use Rattle.std.proofs.lemmas.Option.{slice_get-get_or, get_or_from_slice_get, same_Some, none-some}
use Rattle.schedule_meaning.specs.Launches.{launches, is_store, class_at, latest, later, memory_after, memory_class_at, StandsBefore, group_of}
use Rattle.schedule_meaning.specs.Fits.{CanGo, MayLoadOver, IsLeft, UsesMemory, KeepsMemory}
use Rattle.graph_meaning.specs.declared.graphs.LaunchGraph.{LaunchGraph}
use Rattle.schedule_meaning.specs.declared.schedules.Allocation.{Allocation}
use Rattle.schedule_meaning.specs.declared.schedules.Allocation.TheVariants.{Block, Live}
use Rattle.schedule_meaning.specs.declared.schedules.Launch.{Launch}
use Rattle.schedule_meaning.proofs.Rules.{at_each, all_at, at_pair, in_list}
use Rattle.schedule_meaning.proofs.Memory.{IsLatest, latest_is, left_once}
use Rattle.register_assign.proofs.Groups.{not_after, earlier_cycle, store_group, load_group}

-- ---- places of the first n

take_at : {X : Type 0} (xs : List X) (n j : ℕ) (x : X) → j < n → slice_get xs j ≡ Some x → slice_get (take n xs) j ≡ Some x
take_at [] n j x lt e = absurd (none-some x e)
take_at (y ∷ ys) zero j x lt e = absurd (omega arith)
take_at (y ∷ ys) (suc n) zero x lt e = e
take_at (y ∷ ys) (suc n) (suc j) x lt e = take_at ys n j x (omega arith) e

pub at_take : {X : Type 0} (xs : List X) (n j : ℕ) (x : X) → slice_get (take n xs) j ≡ Some x → (j < n) × (slice_get xs j ≡ Some x)
at_take [] zero j x e = absurd (none-some x e)
at_take [] (suc n) j x e = absurd (none-some x e)
at_take (y ∷ ys) zero j x e = absurd (none-some x e)
at_take (y ∷ ys) (suc n) zero x e = (omega arith, e)
at_take (y ∷ ys) (suc n) (suc j) x e = let r = at_take ys n j x e in ((let l = r.0 in omega arith), r.1)

contains_at : {X : Type 0} (xs : List X) (j : ℕ) (x : X) → slice_get xs j ≡ Some x → Contains xs x
contains_at xs j x e = (j, in_list xs j x e, get_or_from_slice_get xs j x x e)

at_contains : {X : Type 0} (xs : List X) (x : X) → Contains xs x → (j : ℕ) × (slice_get xs j ≡ Some x)
at_contains xs x h = (h.0, slice_get-get_or xs h.0 x h.1 ∙ ap Some h.2)

-- ---- the latest, with one launch more

module _ (test : Launch → Bool) where
  push_step : (m l : Launch) (b : Bool) → Decides b (m.cycle < l.cycle) → m.cycle < l.cycle → cond b (Some l) (Some m) ≡ Some l
  push_step m l true d lt = refl
  push_step m l false d lt = absurd (not_from_Decides false d refl lt)

  last_step : (m l : Launch) (ls : List Launch) (o : Option Launch) → o ≡ Some l → (IsTrue (test m) → m.cycle < l.cycle) → (b : Bool) → test m ≡ b → cond b (later m o) o ≡ Some l
  last_step m l ls o e h false t = e
  last_step m l ls o e h true t = ap (later m) e ∙ push_step m l (nat_lt m.cycle l.cycle) (Decides-ltb m.cycle l.cycle) (h t)

  pub latest_push_last : (ls : List Launch) (l : Launch) → test l ≡ true → All (λ m. IsTrue (test m) → m.cycle < l.cycle) ls → latest test (ls ++ l ∷ []) ≡ Some l
  latest_push_last [] l e h = ap (λ b. cond b (Some l) None) e
  latest_push_last (m ∷ ls) l e h =
      last_step m l ls (latest test (ls ++ l ∷ [])) (latest_push_last ls l e (All-tail (λ m. IsTrue (test m) → m.cycle < l.cycle) m ls h)) (All-head (λ m. IsTrue (test m) → m.cycle < l.cycle) m ls h) (test m) refl

-- ---- at a load or store

module _ (g : LaunchGraph) (ordered : List Launch) (order : AllPairs (StandsBefore g) ordered) (memory : KeepsMemory g ordered)
    (allocation : Allocation) (goes : All (CanGo g allocation ordered) ordered)
    (n : ℕ) (l : Launch) (here : slice_get ordered n ≡ Some l) (uses : UsesMemory g l) where
  one_of_three : (a b : ℕ) → (a < b) ⊎ (b < a) ⊎ (a ≡ b)
  one_of_three a b = grind arith

  less : {a b : ℕ} → a ≤ b → ¬ (a ≡ b) → a < b
  less le other = grind (arith, le, other)

  -- beside a load that overwrites an input there is no store
  none_beside : (way : Allocation) → MayLoadOver g way ordered l → (j : ℕ) (m : Launch) → slice_get ordered j ≡ Some m
      → IsTrue (launches g is_store m) → ¬ (m.cycle ≡ l.cycle)
  none_beside Block over j m e store = absurd over
  none_beside Live over j m e store =
      at_each (λ m. IsTrue (launches g is_store m) → ¬ (m.cycle ≡ l.cycle)) ordered over j m e store

  by_use : UsesMemory g l → (j : ℕ) (m : Launch) → j < n → slice_get ordered j ≡ Some m → IsTrue (launches g is_store m) → m.cycle < l.cycle
  by_use (inl load) j m lt e store =
      elim (load_group g l allocation ordered (at_each (CanGo g allocation ordered) ordered goes n l here) load) [
        | inl low ↦
            earlier_cycle g ordered order j n m l lt e here (let b : group_of g m ≡ 3 =
            store_group g m allocation ordered (at_each (CanGo g allocation ordered) ordered goes j m e)
            store in let a : group_of g l < 3 = low in omega arith)
        | inr over ↦
            less (not_after g ordered order j n m l lt e here) (none_beside allocation over j m e store)
      ]
  by_use (inr own) j m lt e store =
      let other : ¬ (m.cycle ≡ l.cycle) = at_pair (λ a b. IsTrue (launches g is_store a) → IsTrue (launches g is_store b) → ¬ (a.cycle ≡ b.cycle)) ordered memory.single j n m l lt e here store own in
      less (not_after g ordered order j n m l lt e here) other

  -- the stores before it are those of earlier cycles
  pub store_before : (j : ℕ) (m : Launch) → j < n → slice_get ordered j ≡ Some m → IsTrue (launches g is_store m) → m.cycle < l.cycle
  store_before = by_use uses

  from_here : (j : ℕ) (m : Launch) → ¬ (j < n) → slice_get ordered j ≡ Some m → l.cycle ≤ m.cycle
  from_here j m not e =
      elim (one_of_three j n) [
        | inl h ↦ absurd (not h)
        | inr h ↦ elim h [
          | inl h ↦ not_after g ordered order n j l m h here e
          | inr h ↦ (let k : m.cycle ≡ l.cycle = ap (λ x. x.cycle) (same_Some m l (sym e ∙ ap (slice_get ordered) h ∙ here)) in omega arith)
        ]
      ]

  either : (j : ℕ) → (j < n) ⊎ ¬ (j < n)
  either j = elim (one_of_three j n) [ inl h ↦ inl h | inr h ↦ elim h [ inl h ↦ inr (λ k. absurd (omega arith)) | inr h ↦ inr (λ k. let e : j ≡ n = h in absurd (omega arith)) ] ]

  left_of : (o : Option Launch) → IsLatest (launches g is_store) (take n ordered) o → IsLeft g ordered l.cycle (option_map_or (λ m. class_at g m.row) o g.entry)
  left_of None h =
      inl (
        refl,
        all_at (λ m. IsTrue (launches g is_store m) → l.cycle ≤ m.cycle) ordered (λ j m lt e store. elim (either j) [
          | inl a ↦ absurd (false≢true (sym (at_each (λ m. launches g is_store m ≡ false) (take n ordered) h j m (take_at ordered n j m a e)) ∙ store))
          | inr b ↦ from_here j m b e
        ]),
      )
  left_of (Some m) h =
      let place = at_contains (take n ordered) m h.0 in
      let p = at_take ordered n place.0 m place.1 in
      let c = contains_at ordered place.0 m p.1 in
      inr (
        c.0,
        m,
        c.1,
        c.2,
        (
          record {
            store = h.1;
            early = store_before place.0 m p.0 p.1 h.1;
            latest = all_at (λ q. IsTrue (launches g is_store q) → q.cycle < l.cycle → q.cycle ≤ m.cycle) ordered (λ j q lt e store early. elim (either j) [
              | inl a ↦ at_each (λ q. launches g is_store q ≡ true → q.cycle ≤ m.cycle) (take n ordered) h.2 j q (take_at ordered n j q a e) store
              | inr b ↦ (let le : l.cycle ≤ q.cycle = from_here j q b e in absurd (omega arith))
            ]);
          },
          refl,
        ),
      )

  -- its memory class is the one that the stores before it leave
  pub memory_found : memory_class_at g l.row ≡ memory_after g (take n ordered)
  memory_found =
      left_once g ordered memory.single l.cycle _ _
      (at_each (λ l. UsesMemory g l → IsLeft g ordered l.cycle (memory_class_at g l.row)) ordered memory.each n l here uses)
      (left_of (latest (launches g is_store) (take n ordered)) (latest_is (launches g is_store) (take n ordered)))

  pub all_stores_before : All (λ m. IsTrue (launches g is_store m) → m.cycle < l.cycle) (take n ordered)
  all_stores_before = all_at (λ m. IsTrue (launches g is_store m) → m.cycle < l.cycle) (take n ordered) (λ j m lt e store. let p = at_take ordered n j m e in store_before j m p.0 p.1 store)
