-- A schedule that fits, fits in every order; and what word order, table and registers give the proofs.
use Rattle.std.proofs.Common.{◌≡◌, ◌≢◌, ℕ, ◌+◌, ◌<◌, ◌≤◌, List, [], ◌∷◌, length, refl, sym, ◌∙◌, ap, subst, inl, inr, ◌⊎◌, arith, Bool, true, false, cond, get_or, Option, Some, None}
use Rattle.std.specs.Prelude.{All, AllPairs, Any, Contains, IsTrue, IsSomeAnd, IfSome, slice_get, count_by, IsPermutation, swap, find, unwrap_or, option_map, ◌==◌, if◌then◌else◌}
use Rattle.std.proofs.lemmas.List.Sorted.{All-permutation, Contains-permutation, sum_by-IsPermutation, IsPermutation-sym, IsPermutation-keeps}
use Rattle.std.proofs.lemmas.List.Edits.{Swapped, swapped_from_swap, length-swap}
use Rattle.std.proofs.lemmas.Bool.Decides.{eqb_tells}
use Rattle.std.proofs.lemmas.List.Elements.{All-weaker, All-head, All-tail}
use Rattle.std.proofs.lemmas.Option.{same_Some, none-some}
use Rattle.machine_table.specs.Tables.{use_of, latency_of, MayUse, IsTable, IsUse, ready, cluster_of}
use Rattle.schedule_meaning.specs.Launches.{launches, goes_to, writes_pin, spoils, instr_at, ready_in, is_store, is_branch, IsFree, IsReadable, Gives, memory_class_at, class_at}
use Rattle.schedule_meaning.specs.declared.schedules.Operand.{Operand}
use Rattle.machine_table.specs.InstrOrder.{kind_number}
use Rattle.graph_meaning.specs.Graphs.{memory_target}
use Rattle.schedule_meaning.specs.Fits.{CanLaunch, CanGo, CanGoTo, CanGoToPin, MayLoadOver, CanRead, Collide, EndsBy, IsWhereWanted, IsReached, IsLatestStore, IsLeft, UsesMemory, Waits, Fits}
use Rattle.graph_meaning.specs.declared.graphs.Guard.{Guard}
use Rattle.graph_meaning.specs.declared.graphs.SetClass.{SetClass}
use Rattle.machine_table.specs.declared.tables.InstrKind.{InstrKind}
use Rattle.machine_table.specs.declared.tables.InstrKind.TheVariants.{Beq}
use Rattle.machine_table.specs.declared.tables.Use.{Use}
use Rattle.machine_table.specs.declared.tables.Table.{Table}
use Rattle.graph_meaning.specs.declared.graphs.LaunchGraph.{LaunchGraph}
use Rattle.schedule_meaning.specs.declared.schedules.Allocation.{Allocation}
use Rattle.schedule_meaning.specs.declared.schedules.Allocation.TheVariants.{Block, Live}
use Rattle.schedule_meaning.specs.declared.schedules.To.{To}
use Rattle.schedule_meaning.specs.declared.schedules.To.TheVariants.{Pool, Set}
use Rattle.schedule_meaning.specs.declared.schedules.Launch.{Launch}
use Rattle.schedule_meaning.proofs.LiveRanges.{room_permuted}
use Rattle.schedule_meaning.proofs.Rules.{at_each}

-- ---- latency is at least 1

pub found_in : {X : Type 0} (p : X → Bool) (P : X → Type 0) (xs : List X) (x : X) → All P xs → find p xs ≡ Some x → P x
found_in p P [] x h e = absurd (none-some x e)
found_in p P (y ∷ ys) x h e = found_step (p y) e (found_in p P ys x (All-tail P y ys h))
  where
    found_step : (b : Bool) → cond b (Some y) (find p ys) ≡ Some x → (find p ys ≡ Some x → P x) → P x
    found_step true e rest = subst P (same_Some y x e) (All-head P y ys h)
    found_step false e rest = rest e

latency_step : (o : Option Use) (slot : ℕ) → ((u : Use) → o ≡ Some u → 1 ≤ u.latency) → IsSomeAnd o (λ u. Contains u.slots slot) → 1 ≤ unwrap_or (option_map (λ u. u.latency) o) 0
latency_step None slot h a = absurd a
latency_step (Some u) slot h a = h u refl

pub latency_positive : (table : Table) (i : InstrKind) (slot : ℕ) → IsTable table → MayUse table i slot → 1 ≤ unwrap_or (latency_of table i) 0
latency_positive table i slot t may =
    latency_step (use_of table i) slot (λ u e. (found_in (λ u. kind_number u.instr == kind_number i) (IsUse table) table.uses u t.uses e).latency.0) may

instr_step : (table : Table) (o : Option InstrKind) (l : Launch) (c : ℕ) → IsTable table → IsSomeAnd o (λ i. MayUse table i l.slot) → l.cycle < ready table l.cycle l.slot (unwrap_or o Beq) c
instr_step table None l c t a = absurd a
instr_step table (Some i) l c t a =
    let p : 1 ≤ unwrap_or (latency_of table i) 0 = latency_positive table i l.slot t a in
    more l.cycle (unwrap_or (latency_of table i) 0) (if cluster_of table l.slot == c then 0 else table.cross) p
  where
    more : (a b d : ℕ) → 1 ≤ b → a < a + b + d
    more a b d h = omega arith

-- what a launch gives is seen in a later cycle
pub takes_time : (g : LaunchGraph) (table : Table) (ls : List Launch) → IsTable table → All (CanLaunch g table) ls → (j : ℕ) (m : Launch) (c : ℕ) → slice_get ls j ≡ Some m → m.cycle < ready_in g table c m
takes_time g table ls t rows j m c e = instr_step table (instr_at g m.row) m c t (at_each (CanLaunch g table) ls rows j m e)

-- ---- a fact of all pairs, in every order

-- the fact for each two different places
abbrev EachTwo : {X : Type 0} → (X → X → Type 0) → List X → Type 0
EachTwo {X} R xs = (i j : ℕ) (d : X) → i ≢ j → i < length xs → j < length xs → R (get_or xs i d) (get_or xs j d)

one_of_two : (i j : ℕ) → i ≢ j → (i < j) ⊎ (j < i)
one_of_two i j n = grind arith

each_two : {X : Type 0} (R : X → X → Type 0) (xs : List X) → ((a b : X) → R a b → R b a) → AllPairs R xs → EachTwo R xs
each_two R xs turn h i j d n li lj = elim (one_of_two i j n) [ inl l ↦ h i j d l lj | inr l ↦ turn _ _ (h j i d l li) ]

all_pairs : {X : Type 0} (R : X → X → Type 0) (xs : List X) → EachTwo R xs → AllPairs R xs
all_pairs R xs h i j d l lj = h i j d (λ e. let k : i ≡ j = e in absurd (omega arith)) (omega arith) lj

-- the element at place k of the list with a and b swapped was at place m
abbrev From : ℕ → ℕ → ℕ → ℕ → Type 0
From a b k m = ((k ≡ a) × (m ≡ b)) ⊎ ((k ≡ b) × (m ≡ a)) ⊎ ((k ≢ a) × (k ≢ b) × (m ≡ k))

place_was : (a b k : ℕ) → (m : ℕ) × From a b k m
place_was a b k = elim (eqb_tells k a) [ inl t ↦ (b, inl (t.1, refl)) | inr t ↦ elim (eqb_tells k b) [ inl u ↦ (a, inr (inl (u.1, refl))) | inr u ↦ (k, inr (inr (t.1, u.1, refl))) ] ]

stays_below : (a b k m n : ℕ) → a < n → b < n → k < n → From a b k m → m < n
stays_below a b k m n la lb lk (inl h) = let e = h.1 in omega arith
stays_below a b k m n la lb lk (inr (inl h)) = let e = h.1 in omega arith
stays_below a b k m n la lb lk (inr (inr h)) = let e = h.2 in omega arith

stay_apart : (a b i j m n : ℕ) → From a b i m → From a b j n → i ≢ j → m ≢ n
stay_apart a b i j m n (inl h) (inl k) d e = d (h.0 ∙ sym k.0)
stay_apart a b i j m n (inl h) (inr (inl k)) d e = d (h.0 ∙ sym k.1 ∙ sym e ∙ h.1 ∙ sym k.0)
stay_apart a b i j m n (inl h) (inr (inr k)) d e = k.1 (sym k.2 ∙ sym e ∙ h.1)
stay_apart a b i j m n (inr (inl h)) (inl k) d e = d (h.0 ∙ sym k.1 ∙ sym e ∙ h.1 ∙ sym k.0)
stay_apart a b i j m n (inr (inl h)) (inr (inl k)) d e = d (h.0 ∙ sym k.0)
stay_apart a b i j m n (inr (inl h)) (inr (inr k)) d e = k.0 (sym k.2 ∙ sym e ∙ h.1)
stay_apart a b i j m n (inr (inr h)) (inl k) d e = h.1 (sym h.2 ∙ e ∙ k.1)
stay_apart a b i j m n (inr (inr h)) (inr (inl k)) d e = h.0 (sym h.2 ∙ e ∙ k.1)
stay_apart a b i j m n (inr (inr h)) (inr (inr k)) d e = d (sym h.2 ∙ e ∙ k.2)

module _ {X : Type 0} (R : X → X → Type 0) where
  was : (xs : List X) (a b k m : ℕ) (d : X) → Swapped (λ i. get_or xs i d) (λ i. get_or (swap xs a b) i d) a b → From a b k m → get_or (swap xs a b) k d ≡ get_or xs m d
  was xs a b k m d s (inl h) = ap (λ i. get_or (swap xs a b) i d) h.0 ∙ s.0 ∙ ap (λ i. get_or xs i d) (sym h.1)
  was xs a b k m d s (inr (inl h)) = ap (λ i. get_or (swap xs a b) i d) h.0 ∙ s.1 ∙ ap (λ i. get_or xs i d) (sym h.1)
  was xs a b k m d s (inr (inr h)) = s.2 k h.0 h.1 ∙ ap (λ i. get_or xs i d) (sym h.2)

  after_swap : (xs : List X) (a b : ℕ) → a < length xs → b < length xs → EachTwo R xs → EachTwo R (swap xs a b)
  after_swap xs a b la lb h i j d n li lj =
      let s = swapped_from_swap xs (swap xs a b) a b d la lb refl in
      let pi = place_was a b i in
      let pj = place_was a b j in
      let len : length (swap xs a b) ≡ length xs = length-swap xs a b in
      let bi : pi.0 < length xs = stays_below a b i pi.0 (length xs) la lb (omega arith) pi.1 in
      let bj : pj.0 < length xs = stays_below a b j pj.0 (length xs) la lb (omega arith) pj.1 in
      let r : R (get_or xs pi.0 d) (get_or xs pj.0 d) = h pi.0 pj.0 d (stay_apart a b i j pi.0 pj.0 pi.1 pj.1 n) bi bj in
      subst (λ x. R x (get_or (swap xs a b) j d)) (sym (was xs a b i pi.0 d s pi.1)) (subst (λ y. R (get_or xs pi.0 d) y) (sym (was xs a b j pj.0 d s pj.1)) r)

  -- a symmetric fact of all pairs holds in every order
  pub all_pairs_permuted : ((a b : X) → R a b → R b a) → (xs ys : List X) → IsPermutation xs ys → AllPairs R xs → AllPairs R ys
  all_pairs_permuted turn xs ys p h = all_pairs R ys (IsPermutation-keeps xs (EachTwo R) (each_two R xs turn h) (λ l i j li lj k. after_swap l i j li lj k) ys p)

any_permuted : {X : Type 0} (P : X → Type 0) (xs ys : List X) → IsPermutation xs ys → Any P xs → Any P ys
any_permuted P xs ys p h =
    let c = Contains-permutation xs ys h.1 p (h.0, h.2, h.3) in
    (c.0, h.1, c.1, c.2, h.4)

module _ (g : LaunchGraph) (table : Table) (allocation : Allocation) (k : ℕ) (ls ys : List Launch)
    (p : IsPermutation ls ys) where
  back : IsPermutation ys ls
  back = IsPermutation-sym ls ys p

  readable_permuted : (l : Launch) (class : ℕ) → IsReadable g table ls l class → IsReadable g table ys l class
  readable_permuted l class (inl h) =
      inl (h.0, h.1, h.2, h.3, (h.4.0, All-permutation (λ m. ¬ IsTrue (spoils g l h.1.reg m)) ls ys p h.4.1))
  readable_permuted l class (inr h) =
      inr (any_permuted (λ m. Gives g class m × (ready_in g table (cluster_of table l.slot) m ≤ l.cycle)) ls ys p h)

  read_step : (l : Launch) (o : Operand) → IsFree g o ⊎ IsReadable g table ls l o.class → IsFree g o ⊎ IsReadable g table ys l o.class
  read_step l o (inl f) = inl f
  read_step l o (inr h) = inr (readable_permuted l o.class h)

  counted_permuted : (test : Launch → Bool) → count_by test ys ≡ count_by test ls
  counted_permuted test = sum_by-IsPermutation (λ x. cond (test x) 1 0) ls ys p

  place_permuted : (j : ℕ) (s : SetClass) (o : Option ℕ) → IsWhereWanted g ls j s o → IsWhereWanted g ys j s o
  place_permuted j s None (inl h) =
      inl (h.0, h.1, h.2, h.3, (h.4.0, All-permutation (λ m. ¬ IsTrue (writes_pin g h.1.reg m)) ls ys p h.4.1))
  place_permuted j s None (inr (inl z)) = inr (inl z)
  place_permuted j s None (inr (inr a)) = inr (inr (any_permuted (Gives g s.class) ls ys p a))
  place_permuted j s (Some r) (inl one) = inl (counted_permuted (goes_to j) ∙ one)
  place_permuted j s (Some r) (inr h) = inr (counted_permuted (goes_to j) ∙ h.0, h.1)

  reached_permuted : (j : ℕ) (s : SetClass) → IsReached g ls j s → IsReached g ys j s
  reached_permuted j s (inl a) = inl a
  reached_permuted j s (inr a) = inr (place_permuted j s s.pin a)

  latest_permuted : (t : ℕ) (l : Launch) → IsLatestStore g ls t l → IsLatestStore g ys t l
  latest_permuted t l s = record { store = s.store; early = s.early; latest = All-permutation (λ m. IsTrue (launches g is_store m) → m.cycle < t → m.cycle ≤ l.cycle) ls ys p s.latest }

  left_permuted : (t class : ℕ) → IsLeft g ls t class → IsLeft g ys t class
  left_permuted t class (inl h) = inl (h.0, All-permutation (λ m. IsTrue (launches g is_store m) → t ≤ m.cycle) ls ys p h.1)
  left_permuted t class (inr h) =
      let a = any_permuted (λ l. IsLatestStore g ls t l × (class ≡ class_at g l.row)) ls ys p h in
      inr (a.0, a.1, a.2, a.3, (latest_permuted t a.1 a.4.0, a.4.1))

  branch_permuted : (o : Option Guard) → IfSome o (λ _. count_by (launches g is_branch) ls ≡ 1) → IfSome o (λ _. count_by (launches g is_branch) ys ≡ 1)
  branch_permuted None h = h
  branch_permuted (Some guard) h = sum_by-IsPermutation (λ x. cond (launches g is_branch x) 1 0) ls ys p ∙ h

  over_permuted : (way : Allocation) (l : Launch) → MayLoadOver g way ls l → MayLoadOver g way ys l
  over_permuted Block l h = h
  over_permuted Live l h = All-permutation (λ m. IsTrue (launches g is_store m) → ¬ (m.cycle ≡ l.cycle)) ls ys p h

  pin_permuted : (l : Launch) (s : SetClass) (o : Option ℕ) → IsSomeAnd o (CanGoToPin g allocation ls l s)
      → IsSomeAnd o (CanGoToPin g allocation ys l s)
  pin_permuted l s None h = h
  pin_permuted l s (Some r) h =
      record { gives = h.gives; loads_over = λ load input. over_permuted allocation l (h.loads_over load input) }

  set_permuted : (l : Launch) (o : Option SetClass)
      → IsSomeAnd o (λ s. IsSomeAnd s.pin (CanGoToPin g allocation ls l s))
      → IsSomeAnd o (λ s. IsSomeAnd s.pin (CanGoToPin g allocation ys l s))
  set_permuted l None h = h
  set_permuted l (Some s) h = pin_permuted l s s.pin h

  go_permuted : (l : Launch) (to : To) → CanGoTo g allocation ls l to → CanGoTo g allocation ys l to
  go_permuted l Pool h = h
  go_permuted l (Set j) h = set_permuted l (slice_get g.sets j) h

  -- a schedule that fits, fits in every order
  pub fits_permuted : Fits g table allocation k ls → Fits g table allocation k ys
  fits_permuted f = record {
    rows = All-permutation (CanLaunch g table) ls ys p f.rows;
    destinations =
        All-permutation (CanGo g allocation ys) ls ys p
        (All-weaker (CanGo g allocation ls) (CanGo g allocation ys) (λ l h. go_permuted l l.to h) ls f.destinations);
    apart = all_pairs_permuted (λ l m. ¬ Collide l m) (λ l m n c. n (sym c.0, sym c.1)) ls ys p f.apart;
    operands = All-permutation (CanRead g table ys) ls ys p (All-weaker (CanRead g table ls) (CanRead g table ys) (λ l h i d lt. read_step l _ (h i d lt)) ls f.operands);
    in_time = All-permutation (EndsBy g table k) ls ys p f.in_time;
    targets = λ j s e. reached_permuted j s (f.targets j s e);
    memory = record {
      each = All-permutation (λ l. UsesMemory g l → IsLeft g ys l.cycle (memory_class_at g l.row)) ls ys p (All-weaker (λ l. UsesMemory g l → IsLeft g ls l.cycle (memory_class_at g l.row)) (λ l. UsesMemory g l → IsLeft g ys l.cycle (memory_class_at g l.row)) (λ l h u. left_permuted l.cycle (memory_class_at g l.row) (h u)) ls f.memory.each);
      single = all_pairs_permuted (λ l m. IsTrue (launches g is_store l) → IsTrue (launches g is_store m) → ¬ (l.cycle ≡ m.cycle)) (λ l m n sm sl e. n sl sm (sym e)) ls ys p f.memory.single;
      last = λ t after. left_permuted t (memory_target g) (f.memory.last t (All-permutation (λ l. l.cycle < t) ys ls back after));
    };
    one_branch = branch_permuted g.guard f.one_branch;
    after_branch = All-permutation (Waits g ys) ls ys p (All-weaker (Waits g ls) (Waits g ys) (λ l h u. All-permutation (λ b. IsTrue (launches g is_branch b) → b.cycle ≤ l.cycle) ls ys p (h u)) ls f.after_branch);
    pool = room_permuted g ls ys p allocation k f.pool;
  }
