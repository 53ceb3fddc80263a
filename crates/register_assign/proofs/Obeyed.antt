-- The items of a fitting schedule in word order obey the table.
use Rattle.std.proofs.Common.{◌≡◌, ℕ, zero, suc, ◌+◌, ◌<◌, ◌≤◌, List, [], ◌∷◌, refl, sym, ◌∙◌, ap, subst, inl, inr, ◌⊎◌, arith, Bool, true, false, ◌&&◌, get_or, Option, Some, None}
use Rattle.std.specs.Prelude.{All, AllPairs, Contains, IsTrue, IsSomeAnd, slice_get, unwrap_or, find, position, option_map, ◌==◌, if◌then◌else◌}
use Rattle.std.specs.Option.{option_map_or}
use Rattle.std.proofs.lemmas.Bool.{false≢true}
use Rattle.std.proofs.lemmas.Option.{slice_get-get_or, same_Some, none-some}
use Rattle.std.proofs.lemmas.List.Elements.{All-contains}
use Rattle.std.proofs.lemmas.List.Quantifiers.{position-Some}
use Rattle.machine_table.specs.Tables.{MayUse, latency_of, ready, cluster_of, IsTable}
use Rattle.schedule_meaning.specs.Launches.{class_at, instr_at, launches, gives_word, is_store, ready_in, StandsBefore, IsInWordOrder, writes_pin}
use Rattle.schedule_meaning.specs.Fits.{CanLaunch, Collide, EndsBy, Fits}
use Rattle.register_assign.specs.Listings.{item_of, items_from, items_of, instr_of, register_at, register_for, or_register}
use Rattle.graph_meaning.specs.Graphs.{is_zero_class, is_input_register, IsProper}
use Rattle.graph_meaning.specs.WellFormed.{IsLaunchGraph}
use Rattle.schedule_meaning.specs.Readers.{is_intact, passes as passes_by, input_where}
use Rattle.schedule_meaning.specs.Launches.{gives}
use Rattle.register_assign.specs.Obeys.{kind_of, stores, reads, writes, latency_in, ready_from, HasOperands, IsLastWriter, Obeys}
use Rattle.machine_table.specs.declared.tables.InstrKind.{InstrKind}
use Rattle.machine_table.specs.declared.tables.InstrKind.TheVariants.{Beq}
use Rattle.graph_meaning.specs.declared.graphs.InputClass.{InputClass}
use Rattle.register_assign.specs.declared.listings.Item.{Item}
use Rattle.graph_meaning.specs.declared.graphs.LaunchGraph.{LaunchGraph}
use Rattle.machine_table.specs.declared.tables.Table.{Table}
use Rattle.schedule_meaning.specs.declared.schedules.Allocation.{Allocation}
use Rattle.schedule_meaning.specs.declared.schedules.Launch.{Launch}
use Rattle.schedule_meaning.proofs.Rules.{at_each, all_at, at_pair}
use Rattle.schedule_meaning.specs.Lifetimes.{reads_class}
use Rattle.alpha_encode.specs.declared.instructions.Instr.{Instr}
use Rattle.alpha_encode.specs.declared.instructions.Instr.TheVariants as instrs
use Rattle.register_assign.proofs.Destinations.{own_kind}
use Rattle.register_assign.proofs.Lasting.{lasts_to_reader}
use Rattle.schedule_meaning.proofs.Pins.{any_at, number_same, same_number}
use Rattle.register_assign.proofs.Intact.{intact_before}
use Rattle.register_assign.proofs.Reached.{IsUntouched, Lasts}
use Rattle.register_assign.proofs.Reading.{found_passes}
use Rattle.schedule_meaning.proofs.Comparisons.{and_left, and_right, true_le}
use Rattle.schedule_meaning.proofs.Ordered.{latency_positive, takes_time, fits_permuted}
use Rattle.register_assign.proofs.Proper.{inputs_apart}
use Rattle.register_assign.proofs.Obeying.{kind_at, writes_own, reads_chosen}

module _ (g : LaunchGraph) (table : Table) (allocation : Allocation) (ordered : List Launch) where
  item_from : (i : ℕ) (ls : List Launch) (n m : ℕ) (a : Item) → slice_get (items_from g table allocation ordered i ls) n ≡ Some a → m ≡ i + n → (l : Launch) × (slice_get ls n ≡ Some l) × (item_of g table allocation ordered m l ≡ a)
  item_from i [] n m a e k = absurd (none-some a e)
  item_from i (x ∷ ls) zero m a e k = (x, refl, ap (λ j. item_of g table allocation ordered j x) (let j : m ≡ i = omega arith in j) ∙ same_Some (item_of g table allocation ordered i x) a e)
  item_from i (x ∷ ls) (suc n) m a e k = item_from (i + 1) ls n m a e (omega arith)

  item_to : (i : ℕ) (ls : List Launch) (n m : ℕ) (l : Launch) → slice_get ls n ≡ Some l → m ≡ i + n
      → slice_get (items_from g table allocation ordered i ls) n ≡ Some (item_of g table allocation ordered m l)
  item_to i [] n m l e k = absurd (none-some l e)
  item_to i (x ∷ ls) zero m l e k =
      ap (λ y. Some (item_of g table allocation ordered i y)) (same_Some x l e)
      ∙ ap (λ j. Some (item_of g table allocation ordered j l)) (let j : i ≡ m = omega arith in j)
  item_to i (x ∷ ls) (suc n) m l e k = item_to (i + 1) ls n m l e (omega arith)

  -- a launch has its item in its place
  item_there : (n : ℕ) (l : Launch) → slice_get ordered n ≡ Some l
      → slice_get (items_of g table allocation ordered) n ≡ Some (item_of g table allocation ordered n l)
  item_there n l e = item_to 0 ordered n n l e (omega arith)

  -- an item is that of the launch in its place
  item_at : (n : ℕ) (a : Item) → slice_get (items_of g table allocation ordered) n ≡ Some a → (l : Launch) × (slice_get ordered n ≡ Some l) × (item_of g table allocation ordered n l ≡ a)
  item_at n a e = item_from 0 ordered n n a e (omega arith)

  pub all_items : (P : Item → Type 0) → ((n : ℕ) (l : Launch) → slice_get ordered n ≡ Some l → P (item_of g table allocation ordered n l)) → All P (items_of g table allocation ordered)
  all_items P h = all_at P (items_of g table allocation ordered) (λ n a lt e. let f = item_at n a e in subst P f.2 (h n f.0 f.1))

  pair_items : (R : Item → Item → Type 0) → ((i j : ℕ) (l m : Launch) → i < j → slice_get ordered i ≡ Some l → slice_get ordered j ≡ Some m → R (item_of g table allocation ordered i l) (item_of g table allocation ordered j m)) → AllPairs R (items_of g table allocation ordered)
  pair_items R h i j d lt len =
      let items = items_of g table allocation ordered in
      let fi = item_at i (get_or items i d) (slice_get-get_or items i d (omega arith)) in
      let fj = item_at j (get_or items j d) (slice_get-get_or items j d len) in
      subst (λ a. R a (get_or items j d)) fi.2 (subst (λ b. R (item_of g table allocation ordered i fi.0) b) fj.2 (h i j fi.0 fj.0 lt fi.1 fj.1))

  -- ---- the register that is chosen for a class

  abbrev Source : ℕ → Launch → ℕ → Type 0
  Source n l r =
      (r ≡ 31)
      ⊎ ((¬ Contains g.pool r) × IsUntouched g ordered n r)
      ⊎ ((j : ℕ) × (m : Launch) × (slice_get ordered j ≡ Some m) × IsTrue (launches g gives_word m)
      × (ready_in g table (cluster_of table l.slot) m ≤ l.cycle) × (r ≡ register_at g allocation ordered j)
      × Lasts g allocation ordered j n)

  module _ (inputs_apart : All (λ i. ¬ Contains g.pool i.reg) g.inputs)
      (apart : AllPairs (λ l m. ¬ Collide l m) ordered) (order : AllPairs (StandsBefore g) ordered)
      (n : ℕ) (l : Launch) (here : slice_get ordered n ≡ Some l) (class : ℕ)
      (lasts : (j : ℕ) (m : Launch) → slice_get ordered j ≡ Some m → IsTrue (launches g gives_word m)
      → class_at g m.row ≡ class → Lasts g allocation ordered j n) where
    abbrev passes : Launch → Bool
    passes m = gives g class m && passes_by g table (Some l) m

    abbrev holds : ℕ → Bool
    holds = is_intact g ordered (Some l)

    abbrev of_class : InputClass → Bool
    of_class i = (i.class == class) && holds i.reg

    abbrev IsFree : ℕ → Type 0
    IsFree r = (¬ Contains g.pool r) × IsUntouched g ordered n r

    input_source : (o : Option InputClass) → find of_class g.inputs ≡ o → (r : ℕ) → option_map (λ i. i.reg) o ≡ Some r → IsFree r
    input_source None e r f = absurd (none-some r f)
    input_source (Some i) e r f =
        let P : InputClass → Type 0 = λ x. (¬ Contains g.pool x.reg) × (is_input_register g x.reg ≡ true) in
        let both : All P g.inputs = λ k d lt. (inputs_apart k d lt, any_at (λ x. x.reg == (get_or g.inputs k d).reg) g.inputs k (get_or g.inputs k d) (slice_get-get_or g.inputs k d lt) (number_same (get_or g.inputs k d).reg (get_or g.inputs k d).reg refl)) in
        let found = found_passes of_class P g.inputs i both e in
        subst IsFree (same_Some i.reg r f) (found.0.0, intact_before g ordered apart order n l i.reg here found.0.1 (and_right (i.class == class) (holds i.reg) found.1))

    launch_source : (j : ℕ) → position passes ordered ≡ Some j → Source n l (register_at g allocation ordered j)
    launch_source j e =
        let there = position-Some passes ordered j l e in
        let m : Launch = get_or ordered j l in
        let at_j : slice_get ordered j ≡ Some m = slice_get-get_or ordered j l there.0 in
        let given = and_left (gives g class m) (passes_by g table (Some l) m) there.1 in
        let word_is = and_left (launches g gives_word m) (class_at g m.row == class) given in
        let class_is = same_number (class_at g m.row) class
        (and_right (launches g gives_word m) (class_at g m.row == class) given) in
        inr (inr (
          j,
          m,
          at_j,
          word_is,
          true_le (ready_in g table (cluster_of table l.slot) m) l.cycle
              (and_right (gives g class m) (passes_by g table (Some l) m) there.1),
          refl,
          lasts j m at_j word_is class_is,
        ))

    source_by : (z : Bool) (o : Option ℕ) → input_where g holds class ≡ o → (p : Option ℕ) → position passes ordered ≡ p → Source n l (if z then 31 else or_register o (option_map_or (register_at g allocation ordered) p 31))
    source_by true o i p e = inl refl
    source_by false (Some r) i p e = inr (inl (input_source (find of_class g.inputs) refl r i))
    source_by false None i (Some j) e = launch_source j e
    source_by false None i None e = inl refl

    source : Source n l (register_for g table allocation ordered l class)
    source = source_by (is_zero_class g class) (input_where g holds class) refl (position passes ordered) refl

  module _ (k : ℕ) (is_table : IsTable table) (graph : IsLaunchGraph g) (proper : IsProper g) (fits : Fits g table allocation k ordered)
      (order : AllPairs (StandsBefore g) ordered)
      (inputs_apart : All (λ i. ¬ Contains g.pool i.reg) g.inputs) where
    can : (n : ℕ) (l : Launch) → slice_get ordered n ≡ Some l → CanLaunch g table l
    can n l e = at_each (CanLaunch g table) ordered fits.rows n l e

    kind : (n : ℕ) (l : Launch) → slice_get ordered n ≡ Some l → instr_at g l.row ≡ Some (kind_of (instr_of g table allocation ordered n l))
    kind n l e = kind_at g table allocation ordered n l (can n l e)

    abbrev takes_of : Option InstrKind → ℕ
    takes_of q = option_map_or (λ i. unwrap_or (latency_of table i) 0) q 0

    takes : (q : Option InstrKind) (P : InstrKind → Type 0) → IsSomeAnd q P → unwrap_or (latency_of table (unwrap_or q Beq)) 0 ≡ takes_of q
    takes None P h = absurd h
    takes (Some i) P h = refl

    seen : (l : Launch) (c : ℕ) (q : Option InstrKind) (P : InstrKind → Type 0) → IsSomeAnd q P → option_map_or (λ i. ready table l.cycle l.slot i c) q 0 ≡ ready table l.cycle l.slot (unwrap_or q Beq) c
    seen l c None P h = absurd h
    seen l c (Some i) P h = refl

    takes_some : (slot : ℕ) (q : Option InstrKind) → IsSomeAnd q (λ i. MayUse table i slot) → 1 ≤ takes_of q
    takes_some slot None h = absurd h
    takes_some slot (Some i) h = latency_positive table i slot is_table h

    ends : (n : ℕ) (l : Launch) → slice_get ordered n ≡ Some l → l.cycle + latency_in table (instr_of g table allocation ordered n l) ≤ k
    ends n l e = subst (λ t. l.cycle + t ≤ k) (takes (instr_at g l.row) (λ i. MayUse table i l.slot) (can n l e) ∙ ap takes_of (kind n l e)) (at_each (EndsBy g table k) ordered fits.in_time n l e)

    is_ready : (n : ℕ) (l : Launch) (c : ℕ) → slice_get ordered n ≡ Some l → ready_from table (item_of g table allocation ordered n l) c ≡ ready_in g table c l
    is_ready n l c e =
        ap (λ q. option_map_or (λ i. ready table l.cycle l.slot i c) q 0) (sym (kind n l e))
        ∙ seen l c (instr_at g l.row) (λ i. MayUse table i l.slot) (can n l e)

    stores_at : (n : ℕ) (l : Launch) → slice_get ordered n ≡ Some l → IsTrue (stores (instr_of g table allocation ordered n l)) → IsTrue (launches g is_store l)
    stores_at n l e h = subst (λ o. IsTrue (option_map_or is_store o false)) (sym (kind n l e)) h

    gives_at : (n : ℕ) (l : Launch) → slice_get ordered n ≡ Some l → IsTrue (gives_word (kind_of (instr_of g table allocation ordered n l))) → IsTrue (launches g gives_word l)
    gives_at n l e h = subst (λ o. IsTrue (option_map_or gives_word o false)) (sym (kind n l e)) h

    one_of_three : (a b : ℕ) → (a < b) ⊎ (b < a) ⊎ (a ≡ b)
    one_of_three a b = grind arith

    before : (i j : ℕ) (l m : Launch) → i < j → slice_get ordered i ≡ Some l → slice_get ordered j ≡ Some m → l.cycle ≤ m.cycle
    before i j l m lt el em =
        elim (at_pair (StandsBefore g) ordered order i j l m lt el em) [ inl h ↦ (let c : l.cycle < m.cycle = h in omega arith) | inr h ↦ (let c : l.cycle ≡ m.cycle = h.0 in omega arith) ]

    some_written : (i : Instr) → gives_word (kind_of i) ≡ true → (r : ℕ) × (writes i ≡ Some r)
    some_written (instrs.Operate o ra second rc) h = (rc, refl)
    some_written (instrs.Lda ra rb disp) h = (ra, refl)
    some_written (instrs.Ldah ra rb disp) h = (ra, refl)
    some_written (instrs.Load access ra rb disp) h = (ra, refl)
    some_written (instrs.Store access ra rb disp) h = absurd (false≢true h)
    some_written (instrs.Ldq ra rb disp) h = (ra, refl)
    some_written (instrs.Stq ra rb disp) h = absurd (false≢true h)
    some_written (instrs.Beq ra disp) h = absurd (false≢true h)

    -- a launch that gives a word writes its own register
    own_written : (n : ℕ) (l : Launch) → slice_get ordered n ≡ Some l → IsTrue (launches g gives_word l)
        → writes (instr_of g table allocation ordered n l) ≡ Some (register_at g allocation ordered n)
    own_written n l e h =
        let some = some_written (instr_of g table allocation ordered n l)
        (subst (λ o. option_map_or gives_word o false ≡ true) (kind n l e) h) in
        some.1 ∙ ap Some (writes_own g table allocation ordered n l (can n l e) some.0 some.1).1

    -- a launch that is ready for another stands before it
    ready_before : (n i : ℕ) (l q : Launch) → slice_get ordered n ≡ Some l → slice_get ordered i ≡ Some q
        → ready_in g table (cluster_of table l.slot) q ≤ l.cycle → i < n
    ready_before n i l q e f ready_by =
        let early = takes_time g table ordered is_table fits.rows i q (cluster_of table l.slot) f in
        elim (one_of_three i n) [
          | inl h ↦ h
          | inr h ↦ elim h [
            | inl h ↦ (let late = before n i l q h e f in absurd (omega (arith, early, ready_by, late)))
            | inr h ↦ (let same : q.cycle ≡ l.cycle = ap (λ x. x.cycle)
                (same_Some q l (sym f ∙ ap (slice_get ordered) h ∙ e)) in absurd (omega (arith, early, ready_by, same)))
          ]
        ]

    last_is_ready : (n : ℕ) (l : Launch) (r : ℕ) → slice_get ordered n ≡ Some l
        → (a : Item) (last : IsLastWriter (items_of g table allocation ordered) n r a) (m : Launch)
        → slice_get ordered last.place ≡ Some m → IsTrue (launches g gives_word m)
        → r ≡ register_at g allocation ordered last.place → ¬ (r ≡ 31) → Source n l r
        → ready_in g table (cluster_of table l.slot) m ≤ l.cycle
    last_is_ready n l r here a last m em gm is not_31 (inl h) = absurd (not_31 h)
    last_is_ready n l r here a last m em gm is not_31 (inr (inl (out, none))) =
        elim (own_kind g table allocation k ordered graph proper fits is_table last.place m em gm) [
          | inl there ↦ absurd (out (subst (λ q. Contains g.pool q) (sym is) there))
          | inr wrote ↦
              absurd (none last.place m last.earlier em (subst (λ q. IsTrue (writes_pin g q m)) (sym is) wrote))
        ]
    last_is_ready n l r here a last m em gm is not_31 (inr (inr (i, q, en, gn, ready_by, at, lasts))) =
        elim (one_of_three i last.place) [
          | inl h ↦ absurd (lasts last.place m h last.earlier em gm (sym is ∙ at))
          | inr h ↦ elim h [
            | inl h ↦
                absurd (last.last i (item_of g table allocation ordered i q) h (ready_before n i l q here en ready_by)
                (item_there i q en) (own_written i q en gn ∙ ap Some (sym at)))
            | inr h ↦
                subst (λ x. ready_in g table (cluster_of table l.slot) x ≤ l.cycle)
                (same_Some q m (sym en ∙ ap (slice_get ordered) h ∙ em)) ready_by
          ]
        ]

    chosen_source : (n : ℕ) (l : Launch) → slice_get ordered n ≡ Some l → (r : ℕ)
        → (r ≡ 31)
        ⊎ ((class : ℕ) × (r ≡ register_for g table allocation ordered l class) × (reads_class g class l ≡ true))
        → Source n l r
    chosen_source n l e r (inl h) = inl h
    chosen_source n l e r (inr h) =
        subst (Source n l) (sym h.1)
        (source inputs_apart fits.apart order n l e h.0
        (lasts_to_reader g table allocation k ordered graph proper fits is_table order n l e h.0 h.2))

    operands_at : (n : ℕ) (l : Launch) → slice_get ordered n ≡ Some l → HasOperands table (items_of g table allocation ordered) n (item_of g table allocation ordered n l)
    operands_at n l e r a reads_it not_31 last =
        let f = item_at last.place a last.there in
        let own = writes_own g table allocation ordered last.place f.0 (can last.place f.0 f.1) r (ap (λ x. writes x.instr) f.2 ∙ last.writes_it) in
        let gives : IsTrue (launches g gives_word f.0) = gives_at last.place f.0 f.1 own.0 in
        let from : Source n l r = chosen_source n l e r (All-contains
        (λ q. (q ≡ 31) ⊎ ((class : ℕ) × (q ≡ register_for g table allocation ordered l class) × (reads_class g class
        l ≡ true))) (reads (instr_of g table allocation ordered n l)) r
        (reads_chosen g table allocation ordered n l (can n l e)) reads_it) in
        subst (λ x. ready_from table x (cluster_of table l.slot) ≤ l.cycle) f.2
        (subst (λ c. c ≤ l.cycle) (sym (is_ready last.place f.0 (cluster_of table l.slot) f.1))
        (last_is_ready n l r e a last f.0 f.1 gives own.1 not_31 from))

    positive : (n : ℕ) (l : Launch) → slice_get ordered n ≡ Some l → 1 ≤ latency_in table (instr_of g table allocation ordered n l)
    positive n l e = takes_some l.slot (Some (kind_of (instr_of g table allocation ordered n l))) (subst (λ o. IsSomeAnd o (λ i. MayUse table i l.slot)) (kind n l e) (can n l e))

    pub obeys : Obeys table k (items_of g table allocation ordered)
    obeys = record {
      rising = pair_items (λ a b. a.cycle ≤ b.cycle) (λ i j l m lt el em. before i j l m lt el em);
      below = all_items (λ a. a.cycle < k) (λ n l e. let p = positive n l e in let q = ends n l e in omega arith);
      in_time = all_items (λ a. a.cycle + latency_in table a.instr ≤ k) (λ n l e. ends n l e);
      slots = all_items (λ a. MayUse table (kind_of a.instr) a.slot) (λ n l e. subst (λ o. IsSomeAnd o (λ i. MayUse table i l.slot)) (kind n l e) (can n l e));
      apart = pair_items (λ a b. ¬ ((a.cycle ≡ b.cycle) × (a.slot ≡ b.slot))) (λ i j l m lt el em. at_pair (λ x y. ¬ Collide x y) ordered fits.apart i j l m lt el em);
      operands = λ n a e. let f = item_at n a e in subst (λ x. HasOperands table (items_of g table allocation ordered) n x) f.2 (operands_at n f.0 f.1);
      one_store = pair_items (λ a b. IsTrue (stores a.instr) → IsTrue (stores b.instr) → ¬ (a.cycle ≡ b.cycle)) (λ i j l m lt el em sl sm. at_pair (λ x y. IsTrue (launches g is_store x) → IsTrue (launches g is_store y) → ¬ (x.cycle ≡ y.cycle)) ordered fits.memory.single i j l m lt el em (stores_at i l el sl) (stores_at j m em sm));
    }

-- the items of a schedule that fits a proper graph obey the table
pub obeys_where_fits : (g : LaunchGraph) (table : Table) (allocation : Allocation) (k : ℕ) (ls ordered : List Launch)
    → IsTable table → IsLaunchGraph g → IsProper g → Fits g table allocation k ls → IsInWordOrder g ls ordered
    → Obeys table k (items_of g table allocation ordered)
obeys_where_fits g table allocation k ls ordered t graph proper fits order =
    obeys g table allocation ordered k t graph proper (fits_permuted g table allocation k ls ordered order.same fits) order.order (inputs_apart g proper)
