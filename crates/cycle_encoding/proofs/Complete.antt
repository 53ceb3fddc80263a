-- What the families of cycles, slots and values say holds of launches that keep the rules, of what they make seen and of
-- what they overwrite, where sets may have pins.
use Rattle.std.proofs.Common.{◌≡◌, ℕ, ◌+◌, ◌<◌, ◌≤◌, Bool, true, false, not, List, length, get_or, refl, sym, ap, ◌∙◌, subst, arith, inl, inr, ◌⊎◌, Option, Some, None}
use Rattle.std.specs.Prelude.{◌||◌, ◌&&◌, ◌==◌, ◌↔◌, nat_le, nat_lt, is_some, IsTrue, Any, Contains, slice_get, option_and_then, if◌then◌else◌}
use Rattle.std.specs.Option.{option_map_or}
use Rattle.std.proofs.lemmas.Bool.Decides.{Decides-ltb}
use Rattle.std.proofs.lemmas.Option.{same_Some, slice_get-get_or}
use Rattle.std.specs.List.{All, filter, list_any, count_by}
use Rattle.std.proofs.lemmas.Bool.{false≢true, cases_Bool, cases_order, eqb-true, eq-eqb, le-leb, and_parts, and_from, or_left, or_right, not-true, not_from_false, false_from_ne_true}
use Rattle.std.proofs.lemmas.List.Elements.{All-contains, All-weaker}
use Rattle.machine_table.specs.Tables.{IsTable, cluster_of}
use Rattle.graph_meaning.specs.Graphs.{is_memory_name, is_zero_class, is_input_register, IsPin}
use Rattle.graph_meaning.specs.WellFormed.{IsLaunchGraph, next_class}
use Rattle.schedule_meaning.specs.Launches.{goes_to, pin_of, writes_pin, overwrites, spoils, collides, reads_until, HasInput, IsUnwritten, IsZero, operands_at, ready_in, IsFree, IsReadable, Gives, gives}
use Rattle.schedule_meaning.specs.Fits.{CanLaunch, CanRead, Collide, EndsBy, IsInSomeRegister}
use Rattle.machine_table.specs.declared.tables.Table.{Table}
use Rattle.graph_meaning.specs.declared.graphs.LaunchGraph.{LaunchGraph}
use Rattle.graph_meaning.specs.declared.graphs.SetClass.{SetClass}
use Rattle.graph_meaning.specs.declared.graphs.InputClass.{InputClass}
use Rattle.schedule_meaning.specs.declared.schedules.Operand.{Operand}
use Rattle.schedule_meaning.specs.declared.schedules.To.{To}
use Rattle.schedule_meaning.specs.declared.schedules.To.TheVariants.{Pool, Set}
use Rattle.schedule_meaning.specs.declared.schedules.Allocation.TheVariants.{Block}
use Rattle.schedule_meaning.specs.declared.schedules.Allocation.{Allocation}
use Rattle.schedule_meaning.specs.declared.schedules.Launch.{Launch}
use Rattle.schedule_meaning.proofs.Rules.{at_pair, in_list}
use Rattle.schedule_meaning.proofs.Pins.{pinned_from, written_from, writes_from, goes_from}
use Rattle.cycle_encoding.specs.CycleFormula.{Listed}
use Rattle.cycle_encoding.specs.Variables.{classes_of, is_word_class}
use Rattle.cycle_encoding.specs.declared.seen.Seen.{Seen}
use Rattle.cycle_encoding.specs.Families.{is_at, is_free, is_seen, makes}
use Rattle.cycle_encoding.specs.Variables.{all_launches, made_classes, is_safe, is_pin, is_overwriting, overwriting_sets, set_numbers, all_overwritten, Overwritten}
use Rattle.cycle_encoding.specs.Families.{is_made, is_made_target, is_input_at, takes_input, reads_own, is_needed, is_lost}
use Rattle.cycle_encoding.specs.CycleFormula.{wide}
use Rattle.cycle_encoding.specs.CycleRules.{MayGo, KeepsCycleRules, IsFreeReached, WasOverwritten}
use Rattle.cycle_encoding.proofs.Tests.{some_of, some_in, any_from, All-to_filter, zero-from, free-from, gives-from}
use Rattle.cycle_encoding.proofs.PinnedTests.{at-from, register-from, pin-is}
use Rattle.cycle_encoding.proofs.Members.{NoTwice, filter-in, filter-out, filter-once, range-in, All-from_members, few-among}
use Rattle.cycle_encoding.proofs.PinnedRows.{word-launch}
use Rattle.cycle_encoding.proofs.Says.{SaysPinnedCycles}
use Rattle.cycle_encoding.proofs.Lists.{IsListed, launches-once, listed-one, listed-all, listed-in, over-in}
use Rattle.cycle_encoding.proofs.LaunchLists.{cluster-in, seen-in}

-- ---- the same launch

same_to : To → To → Bool
same_to Pool Pool = true
same_to (Set i) (Set j) = i == j
same_to Pool (Set j) = false
same_to (Set i) Pool = false

same_to-is : (a b : To) → same_to a b ≡ true → a ≡ b
unfolding same_to
same_to-is Pool Pool h = refl
same_to-is (Set i) (Set j) h = ap Set (eqb-true i j h)
same_to-is Pool (Set j) h = absurd (false≢true h)
same_to-is (Set i) Pool h = absurd (false≢true h)

same_to-itself : (a : To) → same_to a a ≡ true
unfolding same_to
same_to-itself Pool = refl
same_to-itself (Set i) = eq-eqb i i refl

pub same : Launch → Launch → Bool
same a b = (a.cycle == b.cycle) && ((a.slot == b.slot) && ((a.row == b.row) && same_to a.to b.to))

launch_of : ℕ → ℕ → ℕ → To → Launch
launch_of cycle slot row to = record { cycle = cycle; slot = slot; row = row; to = to }

equal : (a b : Launch) → a.cycle ≡ b.cycle → a.slot ≡ b.slot → a.row ≡ b.row → a.to ≡ b.to → a ≡ b
unfolding launch_of
equal a b p q r t =
    ap (λ c. launch_of c a.slot a.row a.to) p ∙ ap (λ s. launch_of b.cycle s a.row a.to) q ∙ ap (λ r. launch_of b.cycle b.slot r a.to) r ∙ ap (λ t. launch_of b.cycle b.slot b.row t) t

same-is : (a b : Launch) → same a b ≡ true → a ≡ b
unfolding same
same-is a b h =
    let p = and_parts (a.cycle == b.cycle) ((a.slot == b.slot) && ((a.row == b.row) && same_to a.to b.to)) h in
    let q = and_parts (a.slot == b.slot) ((a.row == b.row) && same_to a.to b.to) p.1 in
    let r = and_parts (a.row == b.row) (same_to a.to b.to) q.1 in
    equal a b (eqb-true a.cycle b.cycle p.0) (eqb-true a.slot b.slot q.0) (eqb-true a.row b.row r.0) (same_to-is a.to b.to r.1)

same-itself : (a : Launch) → same a a ≡ true
unfolding same
same-itself a =
    and_from (a.cycle == a.cycle) ((a.slot == a.slot) && ((a.row == a.row) && same_to a.to a.to)) (eq-eqb a.cycle a.cycle refl)
    (and_from (a.slot == a.slot) ((a.row == a.row) && same_to a.to a.to) (eq-eqb a.slot a.slot refl)
    (and_from (a.row == a.row) (same_to a.to a.to) (eq-eqb a.row a.row refl) (same_to-itself a.to)))

abbrev pub among : List Launch → Launch → Bool
among ls l = list_any (same l) ls

among-is : (ls : List Launch) (l : Launch) → among ls l ≡ true → Contains ls l
among-is ls l h = (let m = some_of (same l) ls h in subst (λ x. Contains ls x) (sym (same-is l m.0 m.2)) m.1)

among-from : (ls : List Launch) (l : Launch) → Contains ls l → among ls l ≡ true
among-from ls l h = some_in (same l) ls l h (same-itself l)

-- the list has a variable for each of these launches, none twice, and for all that they have to see
pub record ServesPins (g : LaunchGraph) (table : Table) (allocation : Allocation) (k : ℕ) (e : Listed) (ls : List Launch) : Type 0 where
  pub listed : All (IsListed g table allocation k) e.launches
  pub once : NoTwice e.launches
  pub members : (l : Launch) → Contains ls l → Contains e.launches l
  pub seen : (l m : Launch) (o : Operand) → Contains ls l → Contains (operands_at g l.row) o → is_made g o ≡ true → Contains ls m → Gives g o.class m → Contains e.seen (record { class = o.class; cluster = cluster_of table l.slot; cycle = l.cycle })

-- an operand that has to be made and that a launch gives is of a class that is made
pub pinned_made_class : (g : LaunchGraph) → IsLaunchGraph g → (o : Operand) (l : Launch) → is_made g o ≡ true → Gives g o.class l → Contains (made_classes g) o.class
pinned_made_class g well o l h gave =
    let p = and_parts (not (is_free g o)) (not (is_safe g o.class)) h in
    let w = subst (λ c. (is_word_class g c ≡ true) × (c < next_class g.rows)) gave.1 (word-launch g well l gave.0) in
    let bound = w.1 in
    let zero_free : is_zero_class g o.class ≡ true → ⊥ = λ z. false≢true (sym (not-true (is_free g o) p.0) ∙ or_left (is_zero_class g o.class) (o.second && _) z) in
    filter-in (λ c. is_word_class g c && (not (is_safe g c) && not (is_zero_class g c))) (classes_of g) o.class (range-in 0 (next_class g.rows) o.class (omega arith) (omega arith))
    (and_from (is_word_class g o.class) (not (is_safe g o.class) && not (is_zero_class g o.class)) w.0
    (and_from (not (is_safe g o.class)) (not (is_zero_class g o.class)) p.1 (not_from_false (is_zero_class g o.class) (false_from_ne_true (is_zero_class g o.class) zero_free))))

-- the list of all launches that end by k serves launches that keep the rules
pub all-serve : (g : LaunchGraph) (table : Table) (k : ℕ) (ls : List Launch) → IsTable table → IsLaunchGraph g → KeepsCycleRules g table Block k ls → ServesPins g table Block k (wide g table k) ls
all-serve g table k ls is_table well rules =
    let member : (l : Launch) → Contains ls l → Contains (all_launches g table Block k) l = λ l h. listed-in g table Block k is_table l (All-contains (CanLaunch g table) ls l rules.rows h) (All-contains (MayGo g Block) ls l rules.destinations h) (All-contains (EndsBy g table k) ls l rules.in_time h) in
    record {
      listed = listed-all g table Block k is_table;
      once = launches-once g table Block k;
      members = member;
      seen = λ l m o hl ho t hm gave.
          let ok = listed-one g table Block k is_table l (member l hl) in
          seen-in g table k (made_classes g) o.class (cluster_of table l.slot) l.cycle (pinned_made_class g well o m t gave) (cluster-in g table k is_table l.slot ok.slot) ok.early;
    }

-- ---- the things that launches make true

module _ (g : LaunchGraph) (table : Table) (k : ℕ) (ls : List Launch) (e : Listed) where
  abbrev pub seen_now : Seen → Bool
  seen_now d = list_any (makes g table d) ls

  -- a launch went to the set below the cycle
  abbrev over_by : Overwritten → Launch → Bool
  over_by v l = goes_to v.set l && nat_lt l.cycle v.cycle

  abbrev pub over_now : Overwritten → Bool
  over_now v = list_any (over_by v) ls

  abbrev pub over : List Overwritten
  over = filter over_now (all_overwritten g k)

  abbrev pub not_over : List Overwritten
  not_over = filter (λ v. not (over_now v)) (all_overwritten g k)

  abbrev pub launched : List Launch
  launched = filter (among ls) e.launches

  abbrev pub seen : List Seen
  seen = filter seen_now e.seen

  module _ {allocation : Allocation} (serves : ServesPins g table allocation k e ls)
      (rules : KeepsCycleRules g table allocation k ls) where
    abbrev S : List Launch
    S = launched

    -- ---- the same launches

    pub launched-out : (l : Launch) → Contains S l → Contains ls l
    launched-out l h = among-is ls l (filter-out (among ls) e.launches l h).1

    pub launched-in : (l : Launch) → Contains ls l → Contains S l
    launched-in l h =
        filter-in (among ls) e.launches l (serves.members l h) (among-from ls l h)

    pub launched-once : NoTwice S
    launched-once = filter-once (among ls) e.launches serves.once

    is_listed : (l : Launch) → Contains S l → IsListed g table allocation k l
    is_listed l h = All-contains (IsListed g table allocation k) e.launches l serves.listed (filter-out (among ls) e.launches l h).0

    -- a test that some launch passes
    pass : (test : Launch → Bool) → list_any test ls ≡ true → list_any test S ≡ true
    pass test h = (let l = some_of test ls h in some_in test S l.0 (launched-in l.0 l.1) l.2)

    -- ---- slots

    pub slots-few : (s t : ℕ) → count_by (is_at s t) S ≤ 1
    slots-few s t =
        few-among (is_at s t) S ls launched-once launched-out (λ i j d lt len p q.
        let a = get_or ls i d in
        let b = get_or ls j d in
        let pa = and_parts (a.slot == s) (a.cycle == t) p in
        let pb = and_parts (b.slot == s) (b.cycle == t) q in
        rules.apart i j d lt len (eqb-true a.cycle t pa.1 ∙ sym (eqb-true b.cycle t pb.1), eqb-true a.slot s pa.0 ∙ sym (eqb-true b.slot s pb.0)))

    -- ---- values

    -- the register of the set of this number
    set_same : (i j : ℕ) → Set i ≡ Set j → i ≡ j
    set_same i j e = cc

    pin_set : (r : ℕ) → IsPin g r → (j : ℕ) × (pin_of g (Set j) ≡ Some r)
    pin_set r p = (p.0, ap (option_and_then (λ s. s.pin)) (slice_get-get_or g.sets p.0 p.1 p.2 ∙ ap Some p.3) ∙ p.4)

    set_there : (j r : ℕ) → pin_of g (Set j) ≡ Some r → (s : SetClass) × (slice_get g.sets j ≡ Some s) × (s.pin ≡ Some r)
    set_there j r h =
        let p = pinned_from g (Set j) r h in
        (p.1, ap (slice_get g.sets) (set_same j p.0 p.2) ∙ p.3, p.4)

    overwriting_set : (j r : ℕ) → pin_of g (Set j) ≡ Some r → is_input_register g r ≡ true → Contains (overwriting_sets g) j
    overwriting_set j r h i =
        let s = set_there j r h in
        let lt : j < length g.sets = in_list g.sets j s.0 s.1 in
        filter-in (is_overwriting g) (set_numbers g) j (range-in 0 (length g.sets) j (omega arith) (omega arith)) (ap (λ o. option_map_or (is_input_register g) o false) h ∙ i)

    wrote : (j r : ℕ) → pin_of g (Set j) ≡ Some r → (m : Launch) → goes_to j m ≡ true → IsTrue (writes_pin g r m)
    wrote j r h m t = writes_from g r m (ap (pin_of g) (goes_from g j m t) ∙ h)

    -- where no launch went to the set below the cycle, the input of the class isn't lost
    lost_in : (c t j r : ℕ) → pin_of g (Set j) ≡ Some r → HasInput g c (λ q. q ≡ r) → t ≤ k → ((m : Launch) → Contains ls m → goes_to j m ≡ true → m.cycle < t → ⊥) → list_any (is_lost g c t) not_over ≡ true
    lost_in c t j r w i le none =
        let v : Overwritten = record { set = j; cycle = t } in
        let takes : takes_input g c j ≡ true = ap (λ o. option_map_or (is_input_at g c) o false) w ∙ at-from g c r i in
        let no : over_now v ≡ false = elim (cases_Bool (over_now v)) [
          | inl h ↦ (let m = some_of (over_by v) ls h in let p = and_parts (goes_to j m.0) (nat_lt m.0.cycle t) m.2 in absurd (none m.0 m.1 p.0 ((Decides-ltb m.0.cycle t).0 p.1)))
          | inr f ↦ f
        ] in
        some_in (is_lost g c t) not_over v
        (filter-in (λ v. not (over_now v)) (all_overwritten g k) v (over-in g table k j t (overwriting_set j r w (register-from g c r i)) le) (not_from_false (over_now v) no))
        (and_from (takes_input g c j) (t == t) takes (eq-eqb t t refl))

    -- an input of a class that isn't safe has a pin for its register
    pinned_input : (c : ℕ) → is_safe g c ≡ false → (i : InputClass) → Contains g.inputs i → i.class ≡ c → IsPin g i.reg
    pinned_input c f i h e =
        elim (cases_Bool (is_pin g i.reg)) [
          | inl t ↦ pin-is g i.reg t
          | inr n ↦ absurd (false≢true (sym f ∙ some_in (λ i. (i.class == c) && not (is_pin g i.reg)) g.inputs i h (and_from (i.class == c) (not (is_pin g i.reg)) (eq-eqb i.class c e) (not_from_false (is_pin g i.reg) n))))
        ]

    input_lost : (c t : ℕ) → is_safe g c ≡ false → t ≤ k → (i : InputClass) → Contains g.inputs i → i.class ≡ c → ((m : Launch) → Contains ls m → IsTrue (writes_pin g i.reg m) → m.cycle < t → ⊥) → list_any (is_lost g c t) not_over ≡ true
    input_lost c t f le i h e none =
        let p = pin_set i.reg (pinned_input c f i h e) in
        lost_in c t p.0 i.reg p.1 (any_from (λ i'. (i'.class ≡ c) × (i'.reg ≡ i.reg)) g.inputs i h (e, refl)) le (λ m hm goes lt. none m hm (wrote p.0 i.reg p.1 m goes) lt)

    made_parts : (s : SetClass) → is_made_target g s ≡ true → (is_memory_name s.name ≡ false) × (is_some s.pin ≡ false) × (is_safe g s.class ≡ false) × (is_zero_class g s.class ≡ false)
    made_parts s t =
        let p = and_parts (not (is_memory_name s.name)) (not (is_some s.pin) && (not (is_safe g s.class) && not (is_zero_class g s.class))) t in
        let q = and_parts (not (is_some s.pin)) (not (is_safe g s.class) && not (is_zero_class g s.class)) p.1 in
        let r = and_parts (not (is_safe g s.class)) (not (is_zero_class g s.class)) q.1 in
        (not-true (is_memory_name s.name) p.0, not-true (is_some s.pin) q.0, not-true (is_safe g s.class) r.0, not-true (is_zero_class g s.class) r.1)

    abbrev IsMade : SetClass → Type 0
    IsMade s = (list_any (gives g s.class) S || list_any (is_lost g s.class k) not_over) ≡ true

    free_place : (s : SetClass) → is_safe g s.class ≡ false → is_zero_class g s.class ≡ false → HasInput g s.class (IsUnwritten g ls) ⊎ (IsZero g s.class ⊎ Any (Gives g s.class) ls) → IsMade s
    free_place s f z (inl (n, i, lt, e, (c, unwritten))) =
        or_right (list_any (gives g s.class) S) (list_any (is_lost g s.class k) not_over)
        (input_lost s.class k f (omega arith) i (n, lt, e) c (λ m hm w early. All-contains (λ m. ¬ IsTrue (writes_pin g i.reg m)) ls m unwritten hm w))
    free_place s f z (inr (inl h)) = absurd (false≢true (sym z ∙ zero-from g s.class h))
    free_place s f z (inr (inr (j, l, lt, e, h))) =
        or_left (list_any (gives g s.class) S) (list_any (is_lost g s.class k) not_over)
        (pass (gives g s.class) (some_in (gives g s.class) ls l (j, lt, e) (gives-from g s.class l h)))

    no_pin : (o : Option ℕ) → is_some o ≡ false → o ≡ None
    no_pin None n = refl
    no_pin (Some r) n = absurd (false≢true (sym n))

    free_target : (s : SetClass) → is_made_target g s ≡ true → IsTrue (is_memory_name s.name) ⊎ IsInSomeRegister g ls s.class → IsMade s
    free_target s t (inl m) = absurd (false≢true (sym (made_parts s t).0 ∙ m))
    free_target s t (inr h) = (let p = made_parts s t in free_place s p.2 p.3 h)

    made_target : (s : SetClass) → IsFreeReached g ls s → is_made_target g s ≡ true → IsMade s
    made_target s h t = free_target s t (h (no_pin s.pin (made_parts s t).1))

    -- launches in one slot and cycle are one
    one_place : (a b : Launch) → Contains ls a → Contains ls b → collides a b ≡ true → a ≡ b
    one_place a b ca cb t =
        let p = and_parts (a.cycle == b.cycle) (a.slot == b.slot) t in
        let cycles : a.cycle ≡ b.cycle = eqb-true a.cycle b.cycle p.0 in
        let slots : a.slot ≡ b.slot = eqb-true a.slot b.slot p.1 in
        let at_a : slice_get ls ca.0 ≡ Some a = slice_get-get_or ls ca.0 a ca.1 ∙ ap Some ca.2 in
        let at_b : slice_get ls cb.0 ≡ Some b = slice_get-get_or ls cb.0 b cb.1 ∙ ap Some cb.2 in
        elim (cases_order ca.0 cb.0) [
          | inl e ↦ same_Some a b (sym at_a ∙ ap (slice_get ls) e ∙ at_b)
          | inr (inl lt) ↦ absurd (at_pair (λ l m. ¬ Collide l m) ls rules.apart ca.0 cb.0 a b lt at_a at_b (cycles, slots))
          | inr (inr lt) ↦ absurd (at_pair (λ l m. ¬ Collide l m) ls rules.apart cb.0 ca.0 b a lt at_b at_a (sym cycles, sym slots))
        ]

    until_low : (l : Launch) → IsListed g table allocation k l → reads_until g l ≤ k
    until_low l ok =
        elim (cases_Bool (overwrites g l)) [
          | inl t ↦ (let e : reads_until g l ≡ l.cycle + 1 = ap (λ b. if b then l.cycle + 1 else l.cycle) t in let b = ok.early in omega arith)
          | inr f ↦ (let e : reads_until g l ≡ l.cycle = ap (λ b. if b then l.cycle + 1 else l.cycle) f in let b = ok.early in omega arith)
        ]

    -- a launch that goes to the set whose pin is an input's of the class reads that
    own_from : (l : Launch) (o : Operand) (r : ℕ) → HasInput g o.class (λ q. q ≡ r) → IsTrue (writes_pin g r l) → reads_own g l o ≡ true
    own_from l o r i w = ap (λ q. option_map_or (is_input_at g o.class) q false) (written_from g r l w) ∙ at-from g o.class r i

    abbrev IsSeen : Launch → Operand → Type 0
    IsSeen l o = (list_any (is_seen o.class (cluster_of table l.slot) l.cycle) seen || list_any (is_lost g o.class (reads_until g l)) not_over) ≡ true

    -- an operand that has to be made is seen, or an input of its class isn't lost
    sees : (l : Launch) → Contains S l → (o : Operand) → Contains (operands_at g l.row) o → is_needed g l o ≡ true → IsFree g o ⊎ IsReadable g table ls l o.class → IsSeen l o
    sees l h o ho t (inl f) =
        let m = and_parts (is_made g o) (not (reads_own g l o)) t in
        let p = and_parts (not (is_free g o)) (not (is_safe g o.class)) m.0 in
        absurd (false≢true (sym (not-true (is_free g o) p.0) ∙ free-from g o f))
    sees l h o ho t (inr (inl (n, i, lt, e, (c, unspoilt)))) =
        let m = and_parts (is_made g o) (not (reads_own g l o)) t in
        let p = and_parts (not (is_free g o)) (not (is_safe g o.class)) m.0 in
        let here = launched-out l h in
        let own : reads_own g l o ≡ false = not-true (reads_own g l o) m.1 in
        or_right (list_any (is_seen o.class (cluster_of table l.slot) l.cycle) seen) (list_any (is_lost g o.class (reads_until g l)) not_over)
        (input_lost o.class (reads_until g l) (not-true (is_safe g o.class) p.1) (until_low l (is_listed l h)) i (n, lt, e) c (λ q hq w early. elim (cases_Bool (collides l q)) [
          | inl both ↦
              (let same : q ≡ l = sym (one_place l q here hq both) in
              false≢true (sym own ∙ own_from l o i.reg (any_from (λ i'. (i'.class ≡ o.class) × (i'.reg ≡ i.reg)) g.inputs i (n, lt, e) (c, refl)) (subst (λ x. IsTrue (writes_pin g i.reg x)) same w)))
          | inr two ↦
              All-contains (λ q. ¬ IsTrue (spoils g l i.reg q)) ls q unspoilt hq
              (and_from (writes_pin g i.reg q) (not (collides l q) && nat_lt q.cycle (reads_until g l)) w
              (and_from (not (collides l q)) (nat_lt q.cycle (reads_until g l)) (not_from_false (collides l q) two) ((Decides-ltb q.cycle (reads_until g l)).1 early)))
        ]))
    sees l h o ho t (inr (inr (j, m, lt, e', (gave, ready)))) =
        let made = (and_parts (is_made g o) (not (reads_own g l o)) t).0 in
        let c = o.class in
        let n = cluster_of table l.slot in
        let d : Seen = record { class = c; cluster = n; cycle = l.cycle } in
        let listed = serves.seen l m o (launched-out l h) ho made (j, lt, e') gave in
        let makes_it : makes g table d m ≡ true = and_from (gives g c m) (nat_le (ready_in g table n m) l.cycle) (gives-from g c m gave) (le-leb (ready_in g table n m) l.cycle ready) in
        or_left (list_any (is_seen o.class (cluster_of table l.slot) l.cycle) seen) (list_any (is_lost g o.class (reads_until g l)) not_over)
        (some_in (is_seen c n l.cycle) seen d (filter-in seen_now e.seen d listed (some_in (makes g table d) ls m (j, lt, e') makes_it))
        (and_from (c == c) ((n == n) && (l.cycle == l.cycle)) (eq-eqb c c refl) (and_from (n == n) (l.cycle == l.cycle) (eq-eqb n n refl) (eq-eqb l.cycle l.cycle refl))))

    pub pinned_cycles : SaysPinnedCycles g table k S seen not_over
    pinned_cycles = record {
      targets = All-to_filter (is_made_target g) IsMade g.sets (All-weaker (IsFreeReached g ls) (λ s. is_made_target g s ≡ true → IsMade s) made_target g.sets rules.targets);
      operands = All-from_members (λ l. All (IsSeen l) (filter (is_needed g l) (operands_at g l.row))) S (λ l h.
          All-to_filter (is_needed g l) (IsSeen l) (operands_at g l.row)
          (All-from_members (λ o. is_needed g l o ≡ true → IsSeen l o) (operands_at g l.row) (λ o ho t.
          sees l h o ho t (All-contains (λ o. IsFree g o ⊎ IsReadable g table ls l o.class) (operands_at g l.row) o (All-contains (CanRead g table ls) ls l rules.operands (launched-out l h)) ho))));
      seen = All-from_members (λ d. list_any (makes g table d) S ≡ true) seen (λ d h. pass (makes g table d) (filter-out seen_now e.seen d h).1);
    }

    -- what is overwritten by these launches, as they are listed and as they are given
    was-out : (v : Overwritten) → over_now v ≡ true → WasOverwritten ls v
    was-out v h =
        let l = some_of (over_by v) ls h in
        let p = and_parts (goes_to v.set l.0) (nat_lt l.0.cycle v.cycle) l.2 in
        any_from (λ l. IsTrue (goes_to v.set l) × (l.cycle < v.cycle)) ls l.0 l.1 (p.0, (Decides-ltb l.0.cycle v.cycle).0 p.1)

    was-in : (v : Overwritten) → WasOverwritten ls v → over_now v ≡ true
    was-in v (n, l, lt, e', (t, early)) =
        some_in (over_by v) ls l (n, lt, e') (and_from (goes_to v.set l) (nat_lt l.cycle v.cycle) t ((Decides-ltb l.cycle v.cycle).1 early))

    pub over-exact : (v : Overwritten) → Contains over v ↔ (Contains (all_overwritten g k) v × WasOverwritten ls v)
    over-exact v = (
      (λ h. let f = filter-out over_now (all_overwritten g k) v h in (f.0, was-out v f.1)),
      (λ h. filter-in over_now (all_overwritten g k) v h.0 (was-in v h.1)),
    )
