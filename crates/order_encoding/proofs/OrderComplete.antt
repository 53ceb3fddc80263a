-- What the families of registers and pins say holds of the launches of a schedule that fits, with what its launches take
-- and overwrite.
use Rattle.std.proofs.Common.{◌≡◌, ℕ, ◌+◌, ◌<◌, ◌≤◌, Bool, true, false, not, cond, List, length, get_or, refl, sym, ap, ◌∙◌, subst, arith, inl, inr, ◌⊎◌, Option, Some, None}
use Rattle.std.specs.Prelude.{◌&&◌, ◌==◌, ◌↔◌, nat_le, is_some, IsTrue, Contains, slice_get}
use Rattle.std.specs.Option.{option_map_or}
use Rattle.std.specs.List.{All, filter, list_any, count_by, range_with_len}
use Rattle.std.proofs.lemmas.Option.{none-some}
use Rattle.std.proofs.lemmas.Bool.{false≢true, cases_Bool, eqb-true, eq-eqb, le-leb, and_parts, and_from, not-true}
use Rattle.std.proofs.lemmas.List.Sums.{sum_by-le-sum_by}
use Rattle.std.proofs.lemmas.List.Elements.{All-contains, All-weaker, Contains-get_or}
use Rattle.graph_meaning.specs.Graphs.{is_memory_name}
use Rattle.graph_meaning.specs.WellFormed.{IsLaunchGraph}
use Rattle.schedule_meaning.specs.Launches.{launches, is_store, is_load, is_branch, is_held, pin_of, goes_to, overwrites, takes_pool}
use Rattle.schedule_meaning.specs.Fits.{IsWhereWanted, IsReached, Waits, Fits}
use Rattle.schedule_meaning.specs.Plain.{WaitsPlain}
use Rattle.machine_table.specs.declared.tables.Table.{Table}
use Rattle.graph_meaning.specs.declared.graphs.LaunchGraph.{LaunchGraph}
use Rattle.graph_meaning.specs.declared.graphs.SetClass.{SetClass}
use Rattle.schedule_meaning.specs.declared.schedules.To.TheVariants.{Set}
use Rattle.schedule_meaning.specs.declared.schedules.Allocation.{Allocation}
use Rattle.schedule_meaning.specs.declared.schedules.Launch.{Launch}
use Rattle.schedule_meaning.proofs.Rules.{at_each}
use Rattle.schedule_meaning.proofs.Pins.{pinned_from}
use Rattle.cycle_encoding.specs.Shapes.{when}
use Rattle.cycle_encoding.specs.Families.{any}
use Rattle.cycle_encoding.specs.Variables.{set_numbers, overwriting_sets, all_overwritten, Overwritten, pinned_sets}
use Rattle.cycle_encoding.specs.Families.{is_input_at, takes_input}
use Rattle.cycle_encoding.specs.CycleRules.{WasOverwritten}
use Rattle.order_encoding.specs.OrderVariables.{all_taken, Taken}
use Rattle.order_encoding.specs.OrderFamilies.{branches_by, is_taken_at}
use Rattle.order_encoding.specs.PinFamilies.{is_overwritten_at, unmet_sets, has_own_input}
use Rattle.cycle_encoding.proofs.Tests.{some_of, some_in, any_from, two_at}
use Rattle.cycle_encoding.proofs.PinnedTests.{at-from}
use Rattle.cycle_encoding.proofs.Lists.{over-in}
use Rattle.cycle_encoding.proofs.Counting.{count-one, count-none, count-by-places}
use Rattle.cycle_encoding.proofs.Members.{twice, filter-in, filter-out, filter-once, range-in, range-out, All-from_members, few-among}
use Rattle.order_encoding.proofs.Listing.{taken-in, taken-once}
use Rattle.order_encoding.proofs.Complete.{SameLaunches, KeepsOrder, come_now, come, launched-out, place, pass, a_branch, when_is}
use Rattle.order_encoding.proofs.OrderSays.{SaysPool, SaysPins, SaysLate}

-- a schedule that fits keeps memory and the branch in order
pub order_of : (g : LaunchGraph) (table : Table) (a : Allocation) (k : ℕ) (ls : List Launch) → Fits g table a k ls → KeepsOrder g ls
order_of g table a k ls fit = record {
  memory = fit.memory;
  one_branch = fit.one_branch;
  after_branch = All-weaker (Waits g ls) (WaitsPlain g ls) (λ l w c. w (elim c [ inl a ↦ inl a | inr b ↦ inr (inl b) ])) ls fit.after_branch;
}

module _ (g : LaunchGraph) (table : Table) (k : ℕ) (ls : List Launch) where
  abbrev takes : Taken → Launch → Bool
  takes u l = takes_pool g l && is_taken_at l.slot l.cycle u

  abbrev pub pool_taken_now : Taken → Bool
  pool_taken_now u = list_any (takes u) ls

  abbrev pub pool_taken : List Taken
  pool_taken = filter pool_taken_now (all_taken table k)

  module _ (S : List Launch) (same : SameLaunches table k ls S) (is_graph : IsLaunchGraph g) (a : Allocation) (fit : Fits g table a k ls) where
    order : KeepsOrder g ls
    order = order_of g table a k ls fit

    -- ---- the branch

    -- what has to wait comes when the branch has come
    comes : (l : Launch) → Contains S l → is_some g.guard ≡ true → IsTrue (launches g is_store l) ⊎ (IsTrue (launches g is_load l) × IsTrue (is_held g)) ⊎ IsTrue (overwrites g l) → list_any (λ t. t == l.cycle) (come g table k ls) ≡ true
    comes l h e w =
        let b = some_of (launches g is_branch) ls (a_branch g table k ls S same is_graph order e) in
        let early : l.cycle < k = (place g table k ls S same is_graph order l h).1 in
        let after = All-contains (Waits g ls) ls l fit.after_branch (launched-out g table k ls S same is_graph order l h) w in
        let le : (b.0).cycle ≤ l.cycle = All-contains (λ b. IsTrue (launches g is_branch b) → b.cycle ≤ l.cycle) ls b.0 after b.1 b.2 in
        let passes : branches_by g l.cycle b.0 ≡ true = and_from (launches g is_branch b.0) (nat_le (b.0).cycle l.cycle) b.2 (le-leb (b.0).cycle l.cycle le) in
        some_in (λ t. t == l.cycle) (come g table k ls) l.cycle
        (filter-in (come_now g table k ls) (when (is_some g.guard) (range_with_len 0 k)) l.cycle (subst (λ xs. Contains xs l.cycle) (sym (when_is g table k ls S same is_graph order (is_some g.guard) (range_with_len 0 k) e)) (range-in 0 k l.cycle (omega arith) (omega arith))) (some_in (branches_by g l.cycle) ls b.0 b.1 passes))
        (eq-eqb l.cycle l.cycle refl)

    pub late : SaysLate g table k S (come g table k ls)
    late e = All-from_members (λ l. overwrites g l ≡ true → list_any (λ t. t == l.cycle) (come g table k ls) ≡ true) S (λ l h over. comes l h e (inr (inr over)))

    -- ---- registers

    pub pool_says : SaysPool g table k S pool_taken
    pool_says =
        All-from_members (λ l. takes_pool g l ≡ true → list_any (is_taken_at l.slot l.cycle) pool_taken ≡ true) S (λ l h w.
        let ok = place g table k ls S same is_graph order l h in
        let at : is_taken_at l.slot l.cycle (record { slot = l.slot; cycle = l.cycle }) ≡ true = and_from (l.slot == l.slot) (l.cycle == l.cycle) (eq-eqb l.slot l.slot refl) (eq-eqb l.cycle l.cycle refl) in
        some_in (is_taken_at l.slot l.cycle) pool_taken (record { slot = l.slot; cycle = l.cycle })
        (filter-in pool_taken_now (all_taken table k) (record { slot = l.slot; cycle = l.cycle }) (taken-in g table k l.slot l.cycle ok.0 ok.1)
        (some_in (takes (record { slot = l.slot; cycle = l.cycle })) ls l (launched-out g table k ls S same is_graph order l h) (and_from (takes_pool g l) (is_taken_at l.slot l.cycle (record { slot = l.slot; cycle = l.cycle })) w at))) at)

    by_launch : (l : Launch) → count_by (λ u. any u && takes u l) pool_taken ≤ cond {A = ℕ} (takes_pool g l) 1 0
    by_launch l =
        elim (cases_Bool (takes_pool g l)) [
          | inl w ↦
              (let z : cond {A = ℕ} (takes_pool g l) 1 0 ≡ 1 = ap (λ b. cond {A = ℕ} b 1 0) w in
              let few = count-one (λ u. any u && takes u l) pool_taken (λ i j d lt len p q.
              let a = get_or pool_taken i d in
              let b = get_or pool_taken j d in
              let pa = and_parts (a.slot == l.slot) (a.cycle == l.cycle) (and_parts (takes_pool g l) (is_taken_at l.slot l.cycle a) p).1 in
              let pb = and_parts (b.slot == l.slot) (b.cycle == l.cycle) (and_parts (takes_pool g l) (is_taken_at l.slot l.cycle b) q).1 in
              let es : a.slot ≡ b.slot = eqb-true a.slot l.slot pa.0 ∙ sym (eqb-true b.slot l.slot pb.0) in
              let ec : a.cycle ≡ b.cycle = eqb-true a.cycle l.cycle pa.1 ∙ sym (eqb-true b.cycle l.cycle pb.1) in
              let ab : a ≡ b = (let x : a ≡ record { slot = b.slot; cycle = a.cycle } = ap (λ s. record { slot = s; cycle = a.cycle }) es in let y : record { slot = b.slot; cycle = a.cycle } ≡ b = ap (λ t. record { slot = b.slot; cycle = t }) ec in x ∙ y) in
              twice pool_taken (filter-once pool_taken_now (all_taken table k) (taken-once g table k)) i j d lt len ab) in
              omega arith)
          | inr f ↦
              (let z = count-none (λ u. any u && takes u l) pool_taken (λ i d lt p. false≢true (sym f ∙ (and_parts (takes_pool g l) (is_taken_at l.slot l.cycle (get_or pool_taken i d)) p).0)) in
              omega arith)
        ]

    pub pinned-pool-few : count_by (takes_pool g) ls ≤ length g.pool → count_by any pool_taken ≤ length g.pool
    pinned-pool-few c =
        let a = count-by-places any (λ (l : Launch) (u : Taken). takes u l) ls pool_taken (All-from_members (λ u. any u ≡ true → list_any (λ l. takes u l) ls ≡ true) pool_taken (λ u h e. (filter-out pool_taken_now (all_taken table k) u h).1)) in
        let b = sum_by-le-sum_by (λ l. count_by (λ u. any u && takes u l) pool_taken) (λ l. cond {A = ℕ} (takes_pool g l) 1 0) ls by_launch in
        omega arith

    -- ---- pins

    set_same : (i j : ℕ) → Set i ≡ Set j → i ≡ j
    set_same i j e = cc

    set_there : (j r : ℕ) → pin_of g (Set j) ≡ Some r → (s : SetClass) × (slice_get g.sets j ≡ Some s) × (s.pin ≡ Some r)
    set_there j r h =
        let p = pinned_from g (Set j) r h in
        (p.1, ap (slice_get g.sets) (set_same j p.0 p.2) ∙ p.3, p.4)

    some_pin : (o : Option ℕ) → is_some o ≡ true → (r : ℕ) × (o ≡ Some r)
    some_pin None h = absurd (false≢true h)
    some_pin (Some r) h = (r, refl)

    pin_here : (j : ℕ) → Contains (pinned_sets g) j → (r : ℕ) × (pin_of g (Set j) ≡ Some r)
    pin_here j h = some_pin (pin_of g (Set j)) (filter-out (λ j. is_some (pin_of g (Set j))) (set_numbers g) j h).1

    no_memory : (s : SetClass) (r : ℕ) (j : ℕ) → slice_get g.sets j ≡ Some s → s.pin ≡ Some r → ¬ IsTrue (is_memory_name s.name)
    no_memory s r j at p m =
        none-some r (sym (at_each (λ s. IsTrue (is_memory_name s.name) → s.pin ≡ None) g.sets is_graph.memory_unpinned j s at m) ∙ p)

    place_by : (j : ℕ) (s : SetClass) (r : ℕ) → ¬ IsTrue (is_memory_name s.name) → s.pin ≡ Some r → IsReached g ls j s → IsWhereWanted g ls j s (Some r)
    place_by j s r n p (inl m) = absurd (n m)
    place_by j s r n p (inr h) = subst (IsWhereWanted g ls j s) p h

    place_of : (j : ℕ) → Contains (pinned_sets g) j → (r : ℕ) × (s : SetClass) × (slice_get g.sets j ≡ Some s) × (pin_of g (Set j) ≡ Some r) × IsWhereWanted g ls j s (Some r)
    place_of j h =
        let r = pin_here j h in
        let s = set_there j r.0 r.1 in
        (r.0, s.0, s.1, r.1, place_by j s.0 r.0 (no_memory s.0 r.0 j s.1 s.2) s.2 (fit.targets j s.0 s.1))

    few_by : (j : ℕ) (s : SetClass) (r : ℕ) → IsWhereWanted g ls j s (Some r) → count_by (goes_to j) ls ≤ 1
    few_by j s r (inl one) = omega arith
    few_by j s r (inr h) = let z = h.0 in omega arith

    pub pins-few : (j : ℕ) → Contains (pinned_sets g) j → count_by (goes_to j) S ≤ 1
    pins-few j h =
        few-among (goes_to j) S ls same.once (launched-out g table k ls S same is_graph order) (λ a b d lt len p q.
        let at = place_of j h in
        let most = few_by j at.1 at.0 at.4 in
        let two = two_at (goes_to j) ls a b d lt len p q in
        absurd (omega arith))

    some_goes : (j : ℕ) → count_by (goes_to j) ls ≡ 1 → list_any (goes_to j) ls ≡ true
    some_goes j one =
        elim (cases_Bool (list_any (goes_to j) ls)) [
          | inl t ↦ t
          | inr f ↦
              (let zero' = count-none (goes_to j) ls (λ i d lt t. false≢true (sym f ∙ some_in (goes_to j) ls (get_or ls i d) (Contains-get_or ls i d lt) t)) in
              absurd (omega arith))
        ]

    goes_or_own : (j : ℕ) (s : SetClass) (r : ℕ) → slice_get g.sets j ≡ Some s → pin_of g (Set j) ≡ Some r → has_own_input g j ≡ false → IsWhereWanted g ls j s (Some r) → list_any (goes_to j) S ≡ true
    goes_or_own j s r at w f (inl one) = pass g table k ls S same is_graph order (goes_to j) (some_goes j one)
    goes_or_own j s r at w f (inr h) =
        absurd (false≢true (sym f
        ∙ ap (λ o. option_map_or (λ s. takes_input g s.class j) o false) at
        ∙ ap (λ o. option_map_or (is_input_at g s.class) o false) w
        ∙ at-from g s.class r h.1))

    -- V is what the launches overwrite
    module _ (V : List Overwritten) (exact_over : (v : Overwritten) → Contains V v ↔ (Contains (all_overwritten g k) v × WasOverwritten ls v)) where
      over_one : (j t : ℕ) → Contains (overwriting_sets g) j → t ≤ k → (l : Launch) → Contains ls l → goes_to j l ≡ true → l.cycle < t → list_any (is_overwritten_at j t) V ≡ true
      over_one j t hj le l hl goes lt =
          let v : Overwritten = record { set = j; cycle = t } in
          some_in (is_overwritten_at j t) V v
          ((exact_over v).1 (over-in g table k j t hj le, any_from (λ l. IsTrue (goes_to j l) × (l.cycle < t)) ls l hl (goes, lt)))
          (and_from (j == j) (t == t) (eq-eqb j j refl) (eq-eqb t t refl))

      goes_on : (j t : ℕ) → Contains (overwriting_sets g) j → t < k → (v : Overwritten) → v.set ≡ j → v.cycle ≡ t → WasOverwritten ls v → list_any (is_overwritten_at j (t + 1)) V ≡ true
      goes_on j t hj lt v es et (n, l, ln, e, (goes, early)) =
          over_one j (t + 1) hj (omega arith) l (n, ln, e) (subst (λ j. goes_to j l ≡ true) es goes) (omega arith)

      pub pins_say : SaysPins g table k S V
      pins_say = record {
        went = All-from_members (λ j. All (λ l. goes_to j l ≡ true → list_any (is_overwritten_at j (l.cycle + 1)) V ≡ true) S) (overwriting_sets g) (λ j hj.
            All-from_members (λ l. goes_to j l ≡ true → list_any (is_overwritten_at j (l.cycle + 1)) V ≡ true) S (λ l h goes.
            let early : l.cycle < k = (place g table k ls S same is_graph order l h).1 in
            over_one j (l.cycle + 1) hj (omega arith) l (launched-out g table k ls S same is_graph order l h) goes (omega arith)));
        on = All-from_members (λ j. All (λ t. All (λ v. is_overwritten_at j t v ≡ true → list_any (is_overwritten_at j (t + 1)) V ≡ true) V) (range_with_len 0 k)) (overwriting_sets g) (λ j hj.
            All-from_members (λ t. All (λ v. is_overwritten_at j t v ≡ true → list_any (is_overwritten_at j (t + 1)) V ≡ true) V) (range_with_len 0 k) (λ t ht.
            All-from_members (λ v. is_overwritten_at j t v ≡ true → list_any (is_overwritten_at j (t + 1)) V ≡ true) V (λ v hv at.
            let p = and_parts (v.set == j) (v.cycle == t) at in
            let b = (range-out 0 k t ht).1 in
            goes_on j t hj (omega arith) v (eqb-true v.set j p.0) (eqb-true v.cycle t p.1) ((exact_over v).0 hv).1)));
        some = All-from_members (λ j. list_any (goes_to j) S ≡ true) (unmet_sets g) (λ j h.
            let f = filter-out (λ j. not (has_own_input g j)) (pinned_sets g) j h in
            let p = place_of j f.0 in
            goes_or_own j p.1 p.0 p.2 p.3 (not-true (has_own_input g j) f.1) p.4);
      }
