-- What destinations say: which set a launch goes to, which register it writes, and what it may not overwrite.
use Rattle.std.proofs.Common.{◌≡◌, ◌≢◌, ℕ, ◌<◌, List, length, refl, sym, ◌∙◌, ap, subst, inl, inr, ◌⊎◌, arith, Bool, true, false, Option, Some, None, get_or}
use Rattle.std.specs.Prelude.{All, Contains, IsTrue, IsSomeAnd, slice_get, slice_index, option_and_then, ◌==◌, not}
use Rattle.std.specs.Option.{option_map_or}
use Rattle.std.specs.List.{list_any}
use Rattle.std.proofs.lemmas.Bool.{false≢true, not-true, not_from_false}
use Rattle.std.proofs.lemmas.Bool.Decides.{eqb_tells}
use Rattle.std.proofs.lemmas.Option.{none-some, get_or_from_slice_get}
use Rattle.std.proofs.lemmas.List.Folds.{list_any_none, list_any-from_Any}
use Rattle.std.proofs.lemmas.List.Elements.{Contains-get_or}
use Rattle.graph_meaning.specs.Graphs.{is_input_register, HaveOwnPins, IsPin}
use Rattle.schedule_meaning.specs.Launches.{launches, gives_word, is_load, set_at, pin_of, writes_pin, overwrites, goes_to, is_set}
use Rattle.schedule_meaning.specs.Fits.{CanGo, CanGoTo, CanGoToPin, MayLoadOver}
use Rattle.graph_meaning.specs.declared.graphs.SetClass.{SetClass}
use Rattle.graph_meaning.specs.declared.graphs.LaunchGraph.{LaunchGraph}
use Rattle.schedule_meaning.specs.declared.schedules.Allocation.{Allocation}
use Rattle.schedule_meaning.specs.declared.schedules.Allocation.TheVariants.{Block}
use Rattle.schedule_meaning.specs.declared.schedules.To.{To}
use Rattle.schedule_meaning.specs.declared.schedules.To.TheVariants.{Pool, Set}
use Rattle.schedule_meaning.specs.declared.schedules.Launch.{Launch}
use Rattle.schedule_meaning.proofs.Rules.{at_pair, in_list}

-- ---- tests

pub any_at : {X : Type 0} (p : X → Bool) (xs : List X) (j : ℕ) (x : X) → slice_get xs j ≡ Some x → p x ≡ true → list_any p xs ≡ true
any_at p xs j x e t = list_any-from_Any p xs (j, x, in_list xs j x e, get_or_from_slice_get xs j x x e, t)

-- where the test of none holds, no place passes
pub none_at : {X : Type 0} (p : X → Bool) (xs : List X) → not (list_any p xs) ≡ true → (j : ℕ) (x : X) → slice_get xs j ≡ Some x → ¬ (p x ≡ true)
none_at p xs h j x e t = false≢true (sym (not-true (list_any p xs) h) ∙ any_at p xs j x e t)

pub false_from : (b : Bool) → ¬ (b ≡ true) → b ≡ false
false_from true n = absurd (n refl)
false_from false n = refl

pub none_from : {X : Type 0} (p : X → Bool) (xs : List X) → All (λ x. ¬ IsTrue (p x)) xs → not (list_any p xs) ≡ true
none_from p xs h = not_from_false (list_any p xs) (list_any_none p xs (λ k d lt. false_from (p (get_or xs k d)) (h k d lt)))

pub same_number : (a b : ℕ) → (a == b) ≡ true → a ≡ b
same_number a b h = elim (eqb_tells a b) [ inl t ↦ t.1 | inr t ↦ absurd (false≢true (sym t.0 ∙ h)) ]

pub number_same : (a b : ℕ) → a ≡ b → (a == b) ≡ true
number_same a b h = elim (eqb_tells a b) [ inl t ↦ t.0 | inr t ↦ absurd (t.1 h) ]

pub index_contained : (xs : List ℕ) (r : ℕ) → ¬ Contains xs r → (c : ℕ) → c < length xs → slice_index xs c ≢ r
index_contained xs r out c lt e = out (subst (λ x. Contains xs x) e (Contains-get_or xs c 0 lt))

-- ---- the set that a launch goes to

module _ (g : LaunchGraph) where
  -- a destination with a pin is a set that is there
  abbrev pub IsPinned : To → ℕ → Type 0
  IsPinned to r = (j : ℕ) × (s : SetClass) × (to ≡ Set j) × (slice_get g.sets j ≡ Some s) × (s.pin ≡ Some r)

  pinned_step : (j r : ℕ) (o : Option SetClass) → slice_get g.sets j ≡ o → option_and_then (λ s. s.pin) o ≡ Some r → IsPinned (Set j) r
  pinned_step j r None e h = absurd (none-some r h)
  pinned_step j r (Some s) e h = (j, s, refl, e, h)

  pub pinned_from : (to : To) (r : ℕ) → pin_of g to ≡ Some r → IsPinned to r
  pinned_from Pool r h = absurd (none-some r h)
  pinned_from (Set j) r h = pinned_step j r (slice_get g.sets j) refl h

  writes_step : (r : ℕ) (o : Option ℕ) → option_map_or (λ q. q == r) o false ≡ true → o ≡ Some r
  writes_step r None h = absurd (false≢true h)
  writes_step r (Some q) h = ap Some (same_number q r h)

  -- a launch writes the register where that is the pin of its set
  pub written_from : (r : ℕ) (l : Launch) → IsTrue (writes_pin g r l) → pin_of g l.to ≡ Some r
  written_from r l h = writes_step r (pin_of g l.to) h

  pub writes_from : (r : ℕ) (l : Launch) → pin_of g l.to ≡ Some r → IsTrue (writes_pin g r l)
  writes_from r l e = ap (λ o. option_map_or (λ q. q == r) o false) e ∙ number_same r r refl

  pub over_from : (r : ℕ) (l : Launch) → IsTrue (writes_pin g r l) → is_input_register g r ≡ true → overwrites g l ≡ true
  over_from r l h i = ap (λ o. option_map_or (is_input_register g) o false) (written_from r l h) ∙ i

  pub pin_from : (r : ℕ) (l : Launch) → IsTrue (writes_pin g r l) → IsPin g r
  pin_from r l h =
      let p = pinned_from l.to r (written_from r l h) in
      (p.0, p.1, in_list g.sets p.0 p.1 p.3, get_or_from_slice_get g.sets p.0 p.1 p.1 p.3, p.4)

  goes_step : (j : ℕ) (to : To) → is_set j to ≡ true → to ≡ Set j
  goes_step j Pool h = absurd (false≢true h)
  goes_step j (Set i) h = ap Set (same_number i j h)

  pub goes_from : (j : ℕ) (l : Launch) → goes_to j l ≡ true → l.to ≡ Set j
  goes_from j l h = goes_step j l.to h

  pub from_goes : (j : ℕ) (l : Launch) → l.to ≡ Set j → goes_to j l ≡ true
  from_goes j l e = ap (is_set j) e ∙ number_same j j refl

  -- ---- a launch that may go where it goes

  module _ (allocation : Allocation) (ls : List Launch) where
    -- to the pool, or to a pin
    abbrev pub GoesTo : Launch → To → Type 0
    GoesTo l to =
        ((to ≡ Pool) × (pin_of g to ≡ None)) ⊎ ((r : ℕ) × (s : SetClass) × (set_at g to ≡ Some s) × (pin_of g to ≡ Some
        r) × CanGoToPin g allocation ls l s r)

    by_pin : (l : Launch) (j : ℕ) (s : SetClass) → slice_get g.sets j ≡ Some s → (o : Option ℕ) → s.pin ≡ o
        → IsSomeAnd o (CanGoToPin g allocation ls l s) → GoesTo l (Set j)
    by_pin l j s e None t h = absurd h
    by_pin l j s e (Some r) t h = inr (r, s, e, ap (option_and_then (λ s. s.pin)) e ∙ t, h)

    by_set : (l : Launch) (j : ℕ) (o : Option SetClass) → slice_get g.sets j ≡ o
        → IsSomeAnd o (λ s. IsSomeAnd s.pin (CanGoToPin g allocation ls l s)) → GoesTo l (Set j)
    by_set l j None e h = absurd h
    by_set l j (Some s) e h = by_pin l j s e s.pin refl h

    go_by : (l : Launch) (to : To) → CanGoTo g allocation ls l to → GoesTo l to
    go_by l Pool h = inl (refl, refl)
    go_by l (Set j) h = by_set l j (slice_get g.sets j) refl h

    pub go : (l : Launch) → CanGo g allocation ls l → GoesTo l l.to
    go l h = go_by l l.to h

    -- what gives no word overwrites nothing
    pub idle_not_over : (l : Launch) → CanGo g allocation ls l → launches g gives_word l ≡ false
        → overwrites g l ≡ false
    idle_not_over l h n =
        elim (go l h) [
          | inl p ↦ ap (λ o. option_map_or (is_input_register g) o false) p.1
          | inr (r, s, at, e, c) ↦ absurd (false≢true (sym n ∙ c.gives.0))
        ]

    -- a load that overwrites an input may do so
    pub load_over : (l : Launch) → CanGo g allocation ls l → IsTrue (launches g is_load l) → overwrites g l ≡ true
        → MayLoadOver g allocation ls l
    load_over l h t over =
        elim (go l h) [
          | inl p ↦ absurd (false≢true (sym (ap (λ o. option_map_or (is_input_register g) o false) p.1) ∙ over))
          | inr (r, s, at, e, c) ↦ c.loads_over t (sym (ap (λ o. option_map_or (is_input_register g) o false) e) ∙ over)
        ]

  -- in blocks no load overwrites an input
  pub load_not_over : (ls : List Launch) (l : Launch) → CanGo g Block ls l → IsTrue (launches g is_load l)
      → overwrites g l ≡ false
  load_not_over ls l h t = false_from (overwrites g l) (load_over Block ls l h t)

one_of_three : (a b : ℕ) → (a < b) ⊎ (b < a) ⊎ (a ≡ b)
one_of_three a b = grind arith

-- sets with one pin are one set
pub same_pin : (g : LaunchGraph) → HaveOwnPins g.sets → (i j r : ℕ) (s t : SetClass) → slice_get g.sets i ≡ Some s → slice_get g.sets j ≡ Some t → s.pin ≡ Some r → t.pin ≡ Some r → i ≡ j
same_pin g own i j r s t es et ps pt =
    elim (one_of_three i j) [
      | inl h ↦ absurd (at_pair (λ s t. (r : ℕ) → s.pin ≡ Some r → t.pin ≢ Some r) g.sets own i j s t h es et r ps pt)
      | inr h ↦ elim h [
        | inl h ↦ absurd (at_pair (λ s t. (r : ℕ) → s.pin ≡ Some r → t.pin ≢ Some r) g.sets own j i t s h et es r pt ps)
        | inr h ↦ h
      ]
    ]
