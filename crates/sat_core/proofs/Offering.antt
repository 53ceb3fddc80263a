-- What a decider offers, where values come and go.
use Rattle.std.proofs.Common.{◌≡◌, ◌≢◌, ℕ, ◌-◌, ◌<◌, ◌≤◌, ◌⊎◌, Bool, false, List, [], ◌∷◌, ◌++◌, length, map, set, take, get_or, refl, sym, ap, ◌∙◌, subst, arith, inl, inr, zero, suc, Option, Some, None}
use Rattle.std.proofs.lemmas.Bool.{cases_eq}
use Rattle.std.proofs.lemmas.List.{get_or-set_same, get_or-set_other, length-set}
use Rattle.cnf_core.specs.declared.literal.Lit.{Lit}
use Rattle.sat_core.specs.declared.decision.Decider.{Decider}
use Rattle.sat_core.specs.declared.trail.Step.{Step}
use Rattle.sat_core.specs.declared.trail.Value.{Value}
use Rattle.sat_core.specs.declared.trail.Trail.{Trail}
use Rattle.sat_core.specs.Steps.{assignment_of, trail_values, AreSteps, IsTrailState, Propagates, var_count}
use Rattle.sat_core.specs.Picks.{own_player, AreFreed, Offers}
use Rattle.sat_core.specs.Tournament.{nobody, no_player, player_at}
use Rattle.sat_core.proofs.Holding.{none≢some, partial_of-cons-same, partial_of-cons-other, held-push-same, held-append}

some-step : (steps : List Step) (x : ℕ) (b : Bool) → trail_values steps x ≡ Some b → (k : ℕ) × (k < length steps) × ((d : Step) → (get_or steps k d).lit.var ≡ x)
some-step [] x b e = absurd (none≢some e)
some-step (s ∷ ss) x b e = elim (cases_eq s.lit.var x) [
  | inl same ↦ (0, omega arith, λ d. same)
  | inr other ↦
      (let (k, few, is) = some-step ss x b (sym (partial_of-cons-other s.lit (map (λ (t : Step). t.lit) ss) x other) ∙ e) in
      (suc k, omega arith, is))
]

-- a value that is lost was given behind the front that stays
freed-step : (steps : List Step) (count x : ℕ) (b : Bool) → trail_values steps x ≡ Some b → trail_values (take count steps) x ≡ None
    → (k : ℕ) × (count ≤ k) × (k < length steps) × ((d : Step) → (get_or steps k d).lit.var ≡ x)
freed-step steps zero x b e none = (let (k, few, is) = some-step steps x b e in (k, omega arith, few, is))
freed-step [] (suc n) x b e none = absurd (none≢some e)
freed-step (s ∷ ss) (suc n) x b e none = elim (cases_eq s.lit.var x) [
  | inl same ↦ absurd (none≢some (sym none ∙ partial_of-cons-same s.lit (map (λ (t : Step). t.lit) (take n ss)) x same))
  | inr other ↦
      (let (k, from, few, is) = freed-step ss n x b (sym (partial_of-cons-other s.lit (map (λ (t : Step). t.lit) ss) x other) ∙ e)
      (sym (partial_of-cons-other s.lit (map (λ (t : Step). t.lit) (take n ss)) x other) ∙ none) in
      (suc k, omega arith, omega arith, is))
]

-- **steps taken back free their variables alone**
pub freed : (clauses : List (List Lit)) (n count : ℕ) (steps steps' : List Step) (values values' : List Value) (indices indices' decisions decisions' : List ℕ)
    → AreSteps clauses n steps values indices decisions → AreSteps clauses n steps' values' indices' decisions' → steps' ≡ take count steps → AreFreed steps count values values'
freed clauses n count steps steps' values values' indices indices' decisions decisions' h i is =
    record {
      size = i.size ∙ sym h.size;
      free = λ x low high free.
          (let size = h.size in
          let now : trail_values (take count steps) x ≡ None = subst (λ (ss : List Step). trail_values ss x ≡ None) is (i.shows x low (omega arith) ∙ free) in
          elim (option-cases (assignment_of values x)) [
            | inl none ↦ inl none
            | inr (b, some) ↦ inr (freed-step steps count x b (h.shows x low (omega arith) ∙ some) now)
          ]);
    }
  where
    option-cases : (o : Option Bool) → (o ≡ None) ⊎ ((b : Bool) × (o ≡ Some b))
    option-cases None = inl refl
    option-cases (Some b) = inr (b, refl)

-- **freed variables are offered again**
pub offers-freed : (steps : List Step) (from : ℕ) (old new : List Value) (d : Decider) → Offers old d → AreFreed steps from old new
    → ((k : ℕ) (s : Step) → from ≤ k → k < length steps → player_at d.tournament ((get_or steps k s).lit.var - 1) ≡ own_player d.scores.items (get_or steps k s).lit.var)
    → Offers new d
offers-freed steps from old new d h f those =
    let size = f.size in
    let few = h.few in
    let s = h.scores in
    let p = h.phases in
    let t = h.players in
    record {
      few = omega arith;
      scores = omega arith;
      phases = omega arith;
      players = omega arith;
      own = λ x low high. h.own x low (omega arith);
      free = λ x low high free. elim (f.free x low (omega arith) free) [
        | inl was ↦ h.free x low (omega arith) was
        | inr (k, start, few', is) ↦
            (let e : Step = record { lit = record { var = 0; positive = false }; reason = None } in
            subst (λ (y : ℕ). player_at d.tournament (y - 1) ≡ own_player d.scores.items y) (is e) (those k e start few'))
      ];
      fixed = h.fixed;
      tried = h.tried;
    }

-- what is free after more steps was free before
grown-free : (steps more : List Step) (x : ℕ) → trail_values (steps ++ more) x ≡ None → trail_values steps x ≡ None
grown-free steps more x none = still (trail_values steps x) refl
  where
    still : (o : Option Bool) → trail_values steps x ≡ o → trail_values steps x ≡ None
    still None e = e
    still (Some b) e = absurd (none≢some (sym none ∙ held-append steps more x b e))

-- **more values: what is free is still offered**
pub offers-grown : (clauses : List (List Lit)) (n : ℕ) (steps more : List Step) (values values' : List Value) (indices indices' decisions decisions' : List ℕ) (d : Decider)
    → AreSteps clauses n steps values indices decisions → AreSteps clauses n (steps ++ more) values' indices' decisions' → Offers values d → Offers values' d
offers-grown clauses n steps more values values' indices indices' decisions decisions' d h i o =
    let a = h.size in
    let b = i.size in
    let few = o.few in
    let s = o.scores in
    let p = o.phases in
    let t = o.players in
    record {
      few = omega arith;
      scores = omega arith;
      phases = omega arith;
      players = omega arith;
      own = λ x low high. o.own x low (omega arith);
      free = λ x low high free.
          o.free x low (omega arith) (sym (h.shows x low (omega arith)) ∙ grown-free steps more x (i.shows x low (omega arith) ∙ free));
      fixed = o.fixed;
      tried = o.tried;
    }

-- **a decided variable needs no offer**
pub offers-decided : (clauses : List (List Lit)) (n : ℕ) (steps steps' : List Step) (step : Step) (values values' : List Value) (indices indices' decisions decisions' : List ℕ) (d d' : Decider)
    → AreSteps clauses n steps values indices decisions → AreSteps clauses n steps' values' indices' decisions' → steps' ≡ steps ++ step ∷ []
    → d'.pick ≡ d.pick → d'.scores ≡ d.scores → d'.phases ≡ d.phases → d'.tournament ≡ set d.tournament (step.lit.var - 1) nobody → 1 ≤ step.lit.var
    → Offers values d → Offers values' d'
offers-decided clauses n steps steps' step values values' indices indices' decisions decisions' d d' h i is pick scores phases tournament above o =
    let x = step.lit.var in
    let a = h.size in
    let b = i.size in
    let same = i.shows in
    let away : (y : ℕ) → 1 ≤ y → y ≢ x → player_at d'.tournament (y - 1) ≡ player_at d.tournament (y - 1) =
    λ y low other. (let ne : y - 1 ≢ x - 1 = omega arith in ap (λ ps. player_at ps (y - 1)) tournament ∙ get_or-set_other d.tournament (x - 1) (y - 1) nobody no_player ne) in
    let own : (y : ℕ) → own_player d'.scores.items y ≡ own_player d.scores.items y = λ y. ap (λ v. own_player v.items y) scores in
    let few = o.few in
    let s = o.scores in
    let f = o.phases in
    let t = o.players in
    let size : length values' ≡ length values = omega arith in
    record {
      few = omega arith;
      scores = ap (λ v. length v.items) scores ∙ s ∙ sym size;
      phases = ap (λ v. length v.items) phases ∙ f ∙ sym size;
      players = ap length tournament ∙ length-set d.tournament (x - 1) nobody ∙ t ∙ sym size;
      own = λ y low high. elim (cases_eq y x) [
        | inl here ↦ inl (ap (λ ps. player_at ps (y - 1)) tournament ∙ ap (λ z. player_at (set d.tournament (x - 1) nobody) (z - 1)) here
            ∙ get_or-set_same d.tournament (x - 1) nobody no_player (omega arith))
        | inr other ↦ elim (o.own y low (omega arith)) [
          | inl none ↦ inl (away y low other ∙ none)
          | inr plays ↦ inr (away y low other ∙ plays ∙ sym (own y))
        ]
      ];
      free = λ y low high free.
          (let none : trail_values (steps ++ step ∷ []) y ≡ None = subst (λ (ss : List Step). trail_values ss y ≡ None) is (i.shows y low (omega arith) ∙ free) in
          let before : assignment_of values y ≡ None = sym (h.shows y low (omega arith)) ∙ grown-free steps (step ∷ []) y none in
          let other : y ≢ x = λ here.
          none≢some (sym none ∙ ap (trail_values (steps ++ step ∷ [])) here
          ∙ held-push-same steps step (h.shows x above (omega arith) ∙ ap (assignment_of values) (sym here) ∙ before)) in
          away y low other ∙ o.free y low (omega arith) before ∙ sym (own y));
      fixed = record {
        first = λ first k few'. ap (λ v. get_or v.items k 0) scores ∙ o.fixed.first (sym pick ∙ first) k (omega (arith, ap (λ v. length v.items) scores));
        last = λ last k few'. ap (λ v. get_or v.items k 0) scores ∙ o.fixed.last (sym pick ∙ last) k (omega (arith, ap (λ v. length v.items) scores));
      };
      tried = λ other k. ap (λ v. get_or v.items k false) phases ∙ o.tried (λ active. other (pick ∙ active)) k;
    }

-- **after propagation, what is free is still offered**
pub offers-propagated : (clauses : List (List Lit)) (n m : ℕ) (old new : Trail) (d : Decider) → IsTrailState clauses n old → m ≡ n → IsTrailState clauses m new → Propagates old.steps.items new.steps.items → Offers old.values.items d → Offers new.values.items d
offers-propagated clauses n m old new d h same i (more, is, forced) o =
    offers-grown clauses n old.steps.items more old.values.items new.values.items old.indices.items new.indices.items old.decisions.items new.decisions.items d h
    (subst (λ (ss : List Step). AreSteps clauses n ss new.values.items new.indices.items new.decisions.items) is
    (subst (λ (k : ℕ). IsTrailState clauses k new) same i)) o

-- a state over as many variables as it has
pub state-own : (clauses : List (List Lit)) (n : ℕ) (t : Trail) → IsTrailState clauses n t → IsTrailState clauses (var_count t) t
state-own clauses n t h = subst (λ (k : ℕ). IsTrailState clauses k t) (sym h.size) h
