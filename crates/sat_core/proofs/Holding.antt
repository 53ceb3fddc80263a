-- The values that steps gave: those of one step more, of a front, and the step that gave one.
use Rattle.std.proofs.Common.{◌≡◌, ℕ, ◌+◌, ◌<◌, ◌≤◌, Bool, cond, eqb, List, [], ◌∷◌, ◌++◌, length, take, drop, get_or, refl, sym, ap, ◌∙◌, subst, arith, inl, inr, suc, Option, Some, None}
use Rattle.std.proofs.lemmas.Bool.{cases_Bool, cond-true, cond-false, eq-eqb, ne_eqb, eqb-true}
use Rattle.std.proofs.lemmas.List.{take_more, take-append-drop, take-take, map_push, map-append}
use Rattle.cnf_core.specs.declared.literal.Lit.{Lit}
use Rattle.cnf_core.specs.Values.{partial_of, IsUnassigned}
use Rattle.sat_core.specs.declared.trail.Step.{Step}
use Rattle.sat_core.specs.Steps.{lits_of, trail_values, IsTrail}

pub none≢some : {b : Bool} → None ≡ Some b → ⊥
none≢some e = cc

pub some-same : (a b : Bool) → Some a ≡ Some b → a ≡ b
some-same a b e = cc

-- values after one literal more at the end
pub partial_of-push-other : (s : List Lit) (l : Lit) (x : ℕ) → (l.var ≡ x → ⊥) → partial_of (s ++ l ∷ []) x ≡ partial_of s x
partial_of-push-other [] l x other = cond-false (eqb l.var x) (Some l.positive) None (ne_eqb l.var x other)
partial_of-push-other (m ∷ ms) l x other = ap (λ (o : Option Bool). cond (eqb m.var x) (Some m.positive) o) (partial_of-push-other ms l x other)

pub partial_of-push-same : (s : List Lit) (l : Lit) → partial_of s l.var ≡ None → partial_of (s ++ l ∷ []) l.var ≡ Some l.positive
partial_of-push-same [] l free = cond-true (eqb l.var l.var) (Some l.positive) None (eq-eqb l.var l.var refl)
partial_of-push-same (m ∷ ms) l free =
    elim (cases_Bool (eqb m.var l.var)) [
      | inl same ↦ absurd (none≢some (sym free ∙ cond-true (eqb m.var l.var) (Some m.positive) (partial_of ms l.var) same))
      | inr other ↦ cond-false (eqb m.var l.var) (Some m.positive) (partial_of (ms ++ l ∷ []) l.var) other ∙ partial_of-push-same ms l (sym (cond-false (eqb m.var l.var) (Some m.positive) (partial_of ms l.var) other) ∙ free)
    ]

-- and after one more at the front
pub partial_of-cons-same : (l : Lit) (s : List Lit) (x : ℕ) → l.var ≡ x → partial_of (l ∷ s) x ≡ Some l.positive
partial_of-cons-same l s x same = cond-true (eqb l.var x) (Some l.positive) (partial_of s x) (eq-eqb l.var x same)

pub partial_of-cons-other : (l : Lit) (s : List Lit) (x : ℕ) → (l.var ≡ x → ⊥) → partial_of (l ∷ s) x ≡ partial_of s x
partial_of-cons-other l s x other = cond-false (eqb l.var x) (Some l.positive) (partial_of s x) (ne_eqb l.var x other)

pub held-push-other : (steps : List Step) (step : Step) (x : ℕ) → (step.lit.var ≡ x → ⊥) → trail_values (steps ++ step ∷ []) x ≡ trail_values steps x
held-push-other steps step x other = ap (λ (ls : List Lit). partial_of ls x) (map_push (λ (s : Step). s.lit) steps step) ∙ partial_of-push-other (lits_of steps) step.lit x other

pub held-push-same : (steps : List Step) (step : Step) → IsUnassigned (trail_values steps) step.lit → trail_values (steps ++ step ∷ []) step.lit.var ≡ Some step.lit.positive
held-push-same steps step free = ap (λ (ls : List Lit). partial_of ls step.lit.var) (map_push (λ (s : Step). s.lit) steps step) ∙ partial_of-push-same (lits_of steps) step.lit free

-- a value stays when literals come after
partial_of-append : (s t : List Lit) (x : ℕ) (b : Bool) → partial_of s x ≡ Some b → partial_of (s ++ t) x ≡ Some b
partial_of-append [] t x b e = absurd (none≢some e)
partial_of-append (m ∷ ms) t x b e =
    elim (cases_Bool (eqb m.var x)) [
      | inl same ↦ cond-true (eqb m.var x) (Some m.positive) (partial_of (ms ++ t) x) same ∙ sym (cond-true (eqb m.var x) (Some m.positive) (partial_of ms x) same) ∙ e
      | inr other ↦ cond-false (eqb m.var x) (Some m.positive) (partial_of (ms ++ t) x) other
          ∙ partial_of-append ms t x b (sym (cond-false (eqb m.var x) (Some m.positive) (partial_of ms x) other) ∙ e)
    ]

pub held-append : (before ss : List Step) (x : ℕ) (b : Bool) → trail_values before x ≡ Some b → trail_values (before ++ ss) x ≡ Some b
held-append before ss x b e = ap (λ (ls : List Lit). partial_of ls x) (map-append (λ (s : Step). s.lit) before ss) ∙ partial_of-append (lits_of before) (lits_of ss) x b e

pub held-whole : (steps : List Step) (i x : ℕ) (b : Bool) → trail_values (take i steps) x ≡ Some b → trail_values steps x ≡ Some b
held-whole steps i x b e = subst (λ (xs : List Step). trail_values xs x ≡ Some b) (take-append-drop i steps) (held-append (take i steps) (drop i steps) x b e)

pub held-later : (steps : List Step) (i j x : ℕ) (b : Bool) → i ≤ j → trail_values (take i steps) x ≡ Some b → trail_values (take j steps) x ≡ Some b
held-later steps i j x b le e =
    held-whole (take j steps) i x b (subst (λ (xs : List Step). trail_values xs x ≡ Some b) (sym (take-take i j steps le)) e)

-- a variable that is free later was free before
free-by : (steps : List Step) (i j x : ℕ) (o : Option Bool) → i ≤ j → trail_values (take j steps) x ≡ None → trail_values (take i steps) x ≡ o → o ≡ None
free-by steps i j x None le free is = refl
free-by steps i j x (Some b) le free is = absurd (none≢some (sym free ∙ held-later steps i j x b le is))

pub free-before : (steps : List Step) (i j x : ℕ) → i ≤ j → trail_values (take j steps) x ≡ None → trail_values (take i steps) x ≡ None
free-before steps i j x le free = free-by steps i j x (trail_values (take i steps) x) le free refl

-- a step's own value, once it was made
pub held-step : (clauses : List (List Lit)) (steps : List Step) (k : ℕ) (d : Step) → IsTrail clauses steps → k < length steps → trail_values (take (k + 1) steps) (get_or steps k d).lit.var ≡ Some (get_or steps k d).lit.positive
held-step clauses steps k d trail few =
    subst (λ (xs : List Step). trail_values xs (get_or steps k d).lit.var ≡ Some (get_or steps k d).lit.positive) (sym (take_more steps k d few))
    (held-push-same (take k steps) (get_or steps k d) (trail k d few).free)

pub held-at : (clauses : List (List Lit)) (steps : List Step) (i k : ℕ) (d : Step) → IsTrail clauses steps → k < i → k < length steps → trail_values (take i steps) (get_or steps k d).lit.var ≡ Some (get_or steps k d).lit.positive
held-at clauses steps i k d trail below few = held-later steps (k + 1) i (get_or steps k d).lit.var (get_or steps k d).lit.positive (omega arith) (held-step clauses steps k d trail few)

-- the step that gave a value
pub step-of : (steps : List Step) (x : ℕ) (b : Bool) → trail_values steps x ≡ Some b → (k : ℕ) × (k < length steps) × ((d : Step) → ((get_or steps k d).lit.var ≡ x) × ((get_or steps k d).lit.positive ≡ b))
step-of [] x b e = absurd (none≢some e)
step-of (s ∷ ss) x b e =
    elim (cases_Bool (eqb s.lit.var x)) [
      | inl same ↦ (0, (omega arith), (λ d. (eqb-true s.lit.var x same, some-same s.lit.positive b (sym (cond-true (eqb s.lit.var x) (Some s.lit.positive) (trail_values ss x) same) ∙ e))))
      | inr other ↦
          (let (k, few, at) = step-of ss x b (sym (cond-false (eqb s.lit.var x) (Some s.lit.positive) (trail_values ss x) other) ∙ e) in
          (suc k, (omega arith), at))
    ]
