-- When a clause is quiet: more values, another pair, one step visited more.
use Rattle.std.proofs.Common.{◌≡◌, ℕ, ◌+◌, ◌≤◌, Bool, true, false, not, List, [], ◌∷◌, ◌++◌, take, get_or, refl, sym, ap, ◌∙◌, subst, inl, inr, Option, Some, None}
use Rattle.std.specs.Prelude.{◌⊎◌}
use Rattle.std.specs.List.{Contains}
use Rattle.std.proofs.lemmas.Bool.{cases_eq}
use Rattle.std.proofs.lemmas.List.{take_more}
use Rattle.cnf_core.specs.declared.literal.Lit.{Lit}
use Rattle.cnf_core.specs.Formula.{negated}
use Rattle.cnf_core.specs.Values.{Partial, IsUnassigned, IsHeld, IsFalse, IsOpenClause}
use Rattle.sat_core.specs.declared.trail.Step.{Step}
use Rattle.sat_core.specs.declared.watches.Pair.{Pair}
use Rattle.sat_core.specs.Steps.{trail_values, IsTrail}
use Rattle.sat_core.specs.Watches.{NeedsNoVisit, IsFalsifiedAt}
use Rattle.sat_core.proofs.Holding.{none≢some, held-push-other, held-step, held-whole, held-later, held-append}

-- each value stays
abbrev pub Grows : Partial → Partial → Type 0
Grows s t = (x : ℕ) (b : Bool) → s x ≡ Some b → t x ≡ Some b

pub grows-whole : (steps : List Step) (k : ℕ) → Grows (trail_values (take k steps)) (trail_values steps)
grows-whole steps k x b e = held-whole steps k x b e

pub grows-front : (steps : List Step) (j k : ℕ) → j ≤ k → Grows (trail_values (take j steps)) (trail_values (take k steps))
grows-front steps j k le x b e = held-later steps j k x b le e

pub grows-push : (steps : List Step) (step : Step) → Grows (trail_values steps) (trail_values (steps ++ step ∷ []))
grows-push steps step x b e = held-append steps (step ∷ []) x b e

opposite : (b : Bool) → Some b ≡ Some (not b) → ⊥
opposite true e = cc
opposite false e = cc

pub trail_values≢false : (s : Partial) (l : Lit) → IsHeld s l → IsFalse s l → ⊥
trail_values≢false s l h f = opposite l.positive (sym h ∙ f)

pub lit-cases : (s : Partial) (l : Lit) → IsUnassigned s l ⊎ (IsHeld s l ⊎ IsFalse s l)
lit-cases s l = cases (s l.var) l.positive
  where
    cases : (o : Option Bool) (p : Bool) → (o ≡ None) ⊎ ((o ≡ Some p) ⊎ (o ≡ Some (not p)))
    cases None p = inl refl
    cases (Some true) true = inr (inl refl)
    cases (Some true) false = inr (inr refl)
    cases (Some false) true = inr (inr refl)
    cases (Some false) false = inr (inl refl)

pub false-cases : (s : Partial) (l : Lit) → IsFalse s l ⊎ (IsFalse s l → ⊥)
false-cases s l =
    elim (lit-cases s l) [
      | inl free ↦ inr (λ f. none≢some (sym free ∙ f))
      | inr value ↦ elim value [ inl h ↦ inr (λ f. trail_values≢false s l h f) | inr f ↦ inl f ]
    ]

pub lit-same : (l m : Lit) → l.var ≡ m.var → l.positive ≡ m.positive → l ≡ m
lit-same l m e f =
    ap (λ (v : ℕ). record { var = v; positive = l.positive }) e ∙ ap (λ (b : Bool). record { var = m.var; positive = b }) f

bool-cases : (a b : Bool) → (a ≡ b) ⊎ (a ≡ b → ⊥)
bool-cases true true = inl refl
bool-cases true false = inr (λ e. cc)
bool-cases false true = inr (λ e. cc)
bool-cases false false = inl refl

pub lit-eq-cases : (l m : Lit) → (l ≡ m) ⊎ (l ≡ m → ⊥)
lit-eq-cases l m =
    elim (cases_eq l.var m.var) [
      | inr other ↦ inr (λ e. other (ap (λ (x : Lit). x.var) e))
      | inl same ↦ elim (bool-cases l.positive m.positive) [
        | inl same' ↦ inl (lit-same l m same same')
        | inr other ↦ inr (λ e. other (ap (λ (x : Lit). x.positive) e))
      ]
    ]

pub quiet-weaker : (s s' t t' : Partial) (c : List Lit) (p : Pair) → Grows s' s → Grows t t' → NeedsNoVisit s t c p → NeedsNoVisit s' t' c p
quiet-weaker s s' t t' c p earlier later q =
    elim q [
      | inl one ↦ (let (l, there, h) = one in inl (l, there, later l.var l.positive h))
      | inr two ↦
          (let (differ, a, b) = two in
          inr (differ, (λ f. a (earlier p.a.var (not p.a.positive) f)), (λ f. b (earlier p.b.var (not p.b.positive) f))))
    ]

-- **a quiet clause is open**
pub quiet-open : (s : Partial) (c : List Lit) (p : Pair) → Contains c p.a → Contains c p.b → NeedsNoVisit s s c p → IsOpenClause s c
quiet-open s c p has_a has_b q =
    elim q [
      | inl one ↦ inl one
      | inr two ↦
          (let (differ, a, b) = two in
          elim (lit-cases s p.a) [
            | inl free-a ↦ elim (lit-cases s p.b) [
              | inl free-b ↦ inr (p.a, p.b, has_a, has_b, differ, free-a, free-b)
              | inr value ↦ elim value [ inl h ↦ inl (p.b, has_b, h) | inr f ↦ absurd (b f) ]
            ]
            | inr value ↦ elim value [ inl h ↦ inl (p.a, has_a, h) | inr f ↦ absurd (a f) ]
          ])
    ]

negated-value : (p q : Bool) → Some p ≡ Some (not q) → q ≡ not p
negated-value true true e = cc
negated-value true false e = refl
negated-value false true e = refl
negated-value false false e = cc

-- a literal that the step at the head makes false is the opposite of that step's
pub false-next : (clauses : List (List Lit)) (steps : List Step) (qhead : ℕ) (l m : Lit) → IsTrail clauses steps → IsFalsifiedAt steps qhead m
    → (IsFalse (trail_values (take qhead steps)) l → ⊥) → IsFalse (trail_values (take (qhead + 1) steps)) l → l ≡ m
false-next clauses steps qhead l m trail h before now =
    let d : Step = record { lit = m; reason = None } in
    let step = get_or steps qhead d in
    elim (cases_eq step.lit.var l.var) [
      | inr other ↦
          (let e = ap (λ (xs : List Step). trail_values xs l.var) (take_more steps qhead d h.within) ∙ held-push-other (take qhead steps) step l.var other in
          absurd (before (sym e ∙ now)))
      | inl same ↦
          (let value = held-step clauses steps qhead d trail h.within in
          let e : Some step.lit.positive ≡ Some (not l.positive) = sym value ∙ ap (trail_values (take (qhead + 1) steps)) same ∙ now in
          lit-same l (negated step.lit) (sym same) (negated-value step.lit.positive l.positive e) ∙ h.is d)
    ]

-- and it is false from then on
pub false-at : (clauses : List (List Lit)) (steps : List Step) (qhead : ℕ) (m : Lit) → IsTrail clauses steps → IsFalsifiedAt steps qhead m → IsFalse (trail_values steps) m
false-at clauses steps qhead m trail h =
    let d : Step = record { lit = m; reason = None } in
    let step = get_or steps qhead d in
    let value = held-whole steps (qhead + 1) step.lit.var step.lit.positive (held-step clauses steps qhead d trail h.within) in
    subst (IsFalse (trail_values steps)) (h.is d) (value ∙ ap (λ (b : Bool). Some b) (twice step.lit.positive))
  where
    twice : (b : Bool) → b ≡ not (not b)
    twice true = refl
    twice false = refl
