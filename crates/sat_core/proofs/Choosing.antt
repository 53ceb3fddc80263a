-- Where a literal becomes false, and the two of a clause that become false last.
use Rattle.std.proofs.Common.{◌≡◌, ◌≢◌, ℕ, ◌+◌, ◌-◌, ◌<◌, ◌≤◌, Bool, not, List, [], ◌∷◌, length, take, get_or, sym, ap, ◌∙◌, subst, arith, inl, inr, Option, Some, None}
use Rattle.std.specs.Prelude.{◌⊎◌, MatchOption, unwrap_or}
use Rattle.std.specs.List.{All, Contains}
use Rattle.std.proofs.lemmas.Bool.{cases_lt}
use Rattle.std.proofs.lemmas.List.{take_more}
use Rattle.std.proofs.lemmas.List.Elements.{All-nil, All-more, All-weaker, Contains-append_left, Contains-push}
use Rattle.cnf_core.specs.declared.literal.Lit.{Lit}
use Rattle.cnf_core.specs.Formula.{IsLitOf}
use Rattle.cnf_core.specs.Values.{IsFalse}
use Rattle.sat_core.specs.declared.trail.Step.{Step}
use Rattle.sat_core.specs.declared.trail.Value.{Value}
use Rattle.sat_core.specs.Steps.{assignment_of, trail_values, AreSteps}
use Rattle.sat_core.specs.Watches.{IsFalseFrom, IsNoLater, IsLatest, IsLaterOf, IsChosen}
use Rattle.sat_core.proofs.Holding.{none≢some, held-at, held-whole, free-before, step-of}

-- a false literal becomes false at the place of its variable's step
pub falls-false : (clauses : List (List Lit)) (n : ℕ) (steps : List Step) (values : List Value) (indices decisions : List ℕ) (l : Lit) → IsLitOf n l → AreSteps clauses n steps values indices decisions
    → IsFalse (assignment_of values) l → IsFalseFrom steps l (get_or indices (l.var - 1) 0)
falls-false clauses n steps values indices decisions l at s f k le =
    let e : Step = record { lit = l; reason = None } in
    let (j, few, is) = step-of steps l.var (not l.positive) (s.shows l.var at.above at.within ∙ f) in
    let step = get_or steps j e in
    let p : get_or indices (l.var - 1) 0 ≡ j = ap (λ (x : ℕ). get_or indices (x - 1) 0) (sym (is e).0) ∙ s.placed j e few in (
      (λ f'. elim (cases_lt j k) [
        | inl before ↦ omega arith
        | inr after ↦
            (let free = free-before steps k j step.lit.var after (s.trail j e few).free in
            absurd (none≢some (sym free ∙ ap (trail_values (take k steps)) (is e).0 ∙ f')))
      ]),
      (λ before.
          (let before' : j < k = omega arith in
          ap (trail_values (take k steps)) (sym (is e).0) ∙ held-at clauses steps k j e s.trail before' few ∙ ap (λ (b : Bool). Some b) (is e).1)),
    )

-- a literal that isn't false becomes false nowhere
pub falls-not : (clauses : List (List Lit)) (n : ℕ) (steps : List Step) (values : List Value) (indices decisions : List ℕ) (l : Lit) → IsLitOf n l → AreSteps clauses n steps values indices decisions
    → (IsFalse (assignment_of values) l → ⊥) → IsFalseFrom steps l (length steps)
falls-not clauses n steps values indices decisions l at s not' k le = (
  (λ f. absurd (not' (sym (s.shows l.var at.above at.within) ∙ held-whole steps k l.var (not l.positive) f))),
  (λ past. absurd (omega arith)),
)

-- the later of two
pub no-later : (steps : List Step) (l m : Lit) (p q : ℕ) → IsFalseFrom steps l p → IsFalseFrom steps m q → p ≤ q → IsNoLater steps l m
no-later steps l m p q at-l at-m le k few f = (at-l k few).1 (let below = (at-m k few).0 f in omega arith)

pub later-self : (steps : List Step) (l : Lit) → IsNoLater steps l l
later-self steps l k few f = f

later-trans : (steps : List Step) (l m x : Lit) → IsNoLater steps l m → IsNoLater steps m x → IsNoLater steps l x
later-trans steps l m x lm mx k few f = lm k few (mx k few f)

-- what the loop knows of a front of the clause: the best literal is one of it
pub latest-more : (steps : List Step) (c : List Lit) (i : ℕ) (d : Lit) (but best now : Option Lit) → i < length c
    → IsLatest steps (take i c) but best → IsLaterOf steps (get_or c i d) but best now → IsLatest steps (take (i + 1) c) but now
latest-more steps c i d but best now few h is =
    let l = get_or c i d in
    elim is [
      | inl (passed, same) ↦ subst (IsLatest steps (take (i + 1) c) but) (sym same) (keeps best h passed)
      | inr (inl (other, same, later)) ↦ subst (IsLatest steps (take (i + 1) c) but) (sym same) (takes best h later other)
      | inr (inr kept) ↦ stays best h kept
    ]
  where
    grown : (x : Lit) → Contains (take i c) x → Contains (take (i + 1) c) x
    grown x there = subst (λ (ys : List Lit). Contains ys x) (sym (take_more c i d few)) (Contains-append_left (take i c) (get_or c i d ∷ []) x there)

    keeps : (o : Option Lit) → IsLatest steps (take i c) but o → but ≡ Some (get_or c i d) → IsLatest steps (take (i + 1) c) but o
    keeps None all passed = All-more (λ m. but ≡ Some m) c i d few all passed
    keeps (Some x) (there, other, all) passed = (grown x there, other, All-more (λ m. (but ≡ Some m) ⊎ IsNoLater steps m x) c i d few all (inl passed))

    takes : (o : Option Lit) → IsLatest steps (take i c) but o → MatchOption o (Unit {0}) (λ m. IsNoLater steps m (get_or c i d)) → (but ≢ Some (get_or c i d)) → IsLatest steps (take (i + 1) c) but (Some (get_or c i d))
    takes None all later other = (
      subst (λ (ys : List Lit). Contains ys (get_or c i d)) (sym (take_more c i d few)) (Contains-push (take i c) (get_or c i d)),
      other,
      All-more (λ m. (but ≡ Some m) ⊎ IsNoLater steps m (get_or c i d)) c i d few
          (All-weaker (λ m. but ≡ Some m) (λ m. (but ≡ Some m) ⊎ IsNoLater steps m (get_or c i d)) (λ m e. inl e) (take i c) all) (inr (later-self steps (get_or c i d))),
    )
    takes (Some x) (there, other', all) later other = (
      subst (λ (ys : List Lit). Contains ys (get_or c i d)) (sym (take_more c i d few)) (Contains-push (take i c) (get_or c i d)),
      other,
      All-more (λ m. (but ≡ Some m) ⊎ IsNoLater steps m (get_or c i d)) c i d few
          (All-weaker (λ m. (but ≡ Some m) ⊎ IsNoLater steps m x) (λ m. (but ≡ Some m) ⊎ IsNoLater steps m (get_or c i d)) (λ m e. elim e [ inl same ↦ inl same | inr l' ↦ inr (later-trans steps m x (get_or c i d) l' later) ]) (take i c) all)
          (inr (later-self steps (get_or c i d))),
    )

    stays : (o : Option Lit) → IsLatest steps (take i c) but o → MatchOption o ⊥ (λ m. (now ≡ o) × IsNoLater steps (get_or c i d) m) → IsLatest steps (take (i + 1) c) but now
    stays None all kept = absurd kept
    stays (Some x) (there, other, all) (same, later) =
        subst (IsLatest steps (take (i + 1) c) but) (sym same) (grown x there, other, All-more (λ m. (but ≡ Some m) ⊎ IsNoLater steps m x) c i d few all (inr later))

pub latest-none : (steps : List Step) (c : List Lit) (but : Option Lit) → IsLatest steps (take 0 c) but None
latest-none steps c but = All-nil (λ m. but ≡ Some m)

some-lit : (l m : Lit) → Some l ≡ Some m → l ≡ m
some-lit l m e = cc

-- **the two literals**
pub chosen : (steps : List Step) (c : List Lit) (first a b : Lit) (o o' : Option Lit) → Contains c first → IsLatest steps c None o → a ≡ unwrap_or o first
    → IsLatest steps c (Some a) o' → b ≡ unwrap_or o' a → IsChosen steps c (record { a = a; b = b; saved = 0 })
chosen steps c first a b o o' some is-a at-a is-b at-b =
    let at = best o is-a at-a in
    record {
      has_a = at.0;
      has_b = (second o' is-b at-b).0;
      last = at.1;
      second = (second o' is-b at-b).1;
    }
  where
    none-lit : (m : Lit) → None ≡ Some m → ⊥
    none-lit m e = cc

    best : (x : Option Lit) → IsLatest steps c None x → a ≡ unwrap_or x first → Contains c a × All (λ m. IsNoLater steps m a) c
    best None all is = absurd (none-lit (get_or c some.0 first) (all some.0 first some.1))
    best (Some x) (there, other, all) is = (
      subst (Contains c) (sym is) there,
      subst (λ (y : Lit). All (λ m. IsNoLater steps m y) c) (sym is)
          (All-weaker (λ m. (None ≡ Some m) ⊎ IsNoLater steps m x) (λ m. IsNoLater steps m x) (λ m e. elim e [ inl none ↦ absurd (none-lit m none) | inr later ↦ later ]) c all),
    )

    second : (x : Option Lit) → IsLatest steps c (Some a) x → b ≡ unwrap_or x a → Contains c b × All (λ m. (m ≡ a) ⊎ ((a ≢ b) × IsNoLater steps m b)) c
    second None all is = (
      subst (Contains c) (sym is) (best o is-a at-a).0,
      All-weaker (λ m. Some a ≡ Some m) (λ m. (m ≡ a) ⊎ ((a ≢ b) × IsNoLater steps m b)) (λ m e. inl (sym (some-lit a m e))) c all,
    )
    second (Some x) (there, other, all) is = (
      subst (Contains c) (sym is) there,
      All-weaker (λ m. (Some a ≡ Some m) ⊎ IsNoLater steps m x) (λ m. (m ≡ a) ⊎ ((a ≢ b) × IsNoLater steps m b)) (λ m e. elim e [
        | inl same ↦ inl (sym (some-lit a m same))
        | inr later ↦ inr ((λ ab. other (ap (λ (y : Lit). Some y) (ab ∙ is))), subst (IsNoLater steps m) (sym is) later)
      ]) c all,
    )
