-- A look at one step: what it leaves, and where the hints lead then.
use Rattle.std.proofs.Common.{◌≡◌, ◌≢◌, ℕ, ◌+◌, ◌<◌, ◌≤◌, ◌⊎◌, Bool, true, false, List, [], ◌∷◌, ◌++◌, length, take, get_or, refl, inl, inr, sym, ap, ◌∙◌, subst, arith, Some, None}
use Rattle.std.specs.Prelude.{◌↔◌, IsTrue, OnOk, Result, Ok, Err, reverse}
use Rattle.std.specs.List.{All}
use Rattle.std.proofs.lemmas.Bool.{cases_Bool, false≢true}
use Rattle.std.proofs.lemmas.List.{reverse-append, get_or_default}
use Rattle.cnf_core.specs.declared.literal.Lit.{Lit}
use Rattle.cnf_core.specs.Formula.{AreOver, negated}
use Rattle.cnf_core.specs.Refutation.{clause_at}
use Rattle.sat_core.specs.declared.trail.Step.{Step}
use Rattle.sat_core.specs.declared.conflict.Analysis.{Analysis}
use Rattle.sat_core.specs.declared.trail.Value.{Value}
use Rattle.sat_core.specs.Steps.{trail_values, IsReason, AreSteps}
use Rattle.sat_core.specs.Walks.{trail_index, is_marked, IsStepOf, IsLastDecision, IsDecisionOrEnd, IsKeptAt, IsSpareStep, IsImpliedStep, AddsNoLiteral, IsMinimalAt, KeepsStep, Resolves, IsWalked, LeadsToConflict}
use Rattle.sat_core.proofs.Leading.{leads-skip, leads-keep, leads-resolve}
use Rattle.sat_core.proofs.Walking.{walked-skip, walked-keep, walked-resolve, reason-steps}

pub on-ok : {T E : Type 0} (r : Result T E) (P Q : Type 0) → (P → Q) → OnOk r P → OnOk r Q
on-ok (Ok v) P Q f h = f h
on-ok (Err e) P Q f h = h

-- what a look leaves
pub record Settled (clauses : List (List Lit)) (n : ℕ) (steps : List Step) (i : ℕ) (a b : Analysis) : Type 0 where
  pub walked : IsWalked clauses n steps i b
  pub leads : (conflict : List Lit) → LeadsToConflict clauses steps (i + 1) a.seen.items a.lits.items (reverse a.hints.items) conflict → LeadsToConflict clauses steps i b.seen.items b.lits.items (reverse b.hints.items) conflict

-- a mark that was read
pub mark-read : (seen : List Bool) (i : ℕ) (b c : Bool) → i < length seen → b ≡ get_or seen i b → b ≡ c → is_marked seen i ≡ c
mark-read seen i b c few is same = get_or_default seen i false b few ∙ sym is ∙ same

pub settled-skip : (clauses : List (List Lit)) (n : ℕ) (steps : List Step) (i : ℕ) (a : Analysis) → IsWalked clauses n steps (i + 1) a → is_marked a.seen.items i ≡ false → Settled clauses n steps i a a
settled-skip clauses n steps i a h unmarked =
    record {
      walked = walked-skip clauses n steps i a h unmarked;
      leads = λ conflict. leads-skip clauses steps i a.seen.items a.lits.items (reverse a.hints.items) conflict unmarked;
    }

pub settled-keep : (clauses : List (List Lit)) (n : ℕ) (steps : List Step) (values : List Value) (indices decisions : List ℕ) (i first : ℕ) (spare : Bool) (step : Step) (a b : Analysis)
    → AreSteps clauses n steps values indices decisions → IsDecisionOrEnd steps first → IsLastDecision steps a.last → i < length steps
    → IsWalked clauses n steps (i + 1) a → is_marked a.seen.items i ≡ true → step ≡ get_or steps i step → (step.reason ≡ None) ⊎ IsKeptAt first a.last a.at_last_level i spare
    → KeepsStep i step.lit a b → Settled clauses n steps i a b
settled-keep clauses n steps values indices decisions i first spare step a b s is-first last few h marked is why k =
    let why' = subst (λ (x : Step). (x.reason ≡ None) ⊎ IsKeptAt first a.last a.at_last_level i spare) is why in
    let k' = subst (λ (x : Step). KeepsStep i x.lit a b) is k in
    record {
      walked = walked-keep clauses n steps values indices decisions i first spare step a b s is-first last few h marked why' k';
      leads = λ conflict before.
          subst (λ (hs : List ℕ). LeadsToConflict clauses steps i b.seen.items b.lits.items (reverse hs) conflict) (sym k.hints)
          (subst (λ (ls : List Lit). LeadsToConflict clauses steps i b.seen.items ls (reverse a.hints.items) conflict) (sym k'.lits)
          (leads-keep clauses steps i step a.seen.items b.seen.items a.lits.items (reverse a.hints.items) conflict s.trail few h.free k.seen before));
    }

-- the reason of a step that has one
pub reason-of : (clauses : List (List Lit)) (n : ℕ) (steps : List Step) (values : List Value) (indices decisions : List ℕ) (i id : ℕ) (step : Step)
    → AreSteps clauses n steps values indices decisions → i < length steps → step ≡ get_or steps i step → step.reason ≡ Some id → IsReason (trail_values (take i steps)) clauses id (get_or steps i step).lit
reason-of clauses n steps values indices decisions i id step s few is some =
    (s.trail i step few).forced id (subst (λ (x : Step). x.reason ≡ Some id) is some)

-- the steps of its literals are steps of the trail
pub reason-few : (clauses : List (List Lit)) (n : ℕ) (steps : List Step) (values : List Value) (indices decisions : List ℕ) (i id m : ℕ) (step : Step)
    → AreSteps clauses n steps values indices decisions → AreOver n clauses → i < length steps → step ≡ get_or steps i step → step.reason ≡ Some id → length steps ≤ m
    → All (IsStepOf indices m) (clause_at clauses id)
reason-few clauses n steps values indices decisions i id m step s over few is some size k d few' =
    let at = reason-steps clauses n steps values indices decisions i id step s over few (reason-of clauses n steps values indices decisions i id step s few is some) k d few' in
    let before = at.before in
    record { above = at.above; within = at.within; before = omega arith }

pub settled-resolve : (clauses : List (List Lit)) (n : ℕ) (steps : List Step) (values : List Value) (indices decisions : List ℕ) (i id : ℕ) (step : Step) (a b : Analysis)
    → AreSteps clauses n steps values indices decisions → AreOver n clauses → i < length steps
    → IsWalked clauses n steps (i + 1) a → is_marked a.seen.items i ≡ true → step ≡ get_or steps i step → step.reason ≡ Some id → (a.last ≤ i → a.at_last_level ≢ 1)
    → Resolves clauses indices id i a b → Settled clauses n steps i a b
settled-resolve clauses n steps values indices decisions i id step a b s over few h marked is some more r =
    let reason = reason-of clauses n steps values indices decisions i id step s few is some in
    let hints : reverse b.hints.items ≡ id ∷ reverse a.hints.items = ap (λ (hs : List ℕ). reverse hs) r.hints ∙ reverse-append a.hints.items (id ∷ []) in
    record {
      walked = walked-resolve clauses n steps values indices decisions i id step a b s over few h marked reason more r;
      leads = λ conflict before.
          subst (λ (hs : List ℕ). LeadsToConflict clauses steps i b.seen.items b.lits.items hs conflict) (sym hints)
          (subst (λ (ls : List Lit). LeadsToConflict clauses steps i b.seen.items ls (id ∷ reverse a.hints.items) conflict) (sym r.lits)
          (leads-resolve clauses n steps values indices decisions i step id a.seen.items r.mid b.seen.items a.lits.items (reverse a.hints.items) conflict s few h.free reason r.needs.keeps r.needs.all r.seen before));
    }

-- a step that isn't needed adds nothing
pub minimal-skip : (clauses : List (List Lit)) (steps : List Step) (indices : List ℕ) (first i : ℕ) (a : Analysis) → is_marked a.seen.items i ≡ false → IsMinimalAt clauses steps indices first i a a
minimal-skip clauses steps indices first i a unmarked =
    record { spare = λ s. refl; other = λ marked low early not-spare. absurd (false≢true (sym unmarked ∙ marked)) }

-- nor does one that is resolved
pub minimal-resolve : (clauses : List (List Lit)) (steps : List Step) (indices : List ℕ) (first i : ℕ) (spare : Bool) (a b : Analysis) → b.lits.items ≡ a.lits.items
    → IsTrue spare ↔ IsSpareStep clauses steps indices first i a → (IsKeptAt first a.last a.at_last_level i spare → ⊥) → IsMinimalAt clauses steps indices first i a b
minimal-resolve clauses steps indices first i spare a b lits says not-kept =
    record {
      spare = λ s. lits;
      other = λ marked low early not-spare. elim (cases_Bool spare) [
        | inl on ↦ absurd (not-spare (says.0 on))
        | inr off ↦ absurd (not-kept (inr (early, low, off)))
      ];
    }

-- one that is kept isn't spare
pub minimal-keep : (clauses : List (List Lit)) (steps : List Step) (indices : List ℕ) (first i : ℕ) (spare : Bool) (step : Step) (a b : Analysis) → i < length steps → b.lits.items ≡ a.lits.items ++ negated step.lit ∷ []
    → step ≡ get_or steps i step → IsTrue spare ↔ IsSpareStep clauses steps indices first i a → (step.reason ≡ None) ⊎ IsKeptAt first a.last a.at_last_level i spare → IsMinimalAt clauses steps indices first i a b
minimal-keep clauses steps indices first i spare step a b few lits is says why =
    record {
      spare = λ s. absurd (elim why [
        | inl decides ↦ none-some s.id (sym decides ∙ ap (λ (x : Step). x.reason) is ∙ s.reason step)
        | inr kept ↦ elim kept [
          | inl alone ↦ (let low = alone.0 in let early = s.earlier in omega arith)
          | inr earlier ↦ (let (early, low, off) = earlier in false≢true (sym off ∙ says.1 s))
        ]
      ]);
      other = λ marked low early not-spare d. lits ∙ ap (λ (x : Step). a.lits.items ++ negated x.lit ∷ []) (is ∙ get_or_default steps i step d few);
    }
  where
    none-some : (id : ℕ) → None ≡ Some id → ⊥
    none-some id e = cc

-- what is said of a step by its reason's literals
pub spare-says : (clauses : List (List Lit)) (steps : List Step) (indices : List ℕ) (first i id : ℕ) (a : Analysis) (step : Step) (c : List Lit) (r : Bool) → i < a.last → i < length steps
    → step ≡ get_or steps i step → step.reason ≡ Some id → clause_at clauses id ≡ c → IsTrue r ↔ All (AddsNoLiteral clauses steps indices a.seen.items first i) c → IsTrue r ↔ IsSpareStep clauses steps indices first i a
spare-says clauses steps indices first i id a step c r early few is some clause says = (
  (λ on. record {
    id = id;
    earlier = early;
    reason = λ d. sym (ap (λ (x : Step). x.reason) (is ∙ get_or_default steps i step d few)) ∙ some;
    others = subst (All (AddsNoLiteral clauses steps indices a.seen.items first i)) (sym clause) (says.0 on);
  }),
  (λ s.
      (let same : s.id ≡ id = same-some s.id id (sym (ap (λ (x : Step). x.reason) is ∙ s.reason step) ∙ some) in
      says.1 (subst (All (AddsNoLiteral clauses steps indices a.seen.items first i)) (ap (clause_at clauses) same ∙ clause) s.others))),
)
  where
    same-some : (x y : ℕ) → Some x ≡ Some y → x ≡ y
    same-some x y e = cc

-- a literal of a reason that was looked at
pub adds-none : (clauses : List (List Lit)) (steps : List Step) (indices : List ℕ) (seen : List Bool) (first i j : ℕ) (l : Lit) → j ≡ trail_index indices l
    → (j ≡ i) ⊎ (j < first) ⊎ (is_marked seen j ≡ true) ⊎ IsImpliedStep clauses steps indices seen first j → AddsNoLiteral clauses steps indices seen first i l
adds-none clauses steps indices seen first i j l at (inl same) = inl (inl (sym at ∙ same))
adds-none clauses steps indices seen first i j l at (inr (inl early)) = inl (inr (inl (omega (arith, at, early))))
adds-none clauses steps indices seen first i j l at (inr (inr (inl marked))) = inl (inr (inr (ap (is_marked seen) (sym at) ∙ marked)))
adds-none clauses steps indices seen first i j l at (inr (inr (inr implied))) = inr (subst (IsImpliedStep clauses steps indices seen first) at implied)
