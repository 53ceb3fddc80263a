-- From the negation of the lemma the hints lead to the conflict: one step more of the walk back.
use Rattle.std.proofs.Common.{◌≡◌, ◌≢◌, ℕ, ◌+◌, ◌-◌, ◌<◌, Bool, true, false, not, List, [], ◌∷◌, ◌++◌, length, take, set, get_or, refl, sym, ap, ◌∙◌, subst, arith, inl, inr, Some, None}
use Rattle.std.specs.List.{All}
use Rattle.std.proofs.lemmas.Bool.{cases_eq, false≢true}
use Rattle.std.proofs.lemmas.List.{get_or-take, length-take, take_all, map_push, get_or_default, get_or-set_other}
use Rattle.std.proofs.lemmas.List.Elements.{All-head, All-tail, All-weaker}
use Rattle.cnf_core.specs.declared.literal.Lit.{Lit}
use Rattle.cnf_core.specs.Formula.{negated}
use Rattle.cnf_core.specs.Values.{partial_of, IsHeld, IsFalse, IsFalseClause, IsUnit}
use Rattle.cnf_core.specs.Refutation.{clause_at, negations}
use Rattle.sat_core.specs.declared.trail.Step.{Step}
use Rattle.sat_core.specs.declared.trail.Value.{Value}
use Rattle.sat_core.specs.Steps.{trail_values, IsTrail, IsReason, AreSteps}
use Rattle.sat_core.specs.Walks.{trail_index, is_marked, Covers, LeadsToConflict}
use Rattle.sat_core.proofs.Holding.{none≢some, partial_of-push-same, partial_of-push-other, partial_of-cons-same, partial_of-cons-other, held-step, held-at, step-of, free-before}

-- a literal that is false under the steps before i is false by its marked step
pub covered-false : (clauses : List (List Lit)) (n : ℕ) (steps : List Step) (values : List Value) (indices decisions : List ℕ) (i : ℕ) (seen : List Bool) (t : List Lit) (l : Lit)
    → AreSteps clauses n steps values indices decisions → Covers steps i seen t → IsFalse (trail_values (take i steps)) l → is_marked seen (trail_index indices l) ≡ true → IsFalse (partial_of t) l
covered-false clauses n steps values indices decisions i seen t l h covers false' marked =
    let (j, few, at) = step-of (take i steps) l.var (not l.positive) false' in
    let size = length-take i steps in
    let d : Step = record { lit = l; reason = None } in
    let s = get_or steps j d in
    let few' : j < length steps = omega arith in
    let below : j < i = omega arith in
    let same : get_or (take i steps) j d ≡ s = get_or-take i steps j d below in
    let var : s.lit.var ≡ l.var = ap (λ (x : Step). x.lit.var) (sym same) ∙ (at d).0 in
    let positive : s.lit.positive ≡ not l.positive = ap (λ (x : Step). x.lit.positive) (sym same) ∙ (at d).1 in
    let place : trail_index indices l ≡ j = ap (λ (x : ℕ). get_or indices (x - 1) 0) (sym var) ∙ h.placed j d few' in
    let mark : is_marked seen j ≡ true = ap (is_marked seen) (sym place) ∙ marked in
    ap (partial_of t) (sym var) ∙ covers j d below few' mark ∙ ap (λ (b : Bool). Some b) positive

-- at the end of the trail the conflict is false already
pub leads-start : (clauses : List (List Lit)) (n : ℕ) (steps : List Step) (values : List Value) (indices decisions : List ℕ) (seen : List Bool) (conflict : List Lit)
    → AreSteps clauses n steps values indices decisions → IsFalseClause (trail_values steps) conflict → All (λ l. is_marked seen (trail_index indices l) ≡ true) conflict → LeadsToConflict clauses steps (length steps) seen [] [] conflict
leads-start clauses n steps values indices decisions seen conflict h false' marked t covers rest = (
  t,
  refl,
  (λ k d few.
      let whole : take (length steps) steps ≡ steps = take_all (length steps) steps (omega arith) in
      covered-false clauses n steps values indices decisions (length steps) seen t (get_or conflict k d) h covers
      (subst (λ (ss : List Step). IsFalse (trail_values ss) (get_or conflict k d)) (sym whole) (false' k d few)) (marked k d few)),
)

-- a step that isn't needed
pub leads-skip : (clauses : List (List Lit)) (steps : List Step) (i : ℕ) (seen : List Bool) (lits : List Lit) (hints : List ℕ) (conflict : List Lit)
    → is_marked seen i ≡ false → LeadsToConflict clauses steps (i + 1) seen lits hints conflict → LeadsToConflict clauses steps i seen lits hints conflict
leads-skip clauses steps i seen lits hints conflict unmarked leads t covers rest =
    leads t
    (λ k d below few mark. elim (cases_eq k i) [
      | inl same ↦ absurd (false≢true (sym unmarked ∙ ap (is_marked seen) (sym same) ∙ mark))
      | inr other ↦ covers k d (omega arith) few mark
    ])
    (λ x free. rest x (free-before steps i (i + 1) x (omega arith) free))

-- a lemma says nothing of a variable that none of its literals has
pub refuted-none : (lits : List Lit) (x : ℕ) → All (λ (l : Lit). l.var ≢ x) lits → partial_of (negations lits) x ≡ None
refuted-none [] x others = refl
refuted-none (l ∷ ls) x others =
    let P : Lit → Type 0 = λ m. m.var ≢ x in
    partial_of-cons-other (negated l) (negations ls) x (All-head P l ls others) ∙ refuted-none ls x (All-tail P l ls others)

not-not : (b : Bool) → not (not b) ≡ b
not-not true = refl
not-not false = refl

-- the literals of the lemma are of later steps, so none is of the step at i
pub others-later : (clauses : List (List Lit)) (steps : List Step) (i : ℕ) (d : Step) (lits : List Lit) → IsTrail clauses steps → i < length steps → All (λ (l : Lit). trail_values (take (i + 1) steps) l.var ≡ None) lits → All (λ (l : Lit). l.var ≢ (get_or steps i d).lit.var) lits
others-later clauses steps i d lits trail few free =
    All-weaker (λ (l : Lit). trail_values (take (i + 1) steps) l.var ≡ None) (λ (l : Lit). l.var ≢ (get_or steps i d).lit.var)
    (λ l none same. none≢some (sym none ∙ ap (trail_values (take (i + 1) steps)) same ∙ held-step clauses steps i d trail few)) lits free

-- a step that is kept
pub leads-keep : (clauses : List (List Lit)) (steps : List Step) (i : ℕ) (d : Step) (seen needed' : List Bool) (lits : List Lit) (hints : List ℕ) (conflict : List Lit)
    → IsTrail clauses steps → i < length steps → All (λ (l : Lit). trail_values (take (i + 1) steps) l.var ≡ None) lits → needed' ≡ set seen i false
    → LeadsToConflict clauses steps (i + 1) seen lits hints conflict → LeadsToConflict clauses steps i needed' (lits ++ negated (get_or steps i d).lit ∷ []) hints conflict
leads-keep clauses steps i d seen needed' lits hints conflict trail few free is leads t covers rest =
    let l = (get_or steps i d).lit in
    let all : negations (lits ++ negated l ∷ []) ≡ negations lits ++ negated (negated l) ∷ [] = map_push negated lits (negated l) in
    let at-l : partial_of t l.var ≡ Some l.positive =
    rest l.var (trail i d few).free ∙ ap (λ (ls : List Lit). partial_of ls l.var) all
    ∙ partial_of-push-same (negations lits) (negated (negated l)) (refuted-none lits l.var (others-later clauses steps i d lits trail few free))
    ∙ ap (λ (b : Bool). Some b) (not-not l.positive) in
    leads t
    (λ k e below few' mark. elim (cases_eq k i) [
      | inl same ↦ subst (λ (j : ℕ). IsHeld (partial_of t) (get_or steps j e).lit) (sym same)
          (subst (λ (s : Step). IsHeld (partial_of t) s.lit) (get_or_default steps i d e few) at-l)
      | inr other ↦ covers k e (omega arith) few' (ap (λ (ns : List Bool). is_marked ns k) is ∙ get_or-set_other seen i k false false other ∙ mark)
    ])
    (λ x free-x.
    let other : l.var ≢ x = λ same. none≢some (sym free-x ∙ ap (trail_values (take (i + 1) steps)) (sym same) ∙ held-step clauses steps i d trail few) in
    rest x (free-before steps i (i + 1) x (omega arith) free-x) ∙ ap (λ (ls : List Lit). partial_of ls x) all ∙ partial_of-push-other (negations lits) (negated (negated l)) x other)

-- a step that is resolved with its reason
pub leads-resolve : (clauses : List (List Lit)) (n : ℕ) (steps : List Step) (values : List Value) (indices decisions : List ℕ) (i : ℕ) (d : Step) (id : ℕ) (seen mid needed' : List Bool) (lits : List Lit) (hints : List ℕ) (conflict : List Lit)
    → AreSteps clauses n steps values indices decisions → i < length steps → All (λ (l : Lit). trail_values (take (i + 1) steps) l.var ≡ None) lits
    → IsReason (trail_values (take i steps)) clauses id (get_or steps i d).lit
    → ((k : ℕ) → is_marked seen k ≡ true → is_marked mid k ≡ true) → All (λ l. is_marked mid (trail_index indices l) ≡ true) (clause_at clauses id) → needed' ≡ set mid i false
    → LeadsToConflict clauses steps (i + 1) seen lits hints conflict → LeadsToConflict clauses steps i needed' lits (id ∷ hints) conflict
leads-resolve clauses n steps values indices decisions i d id seen mid needed' lits hints conflict h few free reason keeps marked is leads t covers rest =
    let l = (get_or steps i d).lit in
    let c = clause_at clauses id in
    let mid-covers : Covers steps i mid t = λ k e below few' mark.
    (let ne : k ≢ i = λ same. absurd (omega arith) in
    covers k e below few' (ap (λ (ns : List Bool). is_marked ns k) is ∙ get_or-set_other mid i k false false ne ∙ mark)) in
    let unit : IsUnit (partial_of t) c l = record {
      among = reason.unit.among;
      free = rest l.var (h.trail i d few).free ∙ refuted-none lits l.var (others-later clauses steps i d lits h.trail few free);
      others = λ k e few'. elim (reason.unit.others k e few') [
        | inl same ↦ inl same
        | inr false' ↦ inr (covered-false clauses n steps values indices decisions i mid t (get_or c k e) h mid-covers false' (marked k e few'))
      ];
    } in
    let next = leads (l ∷ t)
    (λ k e below few' mark. elim (cases_eq k i) [
      | inl same ↦ subst (λ (j : ℕ). IsHeld (partial_of (l ∷ t)) (get_or steps j e).lit) (sym same)
          (subst (λ (s : Step). IsHeld (partial_of (l ∷ t)) s.lit) (get_or_default steps i d e few) (partial_of-cons-same l t l.var refl))
      | inr other ↦
          (let s = get_or steps k e in
          let apart : l.var ≢ s.lit.var = λ same. none≢some (sym (h.trail i d few).free ∙ ap (trail_values (take i steps)) same ∙ held-at clauses steps i k e h.trail (omega arith) few') in
          partial_of-cons-other l t s.lit.var apart ∙ mid-covers k e (omega arith) few' (keeps k mark))
    ])
    (λ x free-x.
    let other : l.var ≢ x = λ same. none≢some (sym free-x ∙ ap (trail_values (take (i + 1) steps)) (sym same) ∙ held-step clauses steps i d h.trail few) in
    partial_of-cons-other l t x other ∙ rest x (free-before steps i (i + 1) x (omega arith) free-x)) in
    (next.0, (l, unit, next.1), next.2)
