-- The literals that the search made true, in order, each by decision or by a clause that is unit for it: the field's
-- trail. This project's own form; no public clause cites it.
use Rattle.std.specs.Prelude.{◌≡◌, ◌≢◌, ℕ, ◌+◌, ◌-◌, ◌<◌, ◌≤◌, List, [], ◌∷◌, ◌++◌, map, length, take, Option, Some, None, Bool, true, false, is_none, slice_index}
use Rattle.std.specs.List.{slice_index_or, All, count_by}
use Rattle.cnf_core.specs.declared.literal.Lit.{Lit}
use Rattle.cnf_core.specs.Formula.{IsLitOf}
use Rattle.cnf_core.specs.Values.{Partial, partial_of, IsUnassigned, IsUnit, IsClosed}
use Rattle.cnf_core.specs.Refutation.{clause_at}
use Rattle.sat_core.specs.declared.trail.Step.{Step}
use Rattle.sat_core.specs.declared.trail.Value.{Value}
use Rattle.sat_core.specs.declared.trail.Value.TheVariants.{Unassigned, False, True}
use Rattle.sat_core.specs.declared.trail.Trail.{Trail}

-- what a stored value says
abbrev pub truth_value : Value → Option Bool
truth_value Unassigned = None
truth_value False = Some false
truth_value True = Some true

abbrev pub is_unassigned : Value → Bool
is_unassigned v = is_none (truth_value v)

-- the value of each variable, that of x at the place x - 1
unfoldable pub assignment_of : List Value → Partial
assignment_of values x = truth_value (slice_index_or values (x - 1) Unassigned)

-- the literals that the steps made true
abbrev pub lits_of : List Step → List Lit
lits_of steps = map (λ (s : Step). s.lit) steps

-- the values that the steps gave
abbrev pub trail_values : List Step → Partial
trail_values steps = partial_of (lits_of steps)

-- the clause with this id is unit for the literal
pub record IsReason (s : Partial) (clauses : List (List Lit)) (id : ℕ) (l : Lit) : Type 0 where
  pub low : 1 ≤ id
  pub high : id ≤ length clauses
  pub unit : IsUnit s (clause_at clauses id) l

-- a step makes a free literal true, by decision or by a clause that is unit for it under the steps before it
pub record IsRightStep (clauses : List (List Lit)) (before : List Step) (step : Step) : Type 0 where
  pub free : IsUnassigned (trail_values before) step.lit
  pub forced : (id : ℕ) → step.reason ≡ Some id → IsReason (trail_values before) clauses id step.lit

-- the steps are right, one after another
abbrev pub IsTrail : List (List Lit) → List Step → Type 0
IsTrail clauses steps =
    (k : ℕ) (d : Step) → k < length steps → IsRightStep clauses (take k steps) (slice_index_or steps k d)

-- the indices, with this one before them where there is no reason
abbrev pub with_decision : Option ℕ → ℕ → List ℕ → List ℕ
with_decision None k ks = k ∷ ks
with_decision (Some id) k ks = ks

-- the trail indices of the decisions, rising, where the first step has index k
abbrev pub decision_indices_from : ℕ → List Step → List ℕ
decision_indices_from k [] = []
decision_indices_from k (step ∷ steps) = with_decision step.reason k (decision_indices_from (k + 1) steps)

abbrev pub decision_indices : List Step → List ℕ
decision_indices steps = decision_indices_from 0 steps

-- steps over n variables, the values that they gave, and the trail indices of each variable's step and of the decisions
pub record AreSteps (clauses : List (List Lit)) (n : ℕ) (steps : List Step) (values : List Value)
    (indices decisions : List ℕ) : Type 0 where
  pub trail : IsTrail clauses steps
  pub exist : All (λ (s : Step). IsLitOf n s.lit) steps
  pub size : length values ≡ n
  pub shows : (x : ℕ) → 1 ≤ x → x ≤ n → trail_values steps x ≡ assignment_of values x
  pub room : length steps + count_by is_unassigned values ≡ n
  pub slots : length indices ≡ n
  pub placed : (k : ℕ) (d : Step) → k < length steps → slice_index indices ((slice_index_or steps k d).lit.var - 1) ≡ k
  pub decided : decisions ≡ decision_indices steps

abbrev pub IsTrailState : List (List Lit) → ℕ → Trail → Type 0
IsTrailState clauses n trail =
    AreSteps clauses n trail.steps.items trail.values.items trail.indices.items trail.decisions.items

-- how many variables there are
abbrev pub var_count : Trail → ℕ
var_count trail = length trail.values.items

-- the new steps are the old ones and then steps by clauses
abbrev pub Propagates : List Step → List Step → Type 0
Propagates old new = (added : List Step) × (new ≡ old ++ added) × All (λ (s : Step). s.reason ≢ None) added

-- before each decision the values were closed for all clauses
abbrev pub AreClosedBefore : List (List Lit) → List Step → Type 0
AreClosedBefore clauses steps =
    (k : ℕ) (d : Step) → k < length steps → (slice_index_or steps k d).reason ≡ None
    → IsClosed (trail_values (take k steps)) clauses
