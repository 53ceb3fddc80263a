-- The walk back along the trail that finds the lemma of a conflict, the first unique implication point: this project;
-- no public clause cites it.
use Rattle.std.specs.Prelude.{◌≡◌, ◌≢◌, ℕ, ◌+◌, ◌-◌, ◌<◌, ◌≤◌, ◌⊎◌, Bool, true, false, List, [], ◌∷◌, ◌++◌, length, take, drop, reverse, Some, None, is_none, nat_le, ◌&&◌, ◌||◌, if◌then◌else◌, slice_index, slice_set}
use Rattle.std.specs.List.{slice_index_or, All, Contains, count_by}
use Rattle.cnf_core.specs.declared.literal.Lit.{Lit}
use Rattle.cnf_core.specs.Formula.{IsLitOf, negated}
use Rattle.cnf_core.specs.Values.{Partial, partial_of, IsHeld, IsUnassigned, IsFalse, IsFalseClause, IsOpenClause}
use Rattle.cnf_core.specs.Refutation.{clause_at, Reaches, negations, AreNames, HaveDifferentVars}
use Rattle.sat_core.specs.declared.trail.Step.{Step}
use Rattle.sat_core.specs.declared.conflict.Analysis.{Analysis}
use Rattle.sat_core.specs.Steps.{trail_values}

-- the trail index of a literal's step
abbrev pub trail_index : List ℕ → Lit → ℕ
trail_index indices l = slice_index indices (l.var - 1)

-- it is among the first n
pub record IsStepOf (indices : List ℕ) (n : ℕ) (l : Lit) : Type 0 where
  pub above : 1 ≤ l.var
  pub within : l.var ≤ length indices
  pub before : trail_index indices l < n

abbrev pub is_marked : List Bool → ℕ → Bool
is_marked seen k = slice_index_or seen k false

-- how many places from `last` on are marked
unfoldable pub last_level_count : ℕ → List Bool → ℕ
last_level_count last seen = count_by (λ b. b) (drop last seen)

-- no index from n on is marked
abbrev pub AreUnmarked : ℕ → List Bool → Type 0
AreUnmarked n seen = (k : ℕ) → n ≤ k → is_marked seen k ≡ false

-- no index before n is marked
abbrev pub AreUnmarkedBelow : ℕ → List Bool → Type 0
AreUnmarkedBelow n seen = (k : ℕ) → k < n → is_marked seen k ≡ false

-- the steps of the literals of a front of the clause are marked too, as many from `last` on as were added
pub record MarksClause (indices : List ℕ) (front clause : List Lit) (last : ℕ) (old new : List Bool)
    (added : ℕ) : Type 0 where
  pub size : length new ≡ length old
  pub keeps : (k : ℕ) → is_marked old k ≡ true → is_marked new k ≡ true
  pub all : All (λ l. is_marked new (trail_index indices l) ≡ true) front
  pub only : (n : ℕ) → All (IsStepOf indices n) clause → AreUnmarked n old → AreUnmarked n new
  pub below : (n : ℕ) → All (λ l. n ≤ trail_index indices l) clause → AreUnmarkedBelow n old → AreUnmarkedBelow n new
  pub count : last_level_count last new ≡ last_level_count last old + added

-- all steps are by clauses
abbrev pub AreForced : List Step → Type 0
AreForced steps = All (λ (s : Step). s.reason ≢ None) steps

-- the trail index of the last decision, or the number of steps where there is none
pub record IsLastDecision (steps : List Step) (last : ℕ) : Type 0 where
  pub within : last ≤ length steps
  pub decides : (d : Step) → last < length steps → (slice_index_or steps last d).reason ≡ None
  pub after : (k : ℕ) (d : Step) → last < k → k < length steps → (slice_index_or steps k d).reason ≢ None
  pub none : last ≡ length steps → AreForced steps

-- the trail index of a decision, or past the last step
abbrev pub IsDecisionOrEnd : List Step → ℕ → Type 0
IsDecisionOrEnd steps index = (d : Step) → index < length steps → (slice_index_or steps index d).reason ≡ None

-- the steps that were taken back are all from a decision on
pub record IsTakenBack (old new : List Step) : Type 0 where
  pub count : ℕ
  pub front : new ≡ take count old
  pub decides : IsDecisionOrEnd old count

-- why a needed step is kept: it is the only one of the last level, or of an earlier one, not before any decision, and
-- not spare
abbrev pub IsKeptAt : ℕ → ℕ → ℕ → ℕ → Bool → Type 0
IsKeptAt first last at_last_level index spare =
    ((last ≤ index) × (at_last_level ≡ 1)) ⊎ ((index < last) × (first ≤ index) × (spare ≡ false))

-- a literal of a reason adds no step to those that are needed: its step is the one at the index, before any decision,
-- or needed already
abbrev pub AddsNoStep : List ℕ → List Bool → ℕ → ℕ → Lit → Type 0
AddsNoStep indices seen first index l =
    (trail_index indices l ≡ index) ⊎ (trail_index indices l < first) ⊎ (is_marked seen (trail_index indices l) ≡ true)

-- the step at an index has a reason no literal of which adds a step
pub record IsImpliedStep (clauses : List (List Lit)) (steps : List Step) (indices : List ℕ) (seen : List Bool)
    (first index : ℕ) : Type 0 where
  pub id : ℕ
  pub reason : (d : Step) → (slice_index_or steps index d).reason ≡ Some id
  pub others : All (AddsNoStep indices seen first index) (clause_at clauses id)

-- a literal of a reason adds none to the lemma: it adds no step, or its step is implied itself
abbrev pub AddsNoLiteral : List (List Lit) → List Step → List ℕ → List Bool → ℕ → ℕ → Lit → Type 0
AddsNoLiteral clauses steps indices seen first index l =
    AddsNoStep indices seen first index l ⊎ IsImpliedStep clauses steps indices seen first (trail_index indices l)

-- the step at an index is of an earlier level, and no literal of its reason adds one to the lemma
pub record IsSpareStep (clauses : List (List Lit)) (steps : List Step) (indices : List ℕ) (first index : ℕ)
    (a : Analysis) : Type 0 where
  pub id : ℕ
  pub earlier : index < a.last
  pub reason : (d : Step) → (slice_index_or steps index d).reason ≡ Some id
  pub others : All (AddsNoLiteral clauses steps indices a.seen.items first index) (clause_at clauses id)

-- a needed step of an earlier level, not before any decision, adds its literal's opposite to the lemma, unless it is
-- spare
pub record IsMinimalAt (clauses : List (List Lit)) (steps : List Step) (indices : List ℕ) (first index : ℕ)
    (old new : Analysis) : Type 0 where
  pub spare : IsSpareStep clauses steps indices first index old → new.lits.items ≡ old.lits.items
  pub other : is_marked old.seen.items index ≡ true → first ≤ index → index < old.last
      → (IsSpareStep clauses steps indices first index old → ⊥)
      → (d : Step) → new.lits.items ≡ old.lits.items ++ negated (slice_index_or steps index d).lit ∷ []

-- the step at an index was kept: the opposite of its literal is in the lemma
pub record KeepsStep (index : ℕ) (lit : Lit) (old new : Analysis) : Type 0 where
  pub seen : new.seen.items ≡ slice_set old.seen.items index false
  pub at_last_level : new.at_last_level ≡ last_level_count new.last new.seen.items
  pub lits : new.lits.items ≡ old.lits.items ++ negated lit ∷ []
  pub hints : new.hints.items ≡ old.hints.items
  pub last : new.last ≡ old.last
  pub lowest : new.lowest ≡ old.lowest
  pub backjump : new.backjump ≡ old.backjump

-- the step at an index was resolved with the clause that has this id
pub record Resolves (clauses : List (List Lit)) (indices : List ℕ) (id index : ℕ) (old new : Analysis) : Type 0 where
  pub mid : List Bool
  pub added : ℕ
  pub needs : MarksClause indices (clause_at clauses id) (clause_at clauses id) old.last old.seen.items mid added
  pub seen : new.seen.items ≡ slice_set mid index false
  pub at_last_level : new.at_last_level ≡ last_level_count new.last new.seen.items
  pub lits : new.lits.items ≡ old.lits.items
  pub hints : new.hints.items ≡ old.hints.items ++ id ∷ []
  pub last : new.last ≡ old.last
  pub lower : new.lowest ≤ old.lowest
  pub lowest : All (λ l. new.lowest ≤ trail_index indices l) (clause_at clauses id)
  pub reached : (new.lowest ≡ old.lowest)
      ⊎ ((l : Lit) × Contains (clause_at clauses id) l × (new.lowest ≡ trail_index indices l))
  pub backjump : new.backjump ≡ old.backjump

-- one literal is free and all after it are false
pub record IsAsserting (s : Partial) (lits : List Lit) : Type 0 where
  pub first : Lit
  pub rest : List Lit
  pub is : lits ≡ first ∷ rest
  pub free : IsUnassigned s first
  pub false' : All (IsFalse s) rest

-- a mark for each of n variables, and none is set
pub record AreNoMarks (n : ℕ) (seen : List Bool) : Type 0 where
  pub size : length seen ≡ n
  pub clear : AreUnmarked 0 seen

-- what the walk keeps, once it visited the steps from i on
pub record IsWalked (clauses : List (List Lit)) (n : ℕ) (steps : List Step) (i : ℕ) (a : Analysis) : Type 0 where
  pub size : length a.seen.items ≡ n
  pub room : length steps ≤ n
  pub clear : AreUnmarked i a.seen.items
  pub below : AreUnmarkedBelow a.lowest a.seen.items
  pub reached : a.lowest < i → is_marked a.seen.items a.lowest ≡ true
  pub count : a.at_last_level ≡ last_level_count a.last a.seen.items
  pub exist : All (IsLitOf n) a.lits.items
  pub free : All (λ l. trail_values (take i steps) l.var ≡ None) a.lits.items
  pub differ : HaveDifferentVars a.lits.items
  pub names : AreNames (length clauses) a.hints.items
  pub many : 1 ≤ a.at_last_level → a.last < length steps → a.lits.items ≡ []
  pub one : a.at_last_level ≡ 0 → a.last < length steps → IsAsserting (trail_values (take a.last steps)) a.lits.items
  pub root : AreForced steps → a.lits.items ≡ []

-- these literals hold the marked steps before i
abbrev pub Covers : List Step → ℕ → List Bool → List Lit → Type 0
Covers steps i seen t =
    (k : ℕ) (d : Step) → k < i → k < length steps → is_marked seen k ≡ true
    → IsHeld (partial_of t) (slice_index_or steps k d).lit

-- of other variables they hold what refutes the lemma
abbrev pub HoldsRefuted : List Step → ℕ → List Lit → List Lit → Type 0
HoldsRefuted steps i lits t =
    (x : ℕ) → trail_values (take i steps) x ≡ None → partial_of t x ≡ partial_of (negations lits) x

-- from such literals the hints lead to the conflict
abbrev pub LeadsToConflict : List (List Lit) → List Step → ℕ → List Bool → List Lit → List ℕ → List Lit → Type 0
LeadsToConflict clauses steps i seen lits hints conflict =
    (t : List Lit) → Covers steps i seen t → HoldsRefuted steps i lits t
    → (u : List Lit) × Reaches clauses t hints u × IsFalseClause (partial_of u) conflict

-- the same of what an analysis knows
abbrev pub LeadsBy : List (List Lit) → List Step → ℕ → Analysis → List Lit → Type 0
LeadsBy clauses steps i a conflict =
    LeadsToConflict clauses steps i a.seen.items a.lits.items (reverse a.hints.items) conflict

-- under the steps before each decision from i on that stays, the lemma is open
abbrev pub IsBackjump : List Step → ℕ → ℕ → List Lit → Type 0
IsBackjump steps i backjump lits =
    (k : ℕ) (d : Step) → i ≤ k → k < backjump → k < length steps → (slice_index_or steps k d).reason ≡ None
    → IsOpenClause (trail_values (take k steps)) lits

-- how many steps a backjump leaves, after a visit to one
abbrev pub backjump_after : Step → ℕ → ℕ → ℕ → ℕ
backjump_after step count index backjump = if is_none step.reason && nat_le count 1 then index else backjump

-- and at the end of the walk
abbrev pub backjump_at_end : ℕ → Bool → ℕ → ℕ → ℕ
backjump_at_end first restarts count backjump = if restarts || nat_le count 1 then first else backjump
