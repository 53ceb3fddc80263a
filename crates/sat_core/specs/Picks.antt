-- What a decision does: which free variable it takes, and with which value: this project; no public clause cites it.
use Rattle.std.specs.Prelude.{◌≡◌, ◌≢◌, ℕ, ◌+◌, ◌-◌, ◌^◌, ◌<◌, ◌≤◌, ◌==◌, ◌⊎◌, List, [], ◌∷◌, ◌++◌, length, map, filter, min, Bool, None, false, is_none, slice_index, if◌then◌else◌}
use Rattle.std.specs.List.{range_with_len, list_any, count_by, slice_index_or}
use Rattle.pick_rule.specs.declared.pick.Pick.{Pick}
use Rattle.pick_rule.specs.declared.pick.Pick.TheVariants.{First, Last, Activity}
use Rattle.pick_rule.specs.Picks.{PicksPlace}
use Rattle.cnf_core.specs.declared.literal.Lit.{Lit}
use Rattle.cnf_core.specs.declared.line.Line.{Line}
use Rattle.sat_core.specs.declared.decision.Decider.{Decider}
use Rattle.sat_core.specs.declared.tournament.Player.{Player}
use Rattle.sat_core.specs.declared.trail.Step.{Step}
use Rattle.sat_core.specs.declared.trail.Trail.{Trail}
use Rattle.sat_core.specs.declared.trail.Value.{Value}
use Rattle.sat_core.specs.Steps.{assignment_of, var_count, IsTrailState}
use Rattle.sat_core.specs.Tournament.{nobody, player_at}

-- the variables without a value, rising
abbrev pub free_list : List Value → List ℕ
free_list values = filter (λ x. is_none (assignment_of values x)) (map (λ i. i + 1) (range_with_len 0 (length values)))

-- whether the lemma has the variable
abbrev pub has_var : List Lit → ℕ → Bool
has_var lemma x = list_any (λ (l : Lit). l.var == x) lemma

-- how many of the lemmas have the variable
abbrev pub lemma_count : List Line → ℕ → ℕ
lemma_count lines x = count_by (λ (line : Line). has_var line.lits x) lines

-- the score of a variable: the given one plus the number of lemmas that have it, or 2 ^ 64 - 1 where that is less
abbrev pub score_of : List ℕ → List Line → ℕ → ℕ
score_of given lines x = min (slice_index given (x - 1) + lemma_count lines x) (2 ^ 64 - 1)

-- the score after one lemma more, of a variable that it has or hasn't
abbrev pub next_score : Bool → ℕ → ℕ
next_score has score = if has then min (score + 1) (2 ^ 64 - 1) else score

-- the scores of the variables 1 to n, that of x at the place x - 1, as the given ones are
pub record AreScores (n : ℕ) (given : List ℕ) (lines : List Line) (counts : List ℕ) : Type 0 where
  pub size : length counts ≡ n
  pub each : (x : ℕ) → 1 ≤ x → x ≤ n → slice_index counts (x - 1) ≡ score_of given lines x

-- the score of each free variable, rising
abbrev pub scores_of : List ℕ → List Value → List ℕ
scores_of counts values = map (λ x. slice_index counts (x - 1)) (free_list values)

-- a step that decides the value of a variable
abbrev pub decision_of : ℕ → Bool → Step
decision_of var positive = record { lit = record { var = var; positive = positive }; reason = None }

-- the free variable at the place that is picked was given a value by decision, and it is false but under `Activity`
pub record IsDecidedBy (pick : Pick) (counts : List ℕ) (old new : Trail) : Type 0 where
  pub place : ℕ
  pub positive : Bool
  pub picked : PicksPlace pick (scores_of counts old.values.items) place
  pub within : place < length (free_list old.values.items)
  pub tried : pick ≢ Activity → positive ≡ false
  pub steps : new.steps.items
      ≡ old.steps.items ++ decision_of (slice_index (free_list old.values.items) place) positive ∷ []
  pub state : (clauses : List (List Lit)) → IsTrailState clauses (var_count old) old
      → IsTrailState clauses (var_count old) new

-- who plays for a variable
abbrev pub own_player : List ℕ → ℕ → Player
own_player scores x = record { score = slice_index scores (x - 1); var = x }

-- a variable plays with its score or not at all
abbrev pub IsOwn : List ℕ → List Player → ℕ → Type 0
IsOwn scores players x = (player_at players (x - 1) ≡ nobody) ⊎ (player_at players (x - 1) ≡ own_player scores x)

-- the strategy changes scores
abbrev pub IsCounting : Pick → Type 0
IsCounting pick = (pick ≢ First) × (pick ≢ Last)

-- the scores of strategies that don't count: all 0, or each the place of its variable
pub record AreFixed (pick : Pick) (scores : List ℕ) : Type 0 where
  pub first : pick ≡ First → (k : ℕ) → k < length scores → slice_index scores k ≡ 0
  pub last : pick ≡ Last → (k : ℕ) → k < length scores → slice_index scores k ≡ k

-- what a decider keeps where the variables have these values: each free one plays, others may
pub record Offers (values : List Value) (d : Decider) : Type 0 where
  pub few : length values < 2 ^ 29
  pub scores : length d.scores.items ≡ length values
  pub phases : length d.phases.items ≡ length values
  pub players : length d.tournament ≡ length values
  pub own : (x : ℕ) → 1 ≤ x → x ≤ length values → IsOwn d.scores.items d.tournament x
  pub free : (x : ℕ) → 1 ≤ x → x ≤ length values → assignment_of values x ≡ None
      → player_at d.tournament (x - 1) ≡ own_player d.scores.items x
  pub fixed : AreFixed d.pick d.scores.items
  pub tried : d.pick ≢ Activity → (k : ℕ) → slice_index_or d.phases.items k false ≡ false

-- what is free under the new values was so under the old ones, or its step is one from this index on
pub record AreFreed (steps : List Step) (from : ℕ) (old new : List Value) : Type 0 where
  pub size : length new ≡ length old
  pub free : (x : ℕ) → 1 ≤ x → x ≤ length old → assignment_of new x ≡ None
      → (assignment_of old x ≡ None)
      ⊎ ((k : ℕ) × (from ≤ k) × (k < length steps) × ((d : Step) → (slice_index_or steps k d).lit.var ≡ x))
