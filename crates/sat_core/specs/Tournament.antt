-- Variables with scores in a tournament, whose top is the best of them: a heap's order over a tree that stands still.
-- This project; no public clause cites it.
use Rattle.std.specs.Prelude.{◌≡◌, ◌≢◌, ℕ, ◌+◌, ◌-◌, ◌*◌, ◌^◌, ◌<◌, ◌≤◌, ◌⊎◌, List, length, drop}
use Rattle.std.specs.List.{slice_index_or}
use Rattle.sat_core.specs.declared.tournament.Player.{Player}

-- what stands for a variable that doesn't play
abbrev pub nobody : Player
nobody = record { score = 0; var = 2 ^ 32 - 1 }

-- what stands past the end of a list
abbrev pub no_player : Player
no_player = record { score = 0; var = 0 }

-- the player at a place
abbrev pub player_at : List Player → ℕ → Player
player_at players k = slice_index_or players k no_player

-- a isn't better than b: it has the lesser score, or the same score and no lesser number
abbrev pub IsNoBetter : Player → Player → Type 0
IsNoBetter a b = (a.score < b.score) ⊎ ((a.score ≡ b.score) × (b.var ≤ a.var))

-- one of two, and neither is better
pub record IsWinner (a b winner : Player) : Type 0 where
  pub among : (winner ≡ a) ⊎ (winner ≡ b)
  pub first : IsNoBetter a winner
  pub second : IsNoBetter b winner

-- each node from this one on, below the variables and other than one, has the winner of the two below it
abbrev pub ArePlayed : ℕ → ℕ → ℕ → List Player → Type 0
ArePlayed from but leaves nodes =
    (k : ℕ) → from ≤ k → k < leaves → k ≢ but
    → IsWinner (player_at nodes (2 * k)) (player_at nodes (2 * k + 1)) (player_at nodes k)

-- each variable plays for itself or not at all
abbrev pub AreOwn : List Player → Type 0
AreOwn players =
    (k : ℕ) → k < length players → (player_at players k ≡ nobody) ⊎ ((player_at players k).var ≡ k + 1)

-- the nodes of a tournament of so many variables, from the top, which is the node 1
pub record IsTournament (leaves : ℕ) (nodes : List Player) : Type 0 where
  pub size : length nodes ≡ 2 * leaves
  pub few : leaves < 2 ^ 29
  pub played : ArePlayed 1 0 leaves nodes
  pub own : AreOwn (drop leaves nodes)

-- the variable plays, and none is better
pub record IsBest (players : List Player) (x : ℕ) : Type 0 where
  pub above : 1 ≤ x
  pub within : x ≤ length players
  pub plays : (player_at players (x - 1)).var ≡ x
  pub best : (k : ℕ) → k < length players → IsNoBetter (player_at players k) (player_at players (x - 1))

-- nobody plays
abbrev pub IsOver : List Player → Type 0
IsOver players = (k : ℕ) → k < length players → player_at players k ≡ nobody
