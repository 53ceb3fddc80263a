-- Which lines are marked as needed, and the new numbers of all lines, as the walks over lines find them; no public
-- clause rests on them alone. Source: this project.
use Rattle.std.specs.Prelude.{◌≡◌, ℕ, suc, ◌+◌, ◌<◌, ◌≤◌, ◌⊎◌, ◌↔◌, if◌then◌else◌, Bool, false, IsTrue, List, [], ◌∷◌, length}
use Rattle.std.specs.List.{All, Contains, slice_index_or}
use Rattle.cnf_core.specs.declared.line.Line.{Line}
use Rattle.refute_trim.specs.Needed.{IsNeeded}
use Rattle.refute_trim.specs.Trimmed.{places_below}

-- there is a mark at k
abbrev pub IsMarkedAt : List Bool → ℕ → Type 0
IsMarkedAt marks k = IsTrue (slice_index_or marks k false)

-- the old marks, and those of the lemmas behind n clauses that hints name
pub record AreMarked (n : ℕ) (hints : List ℕ) (old new : List Bool) : Type 0 where
  pub size : length new ≡ length old
  pub each : (j : ℕ) → j < length old → IsMarkedAt new j ↔ (IsMarkedAt old j ⊎ Contains hints (n + j + 1))

-- the marks are at the needed lines
abbrev pub AreNeededMarks : List Line → List Bool → Type 0
AreNeededMarks lines marks = (length marks ≡ length lines) × ((k : ℕ) → IsMarkedAt marks k ↔ IsNeeded lines k)

-- the places of marks, the first of which is at a given place
abbrev pub places_from : ℕ → List Bool → List ℕ
places_from first [] = []
places_from first (mark ∷ marks) =
    if mark then first ∷ places_from (suc first) marks else places_from (suc first) marks

abbrev pub places_of : List Bool → List ℕ
places_of marks = places_from 0 marks

-- the ids go up by one, from the one behind n clauses on
abbrev pub HaveIdsBehind : ℕ → List Line → Type 0
HaveIdsBehind n lines = (k : ℕ) (d : Line) → k < length lines → (slice_index_or lines k d).id ≡ n + k + 1

-- the new number of each line, where the lines at some places stay
abbrev pub AreNewNumbers : ℕ → List ℕ → List ℕ → Type 0
AreNewNumbers n places numbers =
    (j : ℕ) → j < length numbers → slice_index_or numbers j 0 ≡ n + places_below places j + 1

-- the line's id and hints are at most m
pub record IsWithinNumbers (m : ℕ) (line : Line) : Type 0 where
  pub id : line.id ≤ m
  pub hints : All (λ h. h ≤ m) line.hints
