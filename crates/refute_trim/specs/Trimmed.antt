-- The needed lines of a refutation, numbered anew. Source: this project.
use Rattle.std.specs.Prelude.{◌≡◌, ℕ, ◌+◌, ◌-◌, ◌<◌, ◌↔◌, if◌then◌else◌, nat_le, nat_lt, List, length, map, slice_get, Some}
use Rattle.std.specs.List.{AllPairs, AllZip, Contains, filter}
use Rattle.cnf_core.specs.declared.line.Line.{Line}
use Rattle.refute_trim.specs.Needed.{IsNeeded}

-- how many of the places are before j
abbrev pub places_below : List ℕ → ℕ → ℕ
places_below places j = length (filter (λ place. nat_lt place j) places)

-- Where n clauses stand before the lines, and of these the lines at some places stay: a clause keeps its number, and
-- the line at j, whose number is n + j + 1, gets the one behind the clauses and the lines that stay before it.
abbrev pub new_number : ℕ → List ℕ → ℕ → ℕ
new_number n places number =
    if nat_le number n then number else n + places_below places (number - n - 1) + 1

-- the same lemma, with its id and its hints as they are numbered then
pub record IsRenumbered (n : ℕ) (places : List ℕ) (old new : Line) : Type 0 where
  pub lemma : new.lits ≡ old.lits
  pub id : new.id ≡ new_number n places old.id
  pub hints : new.hints ≡ map (new_number n places) old.hints

-- the line that stands at a place, renumbered
pub record IsLineFrom (n : ℕ) (places : List ℕ) (lines : List Line) (place : ℕ) (new : Line) : Type 0 where
  pub old : Line
  pub there : slice_get lines place ≡ Some old
  pub renumbered : IsRenumbered n places old new

-- The new lines are the needed ones in their order, renumbered; n is the number of the formula's clauses, and the
-- places are those where needed lines stand.
pub record AreTrimmed (n : ℕ) (lines new : List Line) : Type 0 where
  pub places : List ℕ
  pub rising : AllPairs (λ p q. p < q) places
  pub exactly : (k : ℕ) → Contains places k ↔ IsNeeded lines k
  pub from : AllZip (IsLineFrom n places lines) places new

-- each line but the last is a hint of a later one
abbrev pub AllButLastAreHints : List Line → Type 0
AllButLastAreHints lines =
    (k : ℕ) (line : Line) → slice_get lines k ≡ Some line → k + 1 < length lines
    → (m : ℕ) × (later : Line) × (k < m) × (slice_get lines m ≡ Some later) × Contains later.hints line.id
