-- The place of the greatest score: this project.
use Rattle.std.specs.Prelude.{ℕ, List, ◌<◌, ◌≤◌, slice_index}

-- among the first `count` scores none is above the one at the place, and each before it is below it
pub record IsBusiest (scores : List ℕ) (count place : ℕ) : Type 0 where
  pub within : place < count
  pub most : (k : ℕ) → k < count → slice_index scores k ≤ slice_index scores place
  pub first : (k : ℕ) → k < place → slice_index scores k < slice_index scores place
