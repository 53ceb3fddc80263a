use Rattle.std.proofs.Common.{◌≡◌, List, [], ◌∷◌, map, Some, None, slice_get, ap, arith, Contains}
use Rattle.goal_meaning.specs.Views.{goal_view}
use Rattle.goal_meaning.specs.declared.goals.Goal.{Goal}

-- the first goal of some is among them
pub first_there : (xs : List Goal) (g : Goal) → Some g ≡ slice_get xs 0 → Contains (map goal_view xs) (goal_view g)
first_there [] g e = absurd (let k : Some g ≡ None = e in cc)
first_there (x ∷ xs) g e = let k : x ≡ g = (let is : Some g ≡ Some x = e in cc) in (0, omega arith, ap goal_view k)
