-- A list of lists that is kept as one list and the places where its parts end: this project's own store of clauses.
use Rattle.std.specs.Prelude.{◌≡◌, ℕ, ◌≤◌, List, [], ◌∷◌, slice_range}

-- the parts of a list from a place on, by the places where they end
abbrev pub pieces : {X : Type 0} → ℕ → List ℕ → List X → List (List X)
pieces from [] xs = []
pieces from (end ∷ ends) xs = slice_range xs from end ∷ pieces end ends xs

-- the places rise from the given one, and the last of them is n
abbrev pub AreEnds : ℕ → List ℕ → ℕ → Type 0
AreEnds from [] n = from ≡ n
AreEnds from (end ∷ ends) n = (from ≤ end) × AreEnds end ends n
