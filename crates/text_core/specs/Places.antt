-- Where the trees of a text stand. Source: this project.
use Rattle.std.specs.Prelude.{ℕ, ◌+◌, ◌<◌, ◌≤◌, List, [], ◌∷◌, ◌++◌}
use Rattle.text_core.specs.declared.tokens.Token.{Token}
use Rattle.text_core.specs.Trees.{SexpTree, SexpTrees, atom, list, none, more}

abbrev mutual
  -- the tree begins at `low` or later, and ends at `high` or before; so do the parts of a list, behind its parenthesis
  pub IsPlaced : ℕ → ℕ → SexpTree → Type 0
  IsPlaced low high (atom token) = (low ≤ token.place) × (0 < token.len) × (token.place + token.len ≤ high)
  IsPlaced low high (list place parts) = (low ≤ place) × ArePlaced (place + 1) high parts

  -- and each of several ends before the next one begins
  pub ArePlaced : ℕ → ℕ → SexpTrees → Type 0
  ArePlaced low high none = low ≤ high
  ArePlaced low high (more tree trees) = (middle : ℕ) × (IsPlaced low middle tree × ArePlaced middle high trees)

abbrev mutual
  -- the atoms of a tree, in order
  pub atoms_in : SexpTree → List Token
  atoms_in (atom token) = token ∷ []
  atoms_in (list place parts) = atoms_in_all parts

  pub atoms_in_all : SexpTrees → List Token
  atoms_in_all none = []
  atoms_in_all (more tree trees) = atoms_in tree ++ atoms_in_all trees
