-- The E-graph after a number of rounds, and when rounds end. From Denali (PLDI 2002), its matching phase; when rounds
-- end is this project's.
use Rattle.std.specs.Prelude.{◌≡◌, ◌≢◌, ℕ, ◌+◌, ◌<◌, ◌≤◌, ◌⊎◌, ◌↔◌, List, [], length, All, Contains, AllPairs}
use Rattle.word_ops.specs.declared.sorts.Op.{Op}
use Rattle.word_terms.specs.Keys.{op_signature}
use Rattle.word_terms.specs.Tree.{Tree}
use Rattle.axiom_base.specs.Schemes.{AddedRules, Scheme, schemes}
use Rattle.egraph.specs.Graph.{Graph, Agree, HasClass, IsGraph}
use Rattle.pattern_match.specs.Classes.{IsClass, HaveOneClass}
use Rattle.pattern_match.specs.Matches.{IsUnmetOf, AreNeeds}
use Rattle.saturation.specs.Derives.{Derives, Pair}

-- each class is that of a term
abbrev pub AreInhabited : {O : Type 0} → Graph O → Type 0
AreInhabited {O} g = (c : ℕ) → HasClass g c → ((t : Tree O) × IsClass g [] t c)

-- no row stands twice, rows name classes of the graph, each class is that of a term, and terms have one class exactly
-- where j rounds make them equal
pub record IsGrown (added : AddedRules) (present : List (Tree Op)) (equal : List Pair) (g : Graph Op) (j : ℕ) :
    Type 0 where
  pub distinct : AllPairs (λ r t. ¬ Agree r t) g.rows
  pub operands : All (λ r. All (HasClass g) r.operands) g.rows
  pub inhabited : AreInhabited g
  pub exact : (t u : Tree Op) → HaveOneClass g [] t u ↔ Derives added present equal j t u

-- no match of these schemes is unmet
abbrev pub AreMet : Graph Op → List Scheme → Type 0
AreMet g ss = (s : Scheme) → Contains ss s → (places : List ℕ) → ¬ IsUnmetOf g s places

-- no match is unmet
abbrev pub IsQuiet : AddedRules → Graph Op → Type 0
IsQuiet added g = (s : Scheme) → Contains (schemes added) s → (places : List ℕ) → ¬ IsUnmetOf g s places

-- the rows and what the unmet matches need pass the limit
pub record IsFull (added : AddedRules) (g : Graph Op) (nodes : ℕ) : Type 0 where
  pub need : ℕ
  pub is : AreNeeds g (schemes added) need
  pub passed : nodes < length g.rows + need

-- the rows and what the unmet matches need don't pass the limit
pub record IsWithin (added : AddedRules) (g : Graph Op) (nodes : ℕ) : Type 0 where
  pub need : ℕ
  pub is : AreNeeds g (schemes added) need
  pub within : length g.rows + need ≤ nodes

-- the rounds end with this graph, which is the one after j of them
abbrev pub Ends : AddedRules → Graph Op → ℕ → ℕ → ℕ → Type 0
Ends added g rounds nodes j = IsQuiet added g ⊎ (j ≡ rounds) ⊎ IsFull added g nodes

-- the graph after j rounds, with which they end, or go on
pub record Halts (added : AddedRules) (present : List (Tree Op)) (equal : List Pair) (rounds nodes j : ℕ) :
    Type 0 where
  pub graph : Graph Op
  pub is_graph : IsGraph op_signature graph
  pub grown : IsGrown added present equal graph j
  pub ends : Ends added graph rounds nodes j

pub record GoesOnGrowing (added : AddedRules) (present : List (Tree Op)) (equal : List Pair) (rounds nodes j : ℕ) :
    Type 0 where
  pub graph : Graph Op
  pub is_graph : IsGraph op_signature graph
  pub grown : IsGrown added present equal graph j
  pub unmet : ¬ IsQuiet added graph
  pub asked : j ≢ rounds
  pub within : IsWithin added graph nodes

-- no number of rounds below j is their end
abbrev pub NotBefore : AddedRules → List (Tree Op) → List Pair → ℕ → ℕ → ℕ → Type 0
NotBefore added present equal rounds nodes j =
    (i : ℕ) → i < j → GoesOnGrowing added present equal rounds nodes i
