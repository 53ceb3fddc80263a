-- What rounds together give, why they end, and what a refusal shows. From Denali (PLDI 2002), its matching phase; when
-- rounds end is this project's.
use Rattle.std.specs.Prelude.{◌≡◌, ◌≢◌, ℕ, ◌<◌, ◌≤◌, ◌^◌, List, [], length, slice_index}
use Rattle.word_ops.specs.Worlds.{World, IsWorld}
use Rattle.word_ops.specs.declared.sorts.Op.{Op}
use Rattle.word_terms.specs.Tree.{Tree}
use Rattle.word_terms.specs.Keys.{op_signature}
use Rattle.axiom_base.specs.Schemes.{AddedRules}
use Rattle.egraph.specs.Graph.{Graph, IsGraph}
use Rattle.pattern_match.specs.Classes.{IsClass}
use Rattle.saturation.specs.Derives.{IsClash, Pair}
use Rattle.saturation.specs.Grown.{IsGrown, IsQuiet, IsFull, NotBefore}
use Rattle.saturation.specs.GraphStands.{GraphStands, RulesHold}
use Rattle.graph_meaning.specs.declared.stops.Stop.{Stop}
use Rattle.graph_meaning.specs.declared.stops.Stop.TheVariants.{Quiet, Rounds, Full}
use Rattle.saturation.specs.declared.faults.SaturateFault.{SaturateFault}
use Rattle.saturation.specs.declared.faults.SaturateFault.TheVariants.{NoWorld, Memory}

-- why the rounds end with this graph, the one after j of them
abbrev pub StopIs : AddedRules → Graph Op → ℕ → ℕ → ℕ → Stop → Type 0
StopIs added g rounds nodes j Quiet = IsQuiet added g
StopIs added g rounds nodes j Rounds = (¬ IsQuiet added g) × (j ≡ rounds)
StopIs added g rounds nodes j Full = (¬ IsQuiet added g) × (j ≢ rounds) × IsFull added g nodes

-- the graph is the one after j rounds from `start`, and no smaller number of rounds is their end
pub record IsAfter (added : AddedRules) (start : Graph Op) (rounds nodes : ℕ) (g : Graph Op) (j : ℕ) : Type 0 where
  pub grown :
      (present : List (Tree Op)) (equal : List Pair) →
      IsGrown added present equal start 0 →
      IsGrown added present equal g j × NotBefore added present equal rounds nodes j

pub record IsSaturated (added : AddedRules) (start : Graph Op) (rounds nodes : ℕ) (g : Graph Op) (j : ℕ)
    (stop : Stop) : Type 0 where
  pub after : IsAfter added start rounds nodes g j
  pub stops : StopIs added g rounds nodes j stop
  pub graph : IsGraph op_signature g

-- whatever the first graph stands for, the second one stands for
abbrev pub KeepsStanding : AddedRules → Graph Op → Graph Op → Type 0
KeepsStanding added old new =
    (names : ℕ → List ℕ) (equal : List Pair) (terms : List (Tree Op)) →
    GraphStands names added equal terms old →
    GraphStands names added equal terms new

-- a term that has a class has, after the rounds, the class that this one then is in
abbrev pub KeepsClasses : Graph Op → Graph Op → Type 0
KeepsClasses old new =
    IsGraph op_signature old →
    (length old.current ≤ length new.current)
    × ((t : Tree Op) (c : ℕ) → IsClass old [] t c → IsClass new [] t (slice_index new.current c))

-- two different constants are equal after a number of rounds that the rounds reach
pub record IsImpossible (added : AddedRules) (start : Graph Op) (rounds nodes x y : ℕ) : Type 0 where
  pub round : ℕ
  pub asked : round ≤ rounds
  pub clash :
      (present : List (Tree Op)) (equal : List Pair) →
      IsGrown added present equal start 0 →
      IsClash added present equal round x y × NotBefore added present equal rounds nodes round

abbrev pub SaturateFaultIs : AddedRules → Graph Op → ℕ → ℕ → SaturateFault → Type 0
SaturateFaultIs added start rounds nodes (NoWorld class x y) = IsImpossible added start rounds nodes x y
SaturateFaultIs added start rounds nodes Memory = Unit {0}

-- axioms and pairs hold in no world where the graph stands for anything
abbrev pub IsHopeless : AddedRules → Graph Op → SaturateFault → Type 0
IsHopeless added graph (NoWorld class x y) =
    (names : ℕ → List ℕ) (equal : List Pair) (terms : List (Tree Op)) →
    GraphStands names added equal terms graph →
    (world : World) →
    IsWorld world →
    RulesHold world names added equal →
    ⊥
IsHopeless added graph Memory = Unit {0}

-- the class that is named was made, so its number is below 2^31
abbrev pub RoundsNameLowClass : SaturateFault → Type 0
RoundsNameLowClass (NoWorld class x y) = class < 2 ^ 31
RoundsNameLowClass Memory = Unit {0}
