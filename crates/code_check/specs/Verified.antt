-- What a check of a code against its goal promises. From Denali (PLDI 2002): the code's terms are matched beside the
-- goal's.
use Rattle.std.specs.Prelude.{◌≡◌, ℕ, ◌<◌, ◌≤◌, ◌^◌, List, ◌++◌, map, Some}
use Rattle.word_ops.specs.Worlds.{World, IsWorld}
use Rattle.word_ops.specs.declared.sorts.Op.{Op}
use Rattle.word_terms.specs.Keys.{op_signature}
use Rattle.word_terms.specs.Tree.{Tree}
use Rattle.egraph.specs.Graph.{Graph, IsGraph}
use Rattle.axiom_library.specs.declared.libraries.Library.{Library}
use Rattle.alpha_encode.specs.Decoded.{decoded}
use Rattle.alpha_encode.specs.declared.instructions.Instr.{Instr}
use Rattle.goal_meaning.specs.Expanded.{expanded}
use Rattle.goal_meaning.specs.Holds.{HoldsFor}
use Rattle.goal_meaning.specs.Views.{GoalTree, InputTree}
use Rattle.saturation.specs.Derives.{IsClash}
use Rattle.saturation.specs.GoalTerms.{present_terms, assumed_pairs, rules_of}
use Rattle.saturation.specs.Grown.{IsGrown, NotBefore}
use Rattle.saturation.specs.Rounds.{StopIs}
use Rattle.graph_meaning.specs.declared.stops.Stop.{Stop}
use Rattle.code_check.specs.Outcomes.{DoesGoal}
use Rattle.code_check.specs.Same.{Same, IsFirstDifferent}
use Rattle.code_check.specs.Terms.{written_terms}
use Rattle.code_check.specs.declared.codes.Code.{Code}
use Rattle.code_check.specs.declared.codes.Verified.{Verified}
use Rattle.code_check.specs.declared.codes.Verified.TheVariants.{Yes, Unknown, NoWorld}

-- the goal's terms, and those that the code writes
abbrev pub compared_terms : GoalTree → List Instr → List (Tree Op)
compared_terms goal instrs = present_terms goal ++ written_terms instrs

-- the rounds that are asked for don't end before round j
abbrev pub ReachesRound : InputTree → GoalTree → List Instr → ℕ → ℕ → Library → ℕ → Type 0
ReachesRound input goal instrs rounds nodes library j =
    (j ≤ rounds) × NotBefore (rules_of library input) (compared_terms goal instrs) (assumed_pairs goal) rounds nodes j

-- j rounds make these constants equal, which differ
abbrev pub IsClashOf : InputTree → GoalTree → List Instr → Library → ℕ → ℕ → ℕ → Type 0
IsClashOf input goal instrs library j a b =
    IsClash (rules_of library input) (compared_terms goal instrs) (assumed_pairs goal) j a b

-- The graph of these terms after as many rounds as are asked for, or the first after which no match is unmet or another
-- round might pass the limit on rows. No two different constants are equal in it.
pub record IsCompared (input : InputTree) (goal : GoalTree) (instrs : List Instr) (rounds nodes : ℕ)
    (library : Library) (g : Graph Op) (j : ℕ) (stop : Stop) : Type 0 where
  pub graph : IsGraph op_signature g
  pub grown : IsGrown (rules_of library input) (compared_terms goal instrs) (assumed_pairs goal) g j
  pub reached : ReachesRound input goal instrs rounds nodes library j
  pub stops : StopIs (rules_of library input) g rounds nodes j stop
  pub no_clash : (i a b : ℕ) → i ≤ j → ¬ IsClashOf input goal instrs library i a b

-- two different constants are equal after a round that is reached, and so axioms and assumptions hold in no world
pub record HasNoWorld (input : InputTree) (goal : GoalTree) (instrs : List Instr) (rounds nodes : ℕ)
    (library : Library) (a b : ℕ) : Type 0 where
  pub round : ℕ
  pub reached : ReachesRound input goal instrs rounds nodes library round
  pub clash : IsClashOf input goal instrs library round a b
  pub nowhere : (world : World) → IsWorld world → HoldsFor input goal world → ⊥

-- the code is the goal: they are the same in the graph, and so the words have the goal's outcome in each world
pub record IsYes (input : InputTree) (goal : GoalTree) (instrs : List Instr) (code : Code) (rounds nodes : ℕ)
    (library : Library) : Type 0 where
  pub graph : Graph Op
  pub round : ℕ
  pub stop : Stop
  pub compared : IsCompared input goal instrs rounds nodes library graph round stop
  pub same : Same graph (expanded goal) instrs code.places
  pub does_goal : DoesGoal input goal code.words code.places

-- an answer that is right
abbrev pub IsVerified : InputTree → GoalTree → List Instr → Code → ℕ → ℕ → Library → Verified → Type 0
IsVerified input goal instrs code rounds nodes library Yes = IsYes input goal instrs code rounds nodes library
IsVerified input goal instrs code rounds nodes library (Unknown j stop part) =
    (g : Graph Op)
    × IsCompared input goal instrs rounds nodes library g j stop
    × IsFirstDifferent g (expanded goal) instrs code.places part
IsVerified input goal instrs code rounds nodes library (NoWorld class a b) =
    HasNoWorld input goal instrs rounds nodes library a b × (class < 2 ^ 31)

-- it is right for the code's instructions
abbrev pub IsRightFor : InputTree → GoalTree → Code → ℕ → ℕ → Library → Verified → Type 0
IsRightFor input goal code rounds nodes library answer =
    (instrs : List Instr) →
    map decoded code.words ≡ map Some instrs →
    IsVerified input goal instrs code rounds nodes library answer

-- two answers of one kind; and where they are unknown, after one number of rounds and for one part
abbrev pub AreOneAnswer : Verified → Verified → Type 0
AreOneAnswer Yes Yes = Unit {0}
AreOneAnswer (Unknown j stop part) (Unknown k reason other) = (j ≡ k) × (part ≡ other)
AreOneAnswer (NoWorld class a b) (NoWorld other x y) = Unit {0}
AreOneAnswer _ _ = ⊥
