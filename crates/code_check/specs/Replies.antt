-- The lines that are printed for the codes of a text, and what is told of them together. Source: this project.
use Rattle.std.specs.Prelude.{Bool, true, false, ℕ, ◌≡◌, ◌<◌, List, [], ◌∷◌, length, map, slice_get, codes, decimal, Some}
use Rattle.std.specs.List.{list_any}
use Rattle.std.specs.Option.{option_map_or}
use Rattle.text_core.specs.LineTexts.{Words, lines_text}
use Rattle.axiom_library.specs.declared.libraries.Library.{Library}
use Rattle.alpha_encode.specs.Decoded.{decoded}
use Rattle.alpha_encode.specs.declared.instructions.Instr.{Instr}
use Rattle.goal_meaning.specs.Views.{GoalTree, InputTree, TargetTree}
use Rattle.graph_meaning.specs.declared.stops.Stop.{Stop}
use Rattle.graph_meaning.specs.declared.stops.Stop.TheVariants.{Quiet, Rounds, Full}
use Rattle.code_check.specs.CodeGrammar.{CheckedTree, ReadsCodes}
use Rattle.code_check.specs.Verified.{IsVerified}
use Rattle.code_check.specs.declared.codes.Code.{Code}
use Rattle.code_check.specs.declared.codes.Part.{Part}
use Rattle.code_check.specs.declared.codes.Part.TheVariants as parts
use Rattle.code_check.specs.declared.codes.Verified.{Verified}
use Rattle.code_check.specs.declared.codes.Verified.TheVariants.{Yes, Unknown, NoWorld}

abbrev pub stop_name : Stop → List ℕ
stop_name Quiet = codes "quiet"
stop_name Rounds = codes "rounds"
stop_name Full = codes "full"

abbrev pub target_name : GoalTree → ℕ → List ℕ
target_name goal i = option_map_or (λ (t : TargetTree). t.name) (slice_get goal.sets i) []

-- trap WORD, guard, exit, set TARGET, or memory
abbrev pub part_words : GoalTree → Part → Words
part_words goal (parts.Trap at) = codes "trap" ∷ decimal at ∷ []
part_words goal parts.Guard = codes "guard" ∷ []
part_words goal parts.Exit = codes "exit" ∷ []
part_words goal (parts.Set i) = codes "set" ∷ target_name goal i ∷ []
part_words goal parts.Memory = codes "memory" ∷ []

-- yes NAME, unknown NAME rounds R stop STOP PART, or noworld NAME A B
abbrev pub reply_words : GoalTree → Verified → Words
reply_words goal Yes = codes "yes" ∷ goal.name ∷ []
reply_words goal (Unknown j stop part) =
    codes "unknown" ∷ goal.name ∷ codes "rounds" ∷ decimal j ∷ codes "stop" ∷ stop_name stop ∷ part_words goal part
reply_words goal (NoWorld class a b) = codes "noworld" ∷ goal.name ∷ decimal a ∷ decimal b ∷ []

-- the line of a code names its goal
abbrev pub code_words : List GoalTree → Code → Verified → Words
code_words goals code answer = option_map_or (λ goal. reply_words goal answer) (slice_get goals code.goal) []

-- a line for each code, in order
abbrev pub reply_lines : List GoalTree → List Code → List Verified → List Words
reply_lines goals (code ∷ codes) (answer ∷ answers) = code_words goals code answer ∷ reply_lines goals codes answers
reply_lines goals _ _ = []

abbrev pub is_unknown : Verified → Bool
is_unknown (Unknown j stop part) = true
is_unknown _ = false

abbrev pub is_no_world : Verified → Bool
is_no_world (NoWorld class a b) = true
is_no_world _ = false

-- the target is one of the goal's
abbrev pub IsPartOf : GoalTree → Part → Type 0
IsPartOf goal (parts.Set i) = i < length goal.sets
IsPartOf goal _ = Unit {0}

abbrev pub CanBeSaid : GoalTree → Verified → Type 0
CanBeSaid goal (Unknown j stop part) = IsPartOf goal part
CanBeSaid goal _ = Unit {0}

-- the answer to a code is right
pub record IsReplyTo (input : InputTree) (rounds nodes : ℕ) (library : Library) (code : Code) (answer : Verified) :
    Type 0 where
  pub goal : GoalTree
  pub of_goal : slice_get input.goals code.goal ≡ Some goal
  pub instrs : List Instr
  pub decode : map decoded code.words ≡ map Some instrs
  pub right : IsVerified input goal instrs code rounds nodes library answer

-- an answer to each of the codes, in order
pub data AreReplies (input : InputTree) (rounds nodes : ℕ) (library : Library) :
    List Code → List Verified → Type 0 where
  none : AreReplies input rounds nodes library [] []
  one_more : {code : Code} {codes : List Code} {answer : Verified} {answers : List Verified}
      → IsReplyTo input rounds nodes library code answer → AreReplies input rounds nodes library codes answers
      → AreReplies input rounds nodes library (code ∷ codes) (answer ∷ answers)

-- a line for each of the codes, with an answer that is right, and whether some are unknown or in no world
pub record AreSaid (input : InputTree) (rounds nodes : ℕ) (library : Library) (codes : List Code) (bytes : List ℕ)
    (unknown no_world : Bool) : Type 0 where
  pub answers : List Verified
  pub each : AreReplies input rounds nodes library codes answers
  pub printed : bytes ≡ lines_text (reply_lines input.goals codes answers)
  pub some_unknown : unknown ≡ list_any is_unknown answers
  pub some_no_world : no_world ≡ list_any is_no_world answers

-- what is told of a text: what is said of its codes
pub record IsTold (text : List ℕ) (rounds nodes : ℕ) (library : Library) (bytes : List ℕ) (unknown no_world : Bool) :
    Type 0 where
  pub checked : CheckedTree
  pub reads : ReadsCodes text checked
  pub said : AreSaid checked.input rounds nodes library checked.codes bytes unknown no_world
