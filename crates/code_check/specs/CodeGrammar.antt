-- The grammar of codes: which forms write them, which texts they stand in, and the first fault of a text. Source: this
-- project.
use Rattle.std.specs.Prelude.{ℕ, ◌≡◌, ◌<◌, ◌≤◌, ◌^◌, false, All, List, [], ◌∷◌, take, length, codes, slice_get, Some}
use Rattle.text_core.specs.Limits.{most_codes}
use Rattle.text_core.specs.Faults.{IsFirst}
use Rattle.text_core.specs.Trees.{SexpTrees}
use Rattle.text_core.specs.declared.faults.Kind.{Kind}
use Rattle.forms.specs.Forms.{Form, list, forms_from, forms_list, forms_of}
use Rattle.forms.specs.Reading.{IsFirstReadFault, TextHasTrees}
use Rattle.machine_table.specs.Grammar.{Each, IsListOf, IsNameOf, IsNumberOf}
use Rattle.goal_meaning.specs.Outcomes.{is_memory}
use Rattle.goal_meaning.specs.Views.{GoalTree, InputTree, TargetTree, input_view}
use Rattle.goal_reader.specs.Grammar.{IsFirstTextFault, IsRegister, Reads}
use Rattle.code_check.specs.CodeRoles.{IsCodesFault, first_place, from_codes}
use Rattle.code_check.specs.Codes.{FitsGoal, is_other}
use Rattle.code_check.specs.declared.codes.At.{At}
use Rattle.code_check.specs.declared.codes.Checked.{Checked}
use Rattle.code_check.specs.declared.codes.Code.{Code}

-- ( at NAME REGISTER ): a target that is a word, in its pin, where it has one
pub record WritesPlace (sets : List TargetTree) (form : Form) (p : At) : Type 0 where
  pub first : Form
  pub second : Form
  pub is : IsListOf (codes "at") (first ∷ second ∷ []) form
  pub target : TargetTree
  pub there : slice_get sets p.set ≡ Some target
  pub is_word : is_memory target ≡ false
  pub named : IsNameOf target.name first
  pub placed : IsRegister p.reg second
  pub pinned : is_other target.pin p.reg ≡ false

-- ( code NAME ( {NUMBER} ) {( at NAME REGISTER )} )
pub record WritesCode (goals : List GoalTree) (form : Form) (code : Code) : Type 0 where
  pub goal : GoalTree
  pub of_goal : slice_get goals code.goal ≡ Some goal
  pub name_form : Form
  pub words_place : ℕ
  pub words : List Form
  pub places : List Form
  pub is : IsListOf (codes "code") (name_form ∷ list words_place (forms_from words) ∷ places) form
  pub named : IsNameOf goal.name name_form
  pub each_word : Each (λ f n. IsNumberOf n f) words code.words
  pub low : All (λ n. n < 2 ^ 32) code.words
  pub each_place : Each (WritesPlace goal.sets) places code.places
  pub fits : FitsGoal goal code

-- an input and codes for its goals
pub record CheckedTree : Type 0 where
  pub input : InputTree
  pub codes : List Code

abbrev pub checked_view : Checked → CheckedTree
checked_view c = record { input = input_view c.input; codes = c.codes }

-- the forms of a text from the first code on
abbrev pub code_forms : List ℕ → SexpTrees → List Form
code_forms text trees = from_codes (forms_list (forms_of text trees))

-- the bytes before the first code
abbrev pub goal_bytes : List ℕ → SexpTrees → List ℕ
goal_bytes text trees = take (first_place (length text) (code_forms text trees)) text

-- a text of goals, and behind it codes
pub record ReadsCodes (text : List ℕ) (checked : CheckedTree) : Type 0 where
  pub trees : SexpTrees
  pub has : TextHasTrees text trees
  pub goals : Reads (goal_bytes text trees) checked.input
  pub each : Each (WritesCode checked.input.goals) (code_forms text trees) checked.codes
  pub some : 0 < length checked.codes
  pub few : length checked.codes ≤ most_codes

-- The first fault of a text: of its bytes and parentheses, else of its goals, else of its codes.
pub data IsFirstCodesFault (text : List ℕ) : ℕ → Kind → Type 0 where
  in_passes : {place : ℕ} {kind : Kind} → IsFirstReadFault text place kind → IsFirstCodesFault text place kind
  in_goals : {place : ℕ} {kind : Kind} (trees : SexpTrees) → TextHasTrees text trees
      → IsFirstTextFault (goal_bytes text trees) place kind
      → IsFirstCodesFault text place kind
  in_codes : {place : ℕ} {kind : Kind} (trees : SexpTrees) (input : InputTree) → TextHasTrees text trees
      → Reads (goal_bytes text trees) input
      → IsFirst (IsCodesFault input.goals (length text) (code_forms text trees)) place kind
      → IsFirstCodesFault text place kind
