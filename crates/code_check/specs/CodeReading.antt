-- What the readers of the parts of a code promise; no public clause rests on these alone. Source: this project.
use Rattle.std.specs.Prelude.{Bool, true, false, ℕ, ◌≡◌, ◌≢◌, ◌<◌, ◌≤◌, ◌^◌, List, All, AllPairs, length, take, slice_get, Option, Some}
use Rattle.text_core.specs.Limits.{most_codes, most_code_words, most_goals, most_sets}
use Rattle.text_core.specs.Faults.{IsFirst}
use Rattle.text_core.specs.Names.{is_among}
use Rattle.text_core.specs.declared.faults.Kind.{Kind}
use Rattle.forms.specs.Forms.{Form, list, forms_from, name_in}
use Rattle.machine_table.specs.Grammar.{Each, IsNumberOf}
use Rattle.alpha_encode.specs.declared.instructions.Instr.{Instr}
use Rattle.alpha_machine.specs.Runs.{MayStandAt}
use Rattle.goal_meaning.specs.Views.{GoalTree, InputTree, TargetTree}
use Rattle.goal_reader.specs.Grammar.{IsFirstTextFault, Reads}
use Rattle.code_check.specs.CodeGrammar.{CheckedTree, WritesCode}
use Rattle.code_check.specs.CodeRoles.{CodeRole, IsCodeFaultAs, IsCodesFault, first_place, from_codes, goal_named, is_branch_word, place_role, targets_named, word_named}
use Rattle.code_check.specs.Outcomes.{IsCode}

-- the form has no fault in the role
abbrev pub IsClearCode : CodeRole → Form → Type 0
IsClearCode role form = (place : ℕ) (kind : Kind) → IsCodeFaultAs role form place kind → ⊥

-- the first fault that it has
abbrev pub IsFirstCodeFault : CodeRole → Form → ℕ → Kind → Type 0
IsFirstCodeFault role form = IsFirst (IsCodeFaultAs role form)

-- what was searched is an item of the list, the one of this number
pub record IsFoundAt {X : Type 0} (found : Option X) (xs : List X) (at : ℕ) : Type 0 where
  pub item : X
  pub is : found ≡ Some item
  pub there : slice_get xs at ≡ Some item

-- the word of a form that may be the next of so many, where a branch stands before, or none
pub record IsNextWord (count at : ℕ) (has_branch : Bool) (n : ℕ) : Type 0 where
  pub low : n < 2 ^ 32
  pub stands : MayStandAt count at n
  pub one_branch : has_branch ≡ true → is_branch_word n ≡ false

-- a list of numbers that are the words of a code
pub record WritesWords (form : Form) (words : List ℕ) : Type 0 where
  pub place : ℕ
  pub parts : List Form
  pub is : form ≡ list place (forms_from parts)
  pub each : Each (λ f n. IsNumberOf n f) parts words
  pub low : All (λ n. n < 2 ^ 32) words
  pub instrs : List Instr
  pub is_code : IsCode words instrs
  pub few : length words ≤ most_code_words

-- the name of a target that is a word, the one of this number, which wasn't named before
pub record IsFreshTarget (sets : List TargetTree) (before : List Form) (form : Form) (at : ℕ) : Type 0 where
  pub bytes : List ℕ
  pub named : name_in form ≡ Some bytes
  pub found : IsFoundAt (word_named sets bytes) sets at
  pub fresh : is_among (targets_named before) bytes ≡ false

-- none of the first so many lists of places has a fault
abbrev pub ArePlacesClear : List TargetTree → List Form → ℕ → Type 0
ArePlacesClear sets forms n =
    (k : ℕ) (form : Form) → k < n → slice_get forms k ≡ Some form → IsClearCode (place_role sets (take k forms) form) form

-- the first fault of the first list of a place that has one
pub record IsFirstPlaceFault (sets : List TargetTree) (forms : List Form) (place : ℕ) (kind : Kind) : Type 0 where
  pub at : ℕ
  pub form : Form
  pub there : slice_get forms at ≡ Some form
  pub clear : ArePlacesClear sets forms at
  pub first : IsFirstCodeFault (place_role sets (take at forms) form) form place kind

-- the name of a goal, the one of this number
pub record IsGoalNamed (goals : List GoalTree) (form : Form) (at : ℕ) : Type 0 where
  pub bytes : List ℕ
  pub named : name_in form ≡ Some bytes
  pub found : IsFoundAt (goal_named goals bytes) goals at

-- the goals are few, and so are the targets of each, whose names differ
pub record AreGoals (goals : List GoalTree) : Type 0 where
  pub few : length goals ≤ most_goals
  pub few_sets : All (λ (g : GoalTree). length g.sets ≤ most_sets) goals
  pub targets : All (λ (g : GoalTree). AllPairs (λ (s t : TargetTree). s.name ≢ t.name) g.sets) goals

-- the bytes before the first code among the forms
abbrev pub bytes_before : List ℕ → List Form → List ℕ
bytes_before text forms = take (first_place (length text) (from_codes forms)) text

-- the input and the codes that the forms of a text write
pub record WritesForms (text : List ℕ) (forms : List Form) (checked : CheckedTree) : Type 0 where
  pub goals : Reads (bytes_before text forms) checked.input
  pub each : Each (WritesCode checked.input.goals) (from_codes forms) checked.codes
  pub some : 0 < length checked.codes
  pub few : length checked.codes ≤ most_codes

-- the first fault of the goals before the codes, or of the codes
pub data IsFormsFault (text : List ℕ) (forms : List Form) : ℕ → Kind → Type 0 where
  of_goals : {place : ℕ} {kind : Kind} → IsFirstTextFault (bytes_before text forms) place kind → IsFormsFault text forms place kind
  of_codes : {place : ℕ} {kind : Kind} (input : InputTree) → Reads (bytes_before text forms) input
      → IsFirst (IsCodesFault input.goals (length text) (from_codes forms)) place kind → IsFormsFault text forms place kind
