-- What a form of a code can be read as, its role, and which faults of its own a form has in each role. Source: this
-- project.
use Rattle.std.specs.Prelude.{Bool, true, false, ℕ, zero, suc, ◌≡◌, ◌<◌, ◌^◌, ◌&&◌, not, nat_lt, nat_le, if◌then◌else◌, List, [], ◌∷◌, length, take, drop, get_or, slice_get, filter_map, find, codes, bytes_eq, is_some, Option, Some, None, option_map}
use Rattle.std.specs.Option.{option_map_or}
use Rattle.std.specs.List.{list_any}
use Rattle.text_core.specs.Limits.{most_codes, most_code_words}
use Rattle.text_core.specs.Names.{is_among}
use Rattle.text_core.specs.declared.faults.Kind.{Kind}
use Rattle.text_core.specs.declared.faults.Kind.TheVariants.{BadForm, UnknownName, Twice, BadRegister, LimitPassed, BadWord}
use Rattle.forms.specs.Forms.{Form, parts_of, place_of, name_in, number_in, register_in, head_in, is_list}
use Rattle.forms.specs.Faults.{IsFault}
use Rattle.alpha_encode.specs.Decoded.{decoded}
use Rattle.alpha_machine.specs.Runs.{MayStandAt}
use Rattle.goal_meaning.specs.Outcomes.{is_memory}
use Rattle.goal_meaning.specs.Views.{GoalTree, TargetTree}
use Rattle.goal_reader.specs.Roles.{register_number, second_name}
use Rattle.code_check.specs.Codes.{is_other}
use Rattle.code_check.specs.Compared.{branch_of}

-- ---- what the forms say

-- the form is a list whose first part is this name
abbrev pub has_head : List ℕ → Form → Bool
has_head word form = option_map_or (bytes_eq word) (head_in form) false

abbrev pub goal_named : List GoalTree → List ℕ → Option GoalTree
goal_named goals name = find (λ (g : GoalTree). bytes_eq g.name name) goals

-- the targets of the goal that a code names; a goal that isn't known has none
abbrev pub sets_in : List GoalTree → Form → List TargetTree
sets_in goals form =
    option_map_or (λ (g : GoalTree). g.sets) (option_map_or (goal_named goals) (second_name form) None) []

-- the lists of places stand behind the keyword, the name and the words
abbrev pub places_in : Form → List Form
places_in form = drop 3 (parts_of form)

-- the name in the list of a place, where the list has all its parts
abbrev pub target_in : Form → Option (List ℕ)
target_in form =
    if has_head (codes "at") form && nat_le 3 (length (parts_of form)) then second_name form else None

abbrev pub targets_named : List Form → List (List ℕ)
targets_named forms = filter_map target_in forms

-- the target is a word and has the name
abbrev pub is_word_named : List ℕ → TargetTree → Bool
is_word_named name t = not (is_memory t) && bytes_eq t.name name

abbrev pub word_named : List TargetTree → List ℕ → Option TargetTree
word_named sets name = find (is_word_named name) sets

-- the pin of the target that the list of a place names
abbrev pub pin_named : List TargetTree → Form → Option ℕ
pin_named sets form =
    option_map_or (λ (t : TargetTree). t.pin) (option_map_or (word_named sets) (second_name form) None) None

-- the target is a word, and no list of a place names it
abbrev pub has_no_place : List Form → TargetTree → Bool
has_no_place forms t = not (is_memory t) && not (is_among (targets_named forms) t.name)

abbrev pub lacks_place : List TargetTree → List Form → Bool
lacks_place sets forms = list_any (has_no_place forms) sets

-- the number is the word of a branch
abbrev pub is_branch_word : ℕ → Bool
is_branch_word n = is_some (branch_of (decoded n))

abbrev pub is_branch : Form → Bool
is_branch form = option_map_or is_branch_word (number_in form) false

-- ---- roles

pub data CodeRole : Type 0 where
  -- ( code NAME ( {NUMBER} ) {( at NAME REGISTER )} ), for one of these goals
  a_code : List GoalTree → CodeRole
  -- the name of one of them
  goal_name : List GoalTree → CodeRole
  -- the list of words
  word_list : CodeRole
  -- one of so many words, behind these
  a_word : ℕ → List Form → CodeRole
  -- ( at NAME REGISTER ), for one of these targets, and behind places of targets of these names
  a_place : List TargetTree → List (List ℕ) → CodeRole
  target_name : List TargetTree → List (List ℕ) → CodeRole
  -- a register from 0 to 30, which is the pin where there is one
  a_register : Option ℕ → CodeRole
  -- what the grammar doesn't have there, and what stands past a limit
  wrong : CodeRole
  past : CodeRole

pub data IsOwnCodeFault : CodeRole → Form → Kind → Type 0 where
  short_code : {goals : List GoalTree} {form : Form} → length (parts_of form) < 3 → IsOwnCodeFault (a_code goals) form BadForm
  no_place : {goals : List GoalTree} {form : Form}
      → lacks_place (sets_in goals form) (places_in form) ≡ true → IsOwnCodeFault (a_code goals) form BadForm
  no_goal_name : {goals : List GoalTree} {form : Form} → name_in form ≡ None → IsOwnCodeFault (goal_name goals) form BadForm
  unknown_goal : {goals : List GoalTree} {form : Form} {name : List ℕ}
      → name_in form ≡ Some name → goal_named goals name ≡ None → IsOwnCodeFault (goal_name goals) form UnknownName
  no_words : {form : Form} → is_list form ≡ false → IsOwnCodeFault word_list form BadForm
  -- words: each an instruction, one branch at most, and that to one word behind the last
  no_number : {count : ℕ} {before : List Form} {form : Form}
      → number_in form ≡ None → IsOwnCodeFault (a_word count before) form BadForm
  stray_word : {count : ℕ} {before : List Form} {form : Form} {n : ℕ}
      → number_in form ≡ Some n → ¬ ((n < 2 ^ 32) × MayStandAt count (length before) n)
      → IsOwnCodeFault (a_word count before) form BadWord
  second_branch : {count : ℕ} {before : List Form} {form : Form}
      → is_branch form ≡ true → list_any is_branch before ≡ true → IsOwnCodeFault (a_word count before) form BadWord
  -- places
  short_place : {sets : List TargetTree} {given : List (List ℕ)} {form : Form}
      → length (parts_of form) < 3 → IsOwnCodeFault (a_place sets given) form BadForm
  no_target_name : {sets : List TargetTree} {given : List (List ℕ)} {form : Form}
      → name_in form ≡ None → IsOwnCodeFault (target_name sets given) form BadForm
  unknown_target : {sets : List TargetTree} {given : List (List ℕ)} {form : Form} {name : List ℕ}
      → name_in form ≡ Some name → word_named sets name ≡ None → IsOwnCodeFault (target_name sets given) form UnknownName
  target_given : {sets : List TargetTree} {given : List (List ℕ)} {form : Form} {name : List ℕ}
      → name_in form ≡ Some name → is_among given name ≡ true → IsOwnCodeFault (target_name sets given) form Twice
  no_register : {pin : Option ℕ} {form : Form} → register_in form ≡ None → IsOwnCodeFault (a_register pin) form BadForm
  bad_register : {pin : Option ℕ} {form : Form} {bytes : List ℕ}
      → register_in form ≡ Some bytes → register_number bytes ≡ None → IsOwnCodeFault (a_register pin) form BadRegister
  other_register : {pin : Option ℕ} {form : Form} {bytes : List ℕ} {register : ℕ}
      → register_in form ≡ Some bytes → register_number bytes ≡ Some register → is_other pin register ≡ true
      → IsOwnCodeFault (a_register pin) form BadRegister
  wrong_part : {form : Form} → IsOwnCodeFault wrong form BadForm
  past_limit : {form : Form} → IsOwnCodeFault past form LimitPassed

-- ---- the roles of parts

abbrev pub place_role : List TargetTree → List Form → Form → CodeRole
place_role sets before form = if has_head (codes "at") form then a_place sets (targets_named before) else wrong

abbrev pub code_part : List GoalTree → Form → ℕ → Option CodeRole
code_part goals form zero = None
code_part goals form (suc zero) = Some (goal_name goals)
code_part goals form (suc (suc zero)) = Some word_list
code_part goals form (suc (suc (suc at))) =
    option_map (place_role (sets_in goals form) (take at (places_in form))) (slice_get (places_in form) at)

abbrev pub place_part : List TargetTree → List (List ℕ) → Form → ℕ → Option CodeRole
place_part sets given form zero = None
place_part sets given form (suc at) =
    Some (get_or (target_name sets given ∷ a_register (pin_named sets form) ∷ []) at wrong)

abbrev pub word_part : Form → ℕ → CodeRole
word_part form at = if nat_lt at most_code_words then a_word (length (parts_of form)) (take at (parts_of form)) else past

abbrev pub code_part_role : CodeRole → Form → ℕ → Option CodeRole
code_part_role (a_code goals) form at = code_part goals form at
code_part_role word_list form at = Some (word_part form at)
code_part_role (a_place sets given) form at = place_part sets given form at
code_part_role _ form at = None

abbrev pub IsCodeFaultAs : CodeRole → Form → ℕ → Kind → Type 0
IsCodeFaultAs role form = IsFault IsOwnCodeFault code_part_role role form

-- ---- the codes of a text

abbrev pub is_code : Form → Bool
is_code form = has_head (codes "code") form

-- the forms from the first code on
abbrev pub from_codes : List Form → List Form
from_codes [] = []
from_codes (form ∷ forms) = if is_code form then form ∷ forms else from_codes forms

-- the place of the first of the forms, or the size where there is none
abbrev pub first_place : ℕ → List Form → ℕ
first_place size [] = size
first_place size (form ∷ forms) = place_of form

-- a form behind so many, which are codes, or of which one has a fault that comes before
abbrev pub top_role : List GoalTree → ℕ → Form → CodeRole
top_role goals at form = if is_code form then (if nat_lt at most_codes then a_code goals else past) else wrong

-- a fault of the codes: none, at the text's length, or one in a form
pub data IsCodesFault (goals : List GoalTree) (size : ℕ) (forms : List Form) : ℕ → Kind → Type 0 where
  no_code : {place : ℕ} → forms ≡ [] → place ≡ size → IsCodesFault goals size forms place BadForm
  in_code : {place : ℕ} {kind : Kind} (at : ℕ) (form : Form)
      → slice_get forms at ≡ Some form → IsCodeFaultAs (top_role goals at form) form place kind
      → IsCodesFault goals size forms place kind
