-- What a form of a lift can be read as, its role, and which faults of its own a form has in each role. Source: this
-- project.
use Rattle.std.specs.Prelude.{Bool, true, false, ℕ, zero, suc, ◌≡◌, ◌<◌, ◌^◌, ◌&&◌, nat_lt, not, if◌then◌else◌, List, [], ◌∷◌, ◌++◌, length, take, slice_get, filter_map, codes, Option, Some, None, option_map, is_some}
use Rattle.std.specs.Option.{option_map_or}
use Rattle.text_core.specs.Limits.{most_inputs, most_assumes, most_sets}
use Rattle.text_core.specs.declared.faults.Kind.{Kind}
use Rattle.text_core.specs.declared.faults.Kind.TheVariants.{BadForm, BadWord, LimitPassed}
use Rattle.forms.specs.Forms.{Form, is_list, number_in, part, parts_of}
use Rattle.forms.specs.Faults.{IsFault}
use Rattle.machine_table.specs.Roles.{IsMachineFault, has_head}
use Rattle.alpha_encode.specs.Decoded.{decoded}
use Rattle.goal_meaning.specs.Rules.{has_register}
use Rattle.goal_reader.specs.Roles.{IsOwn, fresh_name, fresh_register, names_given, register_of, registers_in}
use Rattle.code_check.specs.Compared.{branch_of}
use Rattle.code_lift.specs.Lifted.{Lifting, inputs_read, lifted, sets_of}
use Rattle.code_lift.specs.Limits.{most_lifts, most_lift_words}

-- ---- what the forms say

-- the number is the word of an instruction that is no branch
abbrev pub is_plain_word : ℕ → Bool
is_plain_word n = nat_lt n (2 ^ 32) && (is_some (decoded n) && not (is_some (branch_of (decoded n))))

-- what is known behind the words that the forms write
abbrev pub lifted_in : List Form → Lifting
lifted_in forms = lifted (filter_map number_in forms)

abbrev pub has_many_inputs : Lifting → Bool
has_many_inputs s = nat_lt most_inputs (length (inputs_read s))

abbrev pub has_many_assumes : Lifting → Bool
has_many_assumes s = nat_lt most_assumes (length s.addresses)

-- the registers, each once, behind those before, in the order in which they come first
abbrev pub each_once : List ℕ → List ℕ → List ℕ
each_once before [] = before
each_once before (r ∷ rs) = each_once (if has_register before r then before else before ++ r ∷ []) rs

abbrev pub has_many_sets : Lifting → List ℕ → Bool
has_many_sets s out = nat_lt most_sets (length (sets_of s (each_once [] out)))

-- the words stand in the third part of a lift, and the registers that count afterwards in the fourth
abbrev pub word_forms : Form → List Form
word_forms form = option_map_or parts_of (part 2 form) []

abbrev pub out_registers : Form → List ℕ
out_registers form = option_map_or (λ out. registers_in (parts_of out)) (part 3 form) []

-- the registers of inputs and of `out`, which a pool doesn't have
abbrev pub taken_in : Form → List ℕ
taken_in form = inputs_read (lifted_in (word_forms form)) ++ out_registers form

-- ---- roles

pub data LiftRole : Type 0 where
  -- ( lift NAME ( {NUMBER} ) ( out {REGISTER} ) [( pool {REGISTER} )] ), behind lifts of these names
  a_lift : List (List ℕ) → LiftRole
  -- a name that isn't one of these
  lift_name : List (List ℕ) → LiftRole
  -- the list of words, and one of them, behind these
  word_list : LiftRole
  a_word : List Form → LiftRole
  -- ( out {REGISTER} ), behind these words, and one of its registers, behind these
  an_out : List Form → LiftRole
  out_register : List Form → List Form → LiftRole
  -- ( pool {REGISTER} ), beside registers that are taken, and one of its registers, which isn't one of these
  a_pool : List ℕ → LiftRole
  pool_register : List ℕ → LiftRole
  -- what the grammar doesn't have there, and what stands past a limit
  wrong : LiftRole
  past : LiftRole

pub data IsOwnLiftFault : LiftRole → Form → Kind → Type 0 where
  -- a missing part is a fault of its list
  short_lift : {names : List (List ℕ)} {form : Form}
      → length (parts_of form) < 4 → IsOwnLiftFault (a_lift names) form BadForm
  name_fault : {names : List (List ℕ)} {form : Form} {kind : Kind}
      → IsOwn (fresh_name names) form kind → IsOwnLiftFault (lift_name names) form kind
  no_words : {form : Form} → is_list form ≡ false → IsOwnLiftFault word_list form BadForm
  -- words: each an instruction and no branch, and with those before not more inputs or assumes than a goal may have
  no_number : {before : List Form} {form : Form} → number_in form ≡ None → IsOwnLiftFault (a_word before) form BadForm
  stray_word : {before : List Form} {form : Form} {n : ℕ}
      → number_in form ≡ Some n → is_plain_word n ≡ false → IsOwnLiftFault (a_word before) form BadWord
  many_inputs : {before : List Form} {form : Form} {n : ℕ}
      → number_in form ≡ Some n → is_plain_word n ≡ true → has_many_inputs (lifted_in (before ++ form ∷ [])) ≡ true
      → IsOwnLiftFault (a_word before) form LimitPassed
  many_assumes : {before : List Form} {form : Form} {n : ℕ}
      → number_in form ≡ Some n → is_plain_word n ≡ true → has_many_assumes (lifted_in (before ++ form ∷ [])) ≡ true
      → IsOwnLiftFault (a_word before) form LimitPassed
  -- registers that count: each once, and with those before not more sets than a goal may have
  out_fault : {words before : List Form} {form : Form} {kind : Kind}
      → IsOwn (fresh_register (registers_in before)) form kind → IsOwnLiftFault (out_register words before) form kind
  many_sets : {words before : List Form} {form : Form} {r : ℕ}
      → register_of form ≡ Some r → has_many_sets (lifted_in words) (registers_in (before ++ form ∷ [])) ≡ true
      → IsOwnLiftFault (out_register words before) form LimitPassed
  pool_fault : {given : List ℕ} {form : Form} {kind : Kind}
      → IsOwn (fresh_register given) form kind → IsOwnLiftFault (pool_register given) form kind
  wrong_part : {form : Form} → IsOwnLiftFault wrong form BadForm
  past_limit : {form : Form} → IsOwnLiftFault past form LimitPassed

-- ---- the roles of parts

abbrev pub word_role : Form → ℕ → LiftRole
word_role form at = if nat_lt at most_lift_words then a_word (take at (parts_of form)) else past

abbrev pub out_role : List Form → Form → LiftRole
out_role words form = if has_head (codes "out") form then an_out words else wrong

abbrev pub lift_pool_role : List ℕ → Form → LiftRole
lift_pool_role taken form = if has_head (codes "pool") form then a_pool taken else wrong

abbrev pub lift_part : List (List ℕ) → Form → ℕ → Option LiftRole
lift_part names form zero = None
lift_part names form (suc zero) = Some (lift_name names)
lift_part names form (suc (suc zero)) = Some word_list
lift_part names form (suc (suc (suc zero))) = option_map (out_role (word_forms form)) (part 3 form)
lift_part names form (suc (suc (suc (suc zero)))) = option_map (lift_pool_role (taken_in form)) (part 4 form)
lift_part names form (suc (suc (suc (suc (suc at))))) = Some wrong

-- the keyword is no register
abbrev pub out_part : List Form → Form → ℕ → Option LiftRole
out_part words form zero = None
out_part words form (suc at) = Some (out_register words (take (suc at) (parts_of form)))

abbrev pub pool_part : List ℕ → Form → ℕ → Option LiftRole
pool_part taken form zero = None
pool_part taken form (suc at) = Some (pool_register (taken ++ registers_in (take (suc at) (parts_of form))))

abbrev pub lift_part_role : LiftRole → Form → ℕ → Option LiftRole
lift_part_role (a_lift names) form at = lift_part names form at
lift_part_role word_list form at = Some (word_role form at)
lift_part_role (an_out words) form at = out_part words form at
lift_part_role (a_pool taken) form at = pool_part taken form at
lift_part_role _ form at = None

abbrev pub IsLiftFaultAs : LiftRole → Form → ℕ → Kind → Type 0
IsLiftFaultAs role form = IsFault IsOwnLiftFault lift_part_role role form

-- ---- a text

abbrev pub is_machine : Form → Bool
is_machine form = has_head (codes "machine") form

abbrev pub is_lift : Form → Bool
is_lift form = has_head (codes "lift") form

-- the forms behind the machine form, where the first one is that
abbrev pub behind_machine : List Form → List Form
behind_machine [] = []
behind_machine (form ∷ forms) = if is_machine form then forms else form ∷ forms

-- a form behind others, which are lifts, or of which one has a fault that comes before
abbrev pub next_lift_role : List Form → Form → LiftRole
next_lift_role before form =
    if is_lift form then (if nat_lt (length before) most_lifts then a_lift (names_given before) else past) else wrong

-- a fault of the lifts of a text: none, at the text's length, or one in a form
pub data IsLiftsFault (size : ℕ) (forms : List Form) : ℕ → Kind → Type 0 where
  no_lift : {place : ℕ} → forms ≡ [] → place ≡ size → IsLiftsFault size forms place BadForm
  in_lift : {place : ℕ} {kind : Kind} (at : ℕ) (form : Form) → slice_get forms at ≡ Some form
      → IsLiftFaultAs (next_lift_role (take at forms) form) form place kind → IsLiftsFault size forms place kind

-- a fault of the forms of a text: of its machine form, or of the lifts behind it
pub data IsLiftTextFault (size : ℕ) (forms : List Form) : ℕ → Kind → Type 0 where
  in_machine : {place : ℕ} {kind : Kind} (form : Form) → slice_get forms 0 ≡ Some form → is_machine form ≡ true
      → IsMachineFault form place kind → IsLiftTextFault size forms place kind
  in_lifts : {place : ℕ} {kind : Kind} → IsLiftsFault size (behind_machine forms) place kind
      → IsLiftTextFault size forms place kind
