-- Forms of codes that have no parts: their first fault, and when they have none.
use Rattle.std.proofs.Common.{◌≡◌, ℕ, ◌<◌, ◌≤◌, ◌^◌, Bool, true, false, Option, None, Some, List, length, refl, sym, ap, ◌∙◌, subst, arith}
use Rattle.std.specs.List.{list_any}
use Rattle.std.specs.Option.{option_map_or}
use Rattle.std.proofs.lemmas.Option.{none-some, same_Some}
use Rattle.text_core.specs.Names.{is_among}
use Rattle.text_core.specs.declared.faults.Kind.{Kind}
use Rattle.text_core.specs.declared.faults.Kind.TheVariants.{BadForm, UnknownName, Twice, BadRegister, LimitPassed, BadWord}
use Rattle.text_core.specs.Faults.{fault_number}
use Rattle.forms.specs.Forms as forms
use Rattle.forms.specs.Forms.{Form, atom, list, place_of, name_in, number_in, register_in, Stands}
use Rattle.forms.proofs.First.{first_own, no_fault}
use Rattle.alpha_machine.specs.Runs.{MayStandAt}
use Rattle.goal_meaning.specs.Views.{GoalTree, TargetTree}
use Rattle.goal_reader.specs.Grammar.{IsRegister}
use Rattle.goal_reader.specs.Roles.{register_number}
use Rattle.code_check.specs.Codes.{is_other}
use Rattle.code_check.specs.CodeReading.{IsClearCode, IsFirstCodeFault}
use Rattle.code_check.specs.CodeRoles.{CodeRole, goal_name, a_word, target_name, a_register, past, IsOwnCodeFault, short_code, no_place, no_goal_name, unknown_goal, no_words, no_number, stray_word, second_branch, short_place, no_target_name, unknown_target, target_given, no_register, bad_register, other_register, wrong_part, past_limit, code_part_role, goal_named, word_named, is_branch, is_branch_word}
use Rattle.code_check.proofs.Growing.{HasNone}

-- no fault of a form has a lower number than BadForm
pub own_at_least : {role : CodeRole} {form : Form} {kind : Kind} → IsOwnCodeFault role form kind → 6 ≤ fault_number kind
own_at_least (short_code h) = omega arith
own_at_least (no_place h) = omega arith
own_at_least (no_goal_name h) = omega arith
own_at_least (unknown_goal h i) = omega arith
own_at_least (no_words h) = omega arith
own_at_least (no_number h) = omega arith
own_at_least (stray_word h i) = omega arith
own_at_least (second_branch h i) = omega arith
own_at_least (short_place h) = omega arith
own_at_least (no_target_name h) = omega arith
own_at_least (unknown_target h i) = omega arith
own_at_least (target_given h i) = omega arith
own_at_least (no_register h) = omega arith
own_at_least (bad_register h i) = omega arith
own_at_least (other_register h i j) = omega arith
own_at_least wrong_part = omega arith
own_at_least past_limit = omega arith

-- a role whose forms have no parts that are examined
pub leaf_clear : (role : CodeRole) (form : Form) → ((at : ℕ) → code_part_role role form at ≡ None) → HasNone role form → IsClearCode role form
leaf_clear role form nothing clear = no_fault IsOwnCodeFault code_part_role role form clear (λ j part other place kind g e fault. let f : None ≡ Some other = sym (nothing j) ∙ e in absurd cc)
  where
    no : {x : CodeRole} → None ≡ Some x → ⊥
    no f = cc

-- a fault of the form itself, where it has none with a lower number
pub own_first : (role : CodeRole) (form : Form) (low high : ℕ) (kind : Kind) → Stands low high form → IsOwnCodeFault role form kind → ((k : Kind) → IsOwnCodeFault role form k → fault_number kind ≤ fault_number k)
    → IsFirstCodeFault role form (place_of form) kind
own_first role form low high kind h is least = first_own IsOwnCodeFault code_part_role role form low high kind h is least

-- BadForm comes before all others
pub form_first : (role : CodeRole) (form : Form) (low high : ℕ) → Stands low high form → IsOwnCodeFault role form BadForm → IsFirstCodeFault role form (place_of form) BadForm
form_first role form low high h is = own_first role form low high BadForm h is (λ k o. own_at_least o)

differ : {X : Type 0} (o : Option X) (x : X) → o ≡ Some x → o ≡ None → ⊥
differ o x e f = none-some x (sym f ∙ e)

same : {X : Type 0} (o : Option X) (x y : X) → o ≡ Some x → o ≡ Some y → x ≡ y
same o x y e f = same_Some x y (sym e ∙ f)

true_false : {b : Bool} → b ≡ true → b ≡ false → ⊥
true_false {b} t f = apart (sym t ∙ f)
  where
    apart : true ≡ false → ⊥
    apart e = cc

-- ---- the name of a goal
module _ (goals : List GoalTree) (form : Form) where
  pub goal_name_clear : (bytes : List ℕ) (g : GoalTree) → name_in form ≡ Some bytes → goal_named goals bytes ≡ Some g → IsClearCode (goal_name goals) form
  goal_name_clear bytes g n e = leaf_clear (goal_name goals) form (λ at. refl) own
    where
      own : HasNone (goal_name goals) form
      own k (no_goal_name h) = differ (name_in form) bytes n h
      own k (unknown_goal {name = other} h i) = differ (goal_named goals bytes) g e (ap (goal_named goals) (same (name_in form) bytes other n h) ∙ i)

  pub unknown_goal_first : (low high : ℕ) (bytes : List ℕ) → Stands low high form → name_in form ≡ Some bytes → goal_named goals bytes ≡ None → IsFirstCodeFault (goal_name goals) form (place_of form) UnknownName
  unknown_goal_first low high bytes h n e = own_first (goal_name goals) form low high UnknownName h (unknown_goal n e) least
    where
      least : (k : Kind) → IsOwnCodeFault (goal_name goals) form k → 7 ≤ fault_number k
      least k (no_goal_name i) = absurd (differ (name_in form) bytes n i)
      least k (unknown_goal i j) = omega arith

-- ---- words
module _ (count : ℕ) (before : List Form) (form : Form) where
  abbrev one_word : CodeRole
  one_word = a_word count before

  branch_is : (n : ℕ) → number_in form ≡ Some n → is_branch form ≡ is_branch_word n
  branch_is n e = ap (λ o. option_map_or is_branch_word o false) e

  pub word_clear : (n : ℕ) → number_in form ≡ Some n → n < 2 ^ 32 → MayStandAt count (length before) n → (is_branch_word n ≡ true → list_any is_branch before ≡ false) → IsClearCode one_word form
  word_clear n e low stands alone = leaf_clear one_word form (λ at. refl) own
    where
      own : HasNone one_word form
      own k (no_number h) = differ (number_in form) n e h
      own k (stray_word {n = other} h i) =
          i (subst (λ m. (m < 2 ^ 32) × MayStandAt count (length before) m) (same (number_in form) n other e h) (low, stands))
      own k (second_branch h i) = true_false i (alone (sym (branch_is n e) ∙ h))

  word_least : (n : ℕ) → number_in form ≡ Some n → (k : Kind) → IsOwnCodeFault one_word form k → 20 ≤ fault_number k
  word_least n e k (no_number h) = absurd (differ (number_in form) n e h)
  word_least n e k (stray_word h i) = omega arith
  word_least n e k (second_branch h i) = omega arith

  pub stray_first : (low high n : ℕ) → Stands low high form → number_in form ≡ Some n → ¬ ((n < 2 ^ 32) × MayStandAt count (length before) n) → IsFirstCodeFault one_word form (place_of form) BadWord
  stray_first low high n h e i = own_first one_word form low high BadWord h (stray_word e i) (word_least n e)

  pub second_first : (low high n : ℕ) → Stands low high form → number_in form ≡ Some n → is_branch_word n ≡ true → list_any is_branch before ≡ true → IsFirstCodeFault one_word form (place_of form) BadWord
  second_first low high n h e b i = own_first one_word form low high BadWord h (second_branch (branch_is n e ∙ b) i) (word_least n e)

-- ---- the name of a target
module _ (sets : List TargetTree) (given : List (List ℕ)) (form : Form) where
  pub target_clear : (bytes : List ℕ) (t : TargetTree) → name_in form ≡ Some bytes → word_named sets bytes ≡ Some t → is_among given bytes ≡ false → IsClearCode (target_name sets given) form
  target_clear bytes t n e fresh = leaf_clear (target_name sets given) form (λ at. refl) own
    where
      own : HasNone (target_name sets given) form
      own k (no_target_name h) = differ (name_in form) bytes n h
      own k (unknown_target {name = other} h i) = differ (word_named sets bytes) t e (ap (word_named sets) (same (name_in form) bytes other n h) ∙ i)
      own k (target_given {name = other} h i) = true_false i (ap (is_among given) (sym (same (name_in form) bytes other n h)) ∙ fresh)

  pub unknown_target_first : (low high : ℕ) (bytes : List ℕ) → Stands low high form → name_in form ≡ Some bytes → word_named sets bytes ≡ None → IsFirstCodeFault (target_name sets given) form (place_of form) UnknownName
  unknown_target_first low high bytes h n e = own_first (target_name sets given) form low high UnknownName h (unknown_target n e) least
    where
      least : (k : Kind) → IsOwnCodeFault (target_name sets given) form k → 7 ≤ fault_number k
      least k (no_target_name i) = absurd (differ (name_in form) bytes n i)
      least k (unknown_target i j) = omega arith
      least k (target_given i j) = omega arith

  pub given_first : (low high : ℕ) (bytes : List ℕ) (t : TargetTree) → Stands low high form → name_in form ≡ Some bytes → word_named sets bytes ≡ Some t → is_among given bytes ≡ true → IsFirstCodeFault (target_name sets given) form (place_of form) Twice
  given_first low high bytes t h n e i = own_first (target_name sets given) form low high Twice h (target_given n i) least
    where
      least : (k : Kind) → IsOwnCodeFault (target_name sets given) form k → 8 ≤ fault_number k
      least k (no_target_name j) = absurd (differ (name_in form) bytes n j)
      least k (unknown_target {name = other} j l) = absurd (differ (word_named sets bytes) t e (ap (word_named sets) (same (name_in form) bytes other n j) ∙ l))
      least k (target_given j l) = omega arith

-- ---- registers
module _ (pin : Option ℕ) (form : Form) where
  pub register_clear : (bytes : List ℕ) (r : ℕ) → register_in form ≡ Some bytes → register_number bytes ≡ Some r → is_other pin r ≡ false → IsClearCode (a_register pin) form
  register_clear bytes r n e right = leaf_clear (a_register pin) form (λ at. refl) own
    where
      own : HasNone (a_register pin) form
      own k (no_register h) = differ (register_in form) bytes n h
      own k (bad_register {bytes = other} h i) = differ (register_number bytes) r e (ap register_number (same (register_in form) bytes other n h) ∙ i)
      own k (other_register {bytes = other} {register = s} h i j) =
          let numbers = same (register_number bytes) r s e (ap register_number (same (register_in form) bytes other n h) ∙ i) in
          true_false j (ap (is_other pin) (sym numbers) ∙ right)

  register_least : (bytes : List ℕ) → register_in form ≡ Some bytes → (k : Kind) → IsOwnCodeFault (a_register pin) form k → 11 ≤ fault_number k
  register_least bytes n k (no_register h) = absurd (differ (register_in form) bytes n h)
  register_least bytes n k (bad_register h i) = omega arith
  register_least bytes n k (other_register h i j) = omega arith

  pub bad_register_first : (low high : ℕ) (bytes : List ℕ) → Stands low high form → register_in form ≡ Some bytes → register_number bytes ≡ None → IsFirstCodeFault (a_register pin) form (place_of form) BadRegister
  bad_register_first low high bytes h n e = own_first (a_register pin) form low high BadRegister h (bad_register n e) (register_least bytes n)

  pub other_register_first : (low high : ℕ) (bytes : List ℕ) (r : ℕ) → Stands low high form → register_in form ≡ Some bytes → register_number bytes ≡ Some r → is_other pin r ≡ true → IsFirstCodeFault (a_register pin) form (place_of form) BadRegister
  other_register_first low high bytes r h n e o = own_first (a_register pin) form low high BadRegister h (other_register n e o) (register_least bytes n)

-- ---- what stands past a limit
pub past_first : (form : Form) (low high : ℕ) → Stands low high form → IsFirstCodeFault past form (place_of form) LimitPassed
past_first form low high h = own_first past form low high LimitPassed h past_limit least
  where
    least : (k : Kind) → IsOwnCodeFault past form k → 13 ≤ fault_number k
    least k past_limit = omega arith

pub register_writes : (form : Form) (bytes : List ℕ) (r : ℕ) → register_in form ≡ Some bytes → register_number bytes ≡ Some r → IsRegister r form
register_writes (atom p (forms.register v)) bytes r e n = (let is : v ≡ bytes = cc in record { place = p; bytes = bytes; is = ap (λ x. atom p (forms.register x)) is; number = n })
register_writes (atom p (forms.name v)) bytes r e n = cc
register_writes (atom p (forms.number v)) bytes r e n = cc
register_writes (atom p forms.parenthesis) bytes r e n = cc
register_writes (list p ps) bytes r e n = cc
