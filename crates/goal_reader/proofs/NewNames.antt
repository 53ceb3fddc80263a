-- Names and registers that are new, and an input of them.
use Rattle.std.proofs.Common.{◌≡◌, ℕ, ◌<◌, ◌≤◌, ◌||◌, ◌++◌, if◌then◌else◌, Bool, true, false, Option, None, Some, List, length, get_or, refl, sym, ap, ap₂, ◌∙◌, subst, arith, slice_get, option_map, bytes_eq, All}
use Rattle.std.specs.Prelude.{is_some}
use Rattle.forms.specs.Reading.{IsSexpOf}
use Rattle.std.proofs.lemmas.List.Folds.{list_any-append}
use Rattle.text_core.specs.declared.faults.Kind.{Kind}
use Rattle.text_core.specs.declared.faults.Kind.TheVariants.{BadForm, Twice, BadRegister}
use Rattle.text_core.specs.Faults.{fault_number, IsFirst}
use Rattle.forms.specs.Forms.{Form, list, place_of, parts_of, name_in, register_in, part}
use Rattle.forms.specs.Forms.{Stands}
use Rattle.forms.proofs.First.{first_own, no_fault}
use Rattle.goal_meaning.specs.declared.goals.DeclaredOp.{DeclaredOp}
use Rattle.goal_meaning.specs.declared.goals.InputReg.{InputReg}
use Rattle.text_core.specs.Names.{is_among}
use Rattle.goal_reader.specs.Roles.{Role, own_name, fresh_register, fresh_name, no_fresh_name, name_taken, set, second_name, target_sort, a_list, input, guard, is_pinned, pin_in, IsOwn, no_own_name, name_used, no_register, bad_register, register_given, too_few, least_parts, part_role, IsFaultAs, register_number, register_of, ◌>>=◌, input_in}
use Rattle.goal_meaning.specs.Names.{is_reserved}
use Rattle.goal_meaning.specs.Rules.{has_register}
use Rattle.goal_reader.specs.Reading.{IsClear, IsOwnName}
use Rattle.goal_meaning.specs.WellFormed.{sort_of_target}
use Rattle.std.proofs.lemmas.Option.{slice_get-get_or}
use Rattle.std.proofs.lemmas.List.{length-map}
use Rattle.text_core.specs.declared.sexps.Sexp.{Sexp}
use Rattle.forms.specs.Forms.{forms_from, sexp_form, sexp_forms}
use Rattle.goal_reader.proofs.Heads.{list_from, part_form}
use Rattle.goal_reader.specs.declared.scopes.Scope.{Scope}
use Rattle.goal_reader.proofs.Owns as owns

-- a role whose forms have no parts that are examined
leaf_clear : (role : Role) (form : Form) → ((at : ℕ) → part_role role form at ≡ None) → ((k : Kind) → IsOwn role form k → ⊥) → IsClear role form
leaf_clear role form nothing clear = no_fault IsOwn part_role role form clear (λ j part other place kind g e fault. let f : None ≡ Some other = sym (nothing j) ∙ e in absurd cc)

module _ (names : List (List ℕ)) (form : Form) where
  own_clear : (bytes : List ℕ) → IsOwnName names form bytes → (k : Kind) → IsOwn (own_name names) form k → ⊥
  own_clear bytes o k (no_own_name h) = let e : Some bytes ≡ None = sym o.named ∙ h in cc
  own_clear bytes o k (name_used {bytes = other} h i) =
      let e : Some bytes ≡ Some other = sym o.named ∙ h in
      let same : bytes ≡ other = cc in
      let f : false ≡ true = sym o.free ∙ ap (λ b. is_reserved b || is_among names b) same ∙ i in cc

  pub own_name_clear : (bytes : List ℕ) → IsOwnName names form bytes → IsClear (own_name names) form
  own_name_clear bytes o = leaf_clear (own_name names) form (λ at. refl) (own_clear bytes o)

  used_least : (bytes : List ℕ) → name_in form ≡ Some bytes → (k : Kind) → IsOwn (own_name names) form k → 8 ≤ fault_number k
  used_least bytes n k (no_own_name h) = let e : Some bytes ≡ None = sym n ∙ h in cc
  used_least bytes n k (name_used h i) = omega arith

  module _ (low high : ℕ) (h : Stands low high form) where
    pub no_name_first : name_in form ≡ None → IsFirst (IsFaultAs (own_name names) form) (place_of form) BadForm
    no_name_first n = first_own IsOwn part_role (own_name names) form low high BadForm h (no_own_name n) (λ k is. owns.own_at_least is)

    pub used_first : (bytes : List ℕ) → name_in form ≡ Some bytes → is_reserved bytes || is_among names bytes ≡ true → IsFirst (IsFaultAs (own_name names) form) (place_of form) Twice
    used_first bytes n u = first_own IsOwn part_role (own_name names) form low high Twice h (name_used n u) (used_least bytes n)

module _ (given : List ℕ) (form : Form) where
  register_own_clear : (r : ℕ) → register_of form ≡ Some r → has_register given r ≡ false → (k : Kind) → IsOwn (fresh_register given) form k → ⊥
  register_own_clear r e f k (no_register h) = let x : None ≡ Some r = sym (ap (λ b. b >>= register_number) h) ∙ e in cc
  register_own_clear r e f k (bad_register h i) = let x : None ≡ Some r = sym (ap (λ b. b >>= register_number) h ∙ i) ∙ e in cc
  register_own_clear r e f k (register_given {register = other} h i) =
      let x : Some r ≡ Some other = sym e ∙ h in
      let same : r ≡ other = cc in
      let y : false ≡ true = sym f ∙ ap (has_register given) same ∙ i in cc

  pub fresh_register_clear : (r : ℕ) → register_of form ≡ Some r → has_register given r ≡ false → IsClear (fresh_register given) form
  fresh_register_clear r e f = leaf_clear (fresh_register given) form (λ at. refl) (register_own_clear r e f)

  number_least : (bytes : List ℕ) → register_in form ≡ Some bytes → register_number bytes ≡ None → (k : Kind) → IsOwn (fresh_register given) form k → 11 ≤ fault_number k
  number_least bytes n b k (no_register h) = let x : Some bytes ≡ None = sym n ∙ h in cc
  number_least bytes n b k (bad_register h i) = omega arith
  number_least bytes n b k (register_given {register = other} h i) = let x : None ≡ Some other = sym (ap (λ m. m >>= register_number) n ∙ b) ∙ h in cc

  given_least : (r : ℕ) → register_of form ≡ Some r → (k : Kind) → IsOwn (fresh_register given) form k → 8 ≤ fault_number k
  given_least r e k (no_register h) = let x : None ≡ Some r = sym (ap (λ b. b >>= register_number) h) ∙ e in cc
  given_least r e k (bad_register h i) = omega arith
  given_least r e k (register_given h i) = omega arith

  module _ (low high : ℕ) (h : Stands low high form) where
    pub no_register_first : register_in form ≡ None → IsFirst (IsFaultAs (fresh_register given) form) (place_of form) BadForm
    no_register_first n = first_own IsOwn part_role (fresh_register given) form low high BadForm h (no_register n) (λ k is. owns.own_at_least is)

    pub bad_register_first : (bytes : List ℕ) → register_in form ≡ Some bytes → register_number bytes ≡ None → IsFirst (IsFaultAs (fresh_register given) form) (place_of form) BadRegister
    bad_register_first bytes n b = first_own IsOwn part_role (fresh_register given) form low high BadRegister h (bad_register n b) (number_least bytes n b)

    pub given_first : (r : ℕ) → register_of form ≡ Some r → has_register given r ≡ true → IsFirst (IsFaultAs (fresh_register given) form) (place_of form) Twice
    given_first r e g = first_own IsOwn part_role (fresh_register given) form low high Twice h (register_given e g) (given_least r e)

pub or_first : (p q : Bool) → p ≡ true → p || q ≡ true
or_first true q e = refl
or_first false q e = cc

pub or_last : (p q : Bool) → q ≡ true → p || q ≡ true
or_last true q e = refl
or_last false q e = e

pub among_both : (xs ys : List (List ℕ)) (name : List ℕ) → is_among (xs ++ ys) name ≡ (is_among xs name || is_among ys name)
among_both xs ys name = list_any-append (λ other. bytes_eq other name) xs ys

-- an input has no fault of its own but a missing part
pub input_only : (declared : List DeclaredOp) (inputs : List InputReg) (form : Form) (k : Kind) → IsOwn (a_list (input declared inputs)) form k → length (parts_of form) < 3
input_only declared inputs form k (too_few l) = l

pub used_is : (a b c : Bool) (xs ys : List (List ℕ)) (name : List ℕ) → b ≡ is_among xs name → c ≡ is_among ys name → a || (b || c) ≡ (a || is_among (xs ++ ys) name)
used_is a b c xs ys name e f = ap (λ x. a || x) (ap₂ (λ x y. x || y) e f ∙ sym (among_both xs ys name))

pub parts_form : (form : Form) (p : ℕ) (forms : List Form) → form ≡ list p (forms_from forms) → parts_of form ≡ forms
parts_form form p forms e = ap parts_of e ∙ list_from forms

-- a part of the code's is a part of the form
pub nth_part : (text : List ℕ) (form : Form) (p : ℕ) (parts : List Sexp) (i : ℕ) (part : Sexp) → form ≡ list p (forms_from (sexp_forms text parts)) → i < length parts → part ≡ get_or parts i part → slice_get (parts_of form) i ≡ Some (sexp_form text part)
nth_part text form p parts i part e l is =
    ap (λ fs. slice_get fs i) (parts_form form p (sexp_forms text parts) e) ∙ part_form text parts i part (slice_get-get_or parts i part l ∙ ap Some (sym is))

pub count_form : (text : List ℕ) (form : Form) (p : ℕ) (parts : List Sexp) → form ≡ list p (forms_from (sexp_forms text parts)) → length (parts_of form) ≡ length parts
count_form text form p parts e = ap length (parts_form form p (sexp_forms text parts) e) ∙ length-map parts (sexp_form text)

pub input_found : (form first second : Form) (bytes : List ℕ) (r : ℕ) → slice_get (parts_of form) 1 ≡ Some first → name_in first ≡ Some bytes → slice_get (parts_of form) 2 ≡ Some second → register_of second ≡ Some r
    → input_in form ≡ Some (record { name = bytes; reg = r })
input_found form first second bytes r g n g2 e =
    let last : Option ℕ → Option InputReg = λ o. o >>= (λ reg. Some (record { name = bytes; reg = reg })) in
    let third : List ℕ → Option InputReg = λ nm. part 2 form >>= (λ f. register_of f >>= (λ reg. Some (record { name = nm; reg = reg }))) in
    ap (λ o. (o >>= name_in) >>= third) g ∙ ap (λ o. o >>= third) n ∙ ap (λ o. o >>= (λ f. register_of f >>= (λ reg. Some (record { name = bytes; reg = reg })))) g2 ∙ ap last e

pub part_of : (text : List ℕ) (parts : List Sexp) (i : ℕ) (part : Sexp) → All (IsSexpOf text) parts → i < length parts → part ≡ get_or parts i part → IsSexpOf text part
part_of text parts i part all l is = subst (IsSexpOf text) (sym is) (all i part l)

pub guard_only : (scope : Scope) (form : Form) (k : Kind) → IsOwn (a_list (guard scope)) form k → length (parts_of form) < 2
guard_only scope form k (too_few l) = l

pub set_only : (scope : Scope) (names : List (List ℕ)) (taken : List ℕ) (form : Form) (k : Kind) → IsOwn (a_list (set scope names taken)) form k → length (parts_of form) < least_parts (set scope names taken) form
set_only scope names taken form k (too_few l) = l

-- a set of fewer than three parts lacks one, pinned or not
pub short_set : (scope : Scope) (names : List (List ℕ)) (taken : List ℕ) (form : Form) → length (parts_of form) < 3 → length (parts_of form) < least_parts (set scope names taken) form
short_set scope names taken form l = by_test (is_pinned form)
  where
    by_test : (b : Bool) → length (parts_of form) < (if b then 4 else 3)
    by_test true = omega (arith, l)
    by_test false = l

pub no_pin_in : (form : Form) → is_pinned form ≡ false → pin_in form ≡ None
no_pin_in form e = by_part (part 2 form) e
  where
    none : (o : Option (List ℕ)) → is_some o ≡ false → (o >>= register_number) ≡ None
    none None e = refl
    none (Some bytes) e = cc

    by_part : (o : Option Form) → is_some (o >>= register_in) ≡ false → (o >>= register_of) ≡ None
    by_part None e = refl
    by_part (Some f) e = none (register_in f) e

module _ (names : List (List ℕ)) (form : Form) where
  fresh_own_clear : (bytes : List ℕ) → name_in form ≡ Some bytes → is_among names bytes ≡ false → (k : Kind) → IsOwn (fresh_name names) form k → ⊥
  fresh_own_clear bytes n f k (no_fresh_name h) = let e : Some bytes ≡ None = sym n ∙ h in cc
  fresh_own_clear bytes n f k (name_taken {bytes = other} h i) =
      let e : Some bytes ≡ Some other = sym n ∙ h in
      let same : bytes ≡ other = cc in
      let g : false ≡ true = sym f ∙ ap (is_among names) same ∙ i in cc

  pub fresh_name_clear : (bytes : List ℕ) → name_in form ≡ Some bytes → is_among names bytes ≡ false → IsClear (fresh_name names) form
  fresh_name_clear bytes n f = leaf_clear (fresh_name names) form (λ at. refl) (fresh_own_clear bytes n f)

  taken_least : (bytes : List ℕ) → name_in form ≡ Some bytes → (k : Kind) → IsOwn (fresh_name names) form k → 8 ≤ fault_number k
  taken_least bytes n k (no_fresh_name h) = let e : Some bytes ≡ None = sym n ∙ h in cc
  taken_least bytes n k (name_taken h i) = omega arith

  module _ (low high : ℕ) (h : Stands low high form) where
    pub no_fresh_first : name_in form ≡ None → IsFirst (IsFaultAs (fresh_name names) form) (place_of form) BadForm
    no_fresh_first n = first_own IsOwn part_role (fresh_name names) form low high BadForm h (no_fresh_name n) (λ k is. owns.own_at_least is)

    pub taken_first : (bytes : List ℕ) → name_in form ≡ Some bytes → is_among names bytes ≡ true → IsFirst (IsFaultAs (fresh_name names) form) (place_of form) Twice
    taken_first bytes n u = first_own IsOwn part_role (fresh_name names) form low high Twice h (name_taken n u) (taken_least bytes n)

pub target_told : (form first : Form) (bytes : List ℕ) → slice_get (parts_of form) 1 ≡ Some first → name_in first ≡ Some bytes → second_name form ≡ Some bytes
target_told form first bytes g n = ap (λ f. f >>= name_in) g ∙ n

pub target_sort_told : (form : Form) (bytes : List ℕ) → second_name form ≡ Some bytes → Some (sort_of_target bytes) ≡ target_sort form
target_sort_told form bytes e = sym (ap (option_map sort_of_target) e)
