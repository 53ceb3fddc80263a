-- Lists of forms and what their items are, step by step.
use Rattle.std.proofs.Common.{◌≡◌, ℕ, zero, suc, ◌+◌, ◌-◌, ◌*◌, ◌<◌, ◌&&◌, ◌==◌, ◌++◌, if◌then◌else◌, Bool, true, false, nat_le, nat_lt, All, Option, None, Some, List, [], ◌∷◌, length, take, get_or, option_map, refl, sym, ap, ap₂, ◌∙◌, subst, arith, slice_get}
use Rattle.std.proofs.lemmas.Bool.Decides.{Decides-eqb, nat_tests}
use Rattle.std.proofs.lemmas.List.{length-map}
use Rattle.std.proofs.lemmas.Option.{same_Some, slice_get-get_or, slice_get-map}
use Rattle.text_core.specs.Sexps.{sexp_tree, sexp_trees}
use Rattle.text_core.specs.declared.sexps.Sexp.{Sexp}
use Rattle.forms.specs.Forms as forms
use Rattle.forms.specs.Forms.{Form, atom, list, more, name, parts_of, forms_from, forms_list, form_of, forms_of, name_in, sexp_form, sexp_forms}
use Rattle.forms.specs.Reading.{IsSexpOf}
use Rattle.machine_table.specs.Grammar as grammar
use Rattle.machine_table.specs.Grammar.{Each, more_of, IsNameOf}
use Rattle.goal_reader.specs.Grammar.{IsRegister}
use Rattle.goal_reader.specs.Roles.{is_digit, number_of_register, register_number, register_of}

-- ---- lists

pub got_within : {X : Type 0} (xs : List X) (j : ℕ) (x : X) → slice_get xs j ≡ Some x → j < length xs
got_within [] j x g = cc
got_within (y ∷ ys) zero x g = omega arith
got_within (y ∷ ys) (suc j) x g = let l = got_within ys j x g in omega (arith, l)

pub got_more : {X : Type 0} (xs : List X) (i : ℕ) (x : X) → slice_get xs i ≡ Some x → take (i + 1) xs ≡ take i xs ++ x ∷ []
got_more [] i x g = cc
got_more (y ∷ ys) zero x g = let same : y ≡ x = cc in ap (λ z. z ∷ []) same
got_more (y ∷ ys) (suc i) x g =
    ap (λ n. take n (y ∷ ys)) (let e : suc i + 1 ≡ suc (i + 1) = omega arith in e) ∙ ap (λ zs. y ∷ zs) (got_more ys i x g)

pub none_left : (n : ℕ) (b : Bool) → b ≡ (n == 0) → b ≡ true → n ≡ 0
none_left n b e t = (Decides-eqb n 0).0 (sym e ∙ t)

pub some_left : (n : ℕ) (b : Bool) → b ≡ (n == 0) → b ≡ false → 0 < n
some_left zero b e f = let x : true ≡ false = sym e ∙ f in cc
some_left (suc n) b e f = omega arith

-- ---- forms of the code's trees

pub list_from : (fs : List Form) → forms_list (forms_from fs) ≡ fs
list_from [] = refl
list_from (f ∷ fs) = ap (λ xs. f ∷ xs) (list_from fs)

pub parts_form : (form : Form) (p : ℕ) (fs : List Form) → form ≡ list p (forms_from fs) → parts_of form ≡ fs
parts_form form p fs e = ap parts_of e ∙ list_from fs

pub nth_form : (text : List ℕ) (sexps : List Sexp) (i : ℕ) (sexp : Sexp) → i < length sexps → sexp ≡ get_or sexps i sexp → slice_get (sexp_forms text sexps) i ≡ Some (sexp_form text sexp)
nth_form text sexps i sexp l is = slice_get-map (sexp_form text) sexps i ∙ ap (option_map (sexp_form text)) (slice_get-get_or sexps i sexp l ∙ ap Some (sym is))

-- a part of the code's is a part of the form
pub nth_part : (text : List ℕ) (form : Form) (p : ℕ) (parts : List Sexp) (i : ℕ) (part : Sexp) → form ≡ list p (forms_from (sexp_forms text parts)) → i < length parts → part ≡ get_or parts i part → slice_get (parts_of form) i ≡ Some (sexp_form text part)
nth_part text form p parts i part e l is = ap (λ fs. slice_get fs i) (parts_form form p (sexp_forms text parts) e) ∙ nth_form text parts i part l is

pub count_form : (text : List ℕ) (form : Form) (p : ℕ) (parts : List Sexp) → form ≡ list p (forms_from (sexp_forms text parts)) → length (parts_of form) ≡ length parts
count_form text form p parts e = ap length (parts_form form p (sexp_forms text parts) e) ∙ length-map parts (sexp_form text)

pub part_of : (text : List ℕ) (parts : List Sexp) (i : ℕ) (part : Sexp) → All (IsSexpOf text) parts → i < length parts → part ≡ get_or parts i part → IsSexpOf text part
part_of text parts i part all l is = subst (IsSexpOf text) (sym is) (all i part l)

pub forms_map : (text : List ℕ) (sexps : List Sexp) → forms_of text (sexp_trees sexps) ≡ forms_from (sexp_forms text sexps)
unfolding sexp_form
forms_map text [] = refl
forms_map text (sexp ∷ sexps) = ap (λ fs. more (form_of text (sexp_tree sexp)) fs) (forms_map text sexps)

pub forms_are : (text : List ℕ) (sexps : List Sexp) → forms_list (forms_of text (sexp_trees sexps)) ≡ sexp_forms text sexps
forms_are text sexps = ap forms_list (forms_map text sexps) ∙ list_from (sexp_forms text sexps)

-- ---- forms and the items that they write

pub each_length : {Y : Type 0} (W : Form → Y → Type 0) (fs : List Form) (ys : List Y) → Each W fs ys → length ys ≡ length fs
each_length W [] [] e = refl
each_length W [] (y ∷ ys) e = elim e [ ]
each_length W (f ∷ fs) [] e = elim e [ ]
each_length W (f ∷ fs) (y ∷ ys) (more_of one others) = ap suc (each_length W fs ys others)

pub each_more : {Y : Type 0} (W : Form → Y → Type 0) (fs : List Form) (ys : List Y) (f : Form) (y : Y) → Each W fs ys → W f y → Each W (fs ++ f ∷ []) (ys ++ y ∷ [])
each_more W [] [] f y e w = more_of w grammar.none
each_more W [] (z ∷ ys) f y e w = elim e [ ]
each_more W (g ∷ fs) [] f y e w = elim e [ ]
each_more W (g ∷ fs) (z ∷ ys) f y (more_of one others) w = more_of one (each_more W fs ys f y others w)

pub each_once : {Y : Type 0} (W : Form → Y → Type 0) → ((f : Form) (x y : Y) → W f x → W f y → x ≡ y) → (fs : List Form) (xs ys : List Y) → Each W fs xs → Each W fs ys → xs ≡ ys
each_once W once [] [] [] d e = refl
each_once W once [] [] (y ∷ ys) d e = elim e [ ]
each_once W once [] (x ∷ xs) ys d e = elim d [ ]
each_once W once (f ∷ fs) [] ys d e = elim d [ ]
each_once W once (f ∷ fs) (x ∷ xs) [] d e = elim e [ ]
each_once W once (f ∷ fs) (x ∷ xs) (y ∷ ys) (more_of one others) (more_of another rest) = ap₂ (λ a b. a ∷ b) (once f x y one another) (each_once W once fs xs ys others rest)

pub is_name : (form : Form) (bytes : List ℕ) → name_in form ≡ Some bytes → IsNameOf bytes form
is_name (atom p (name v)) bytes e = let same : v ≡ bytes = cc in record { place = p; is = ap (λ x. atom p (name x)) same }
is_name (atom p (forms.register v)) bytes e = cc
is_name (atom p (forms.number v)) bytes e = cc
is_name (atom p forms.parenthesis) bytes e = cc
is_name (list p ps) bytes e = cc

pub name_once : (form : Form) (m n : List ℕ) → IsNameOf m form → IsNameOf n form → m ≡ n
name_once form m n is has = same_Some m n (sym (ap name_in is.is) ∙ ap name_in has.is)

register_told : (form : Form) (r : ℕ) → IsRegister r form → register_of form ≡ Some r
register_told form r is = ap register_of is.is ∙ is.number

pub register_once : (form : Form) (r s : ℕ) → IsRegister r form → IsRegister s form → r ≡ s
register_once form r s is has = same_Some r s (sym (register_told form r is) ∙ register_told form s has)

-- ---- registers are below 31

if_some : (b : Bool) (x r : ℕ) → (if b then Some x else None) ≡ Some r → (b ≡ true) × (x ≡ r)
if_some true x r e = let same : x ≡ r = cc in (refl, same)
if_some false x r e = cc

if_there : (b : Bool) (o : Option ℕ) (r : ℕ) → (if b then o else None) ≡ Some r → o ≡ Some r
if_there true o r e = e
if_there false o r e = cc

below_31 : (digits : List ℕ) (r : ℕ) → number_of_register digits ≡ Some r → r < 31
unfolding number_of_register
below_31 [] r e = cc
below_31 (a ∷ []) r e = let h = if_some (is_digit a) (a - 48) r e in grind (arith, nat_tests, h.0, h.1)
below_31 (a ∷ b ∷ []) r e =
    let h = if_some (is_digit a && nat_le 49 a && is_digit b && nat_lt (10 * (a - 48) + (b - 48)) 31) (10 * (a - 48) + (b - 48)) r e in grind (arith, nat_tests, h.0, h.1)
below_31 (a ∷ b ∷ c ∷ rest) r e = cc

pub register_low : (bytes : List ℕ) (r : ℕ) → register_number bytes ≡ Some r → r < 31
register_low [] r e = cc
register_low (b ∷ digits) r e = below_31 digits r (if_there (b == 36) (number_of_register digits) r e)
