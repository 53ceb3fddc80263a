-- The parts of a list in machine forms: the first fault of those that are read in turn, and when there is none.
use Rattle.std.proofs.Common.{◌≡◌, ℕ, zero, suc, ◌+◌, ◌<◌, ◌≤◌, ◌++◌, true, false, None, Some, List, [], ◌∷◌, All, length, take, drop, get_or, refl, sym, ap, ◌∙◌, subst, arith, slice_get, option_map, inl, inr}
use Rattle.std.proofs.lemmas.Bool.{cases_order}
use Rattle.std.proofs.lemmas.List.{length-map}
use Rattle.std.proofs.lemmas.Option.{slice_get-map, slice_get-get_or}
use Rattle.std.proofs.lemmas.Slice.Eq.{bytes_eq-Decides}
use Rattle.forms.proofs.First.{first_inside, no_fault, ClearTo}
use Rattle.forms.specs.Forms.{Form, Forms, Stands, atom, list, none, more, name, register, number, parenthesis, place_of, parts_of, forms_list, forms_from, sexp_form, sexp_forms, name_in, is_list}
use Rattle.forms.specs.Reading.{IsSexpOf}
use Rattle.machine_table.proofs.Leaves.{First, form_first, no_some}
use Rattle.machine_table.specs.Grammar.{IsListOf, IsNameOf}
use Rattle.machine_table.specs.Reading.{IsTableFault, IsClearTableForm}
use Rattle.machine_table.specs.Roles as roles
use Rattle.machine_table.specs.Roles.{TableRole, IsOwnTableFault, table_part_role, has_head, wrong_part}
use Rattle.text_core.specs.declared.faults.Kind.{Kind}
use Rattle.text_core.specs.declared.faults.Kind.TheVariants.{BadForm}
use Rattle.text_core.specs.declared.sexps.Sexp.{Sexp}

-- ---- lists
pub got_within : {X : Type 0} (xs : List X) (j : ℕ) (x : X) → slice_get xs j ≡ Some x → j < length xs
got_within [] j x g = cc
got_within (y ∷ ys) zero x g = omega arith
got_within (y ∷ ys) (suc j) x g = let l = got_within ys j x g in omega (arith, l)

pub got_more : {X : Type 0} (xs : List X) (i : ℕ) (x : X) → slice_get xs i ≡ Some x → take (i + 1) xs ≡ take i xs ++ x ∷ []
got_more [] i x g = cc
got_more (y ∷ ys) zero x g = let same : y ≡ x = cc in ap (λ z. z ∷ []) same
got_more (y ∷ ys) (suc i) x g =
    ap (λ n. take n (y ∷ ys)) (let e : suc i + 1 ≡ suc (i + 1) = omega arith in e) ∙ ap (λ zs. y ∷ zs) (got_more ys i x g)

drop_push : {X : Type 0} (n : ℕ) (xs : List X) (x : X) → n ≤ length xs → drop n (xs ++ x ∷ []) ≡ drop n xs ++ x ∷ []
drop_push zero xs x l = refl
drop_push (suc n) [] x l = absurd (omega (arith, l))
drop_push (suc n) (y ∷ ys) x l = drop_push n ys x (omega (arith, l))

take_length : {X : Type 0} (n i : ℕ) (xs : List X) → n ≤ i → i ≤ length xs → n ≤ length (take i xs)
take_length zero i xs l m = omega arith
take_length (suc n) zero xs l m = absurd (omega (arith, l))
take_length (suc n) (suc i) [] l m = absurd (omega (arith, m))
take_length (suc n) (suc i) (y ∷ ys) l m = let k = take_length n i ys (omega (arith, l)) (omega (arith, m)) in omega (arith, k)

-- the parts behind the first n, up to the one before this
abbrev pub between : {X : Type 0} → ℕ → ℕ → List X → List X
between n i xs = drop n (take i xs)

pub between_more : {X : Type 0} (n : ℕ) (xs : List X) (i : ℕ) (x : X) → n ≤ i → slice_get xs i ≡ Some x → between n (i + 1) xs ≡ between n i xs ++ x ∷ []
between_more n xs i x l g =
    ap (drop n) (got_more xs i x g) ∙ drop_push n (take i xs) x (take_length n i xs l (let k = got_within xs i x g in omega (arith, k)))

pub between_1 : {X : Type 0} (i : ℕ) (xs : List X) → between 1 (suc i) xs ≡ take i (drop 1 xs)
between_1 zero [] = refl
between_1 (suc i) [] = refl
between_1 i (x ∷ xs) = refl

pub between_3 : {X : Type 0} (i : ℕ) (xs : List X) → between 3 (suc (suc (suc i))) xs ≡ take i (drop 3 xs)
between_3 zero [] = refl
between_3 (suc i) [] = refl
between_3 zero (x ∷ []) = refl
between_3 (suc i) (x ∷ []) = refl
between_3 zero (x ∷ (y ∷ [])) = refl
between_3 (suc i) (x ∷ (y ∷ [])) = refl
between_3 i (x ∷ (y ∷ (z ∷ xs))) = refl

pub list_from : (forms : List Form) → forms_list (forms_from forms) ≡ forms
list_from [] = refl
list_from (f ∷ fs) = ap (λ xs. f ∷ xs) (list_from fs)

pub from_list : (forms : Forms) → forms_from (forms_list forms) ≡ forms
from_list none = refl
from_list (more f fs) = ap (more f) (from_list fs)

-- ---- as the code has them
pub parts_form : (form : Form) (p : ℕ) (forms : List Form) → form ≡ list p (forms_from forms) → parts_of form ≡ forms
parts_form form p forms e = ap parts_of e ∙ list_from forms

pub list_form : (form : Form) (p : ℕ) (forms : List Form) → form ≡ list p (forms_from forms) → is_list form ≡ true
list_form form p forms e = ap is_list e

pub back_form : (form : Form) (p : ℕ) (forms : List Form) → form ≡ list p (forms_from forms) → form ≡ list p (forms_from (parts_of form))
back_form form p forms e = e ∙ ap (λ fs. list p (forms_from fs)) (sym (parts_form form p forms e))

part_form : (text : List ℕ) (parts : List Sexp) (i : ℕ) (part : Sexp) → slice_get parts i ≡ Some part → slice_get (sexp_forms text parts) i ≡ Some (sexp_form text part)
part_form text parts i part g = slice_get-map (sexp_form text) parts i ∙ ap (option_map (sexp_form text)) g

pub nth_part : (text : List ℕ) (form : Form) (p : ℕ) (parts : List Sexp) (i : ℕ) (part : Sexp) → form ≡ list p (forms_from (sexp_forms text parts)) → i < length parts → part ≡ get_or parts i part → slice_get (parts_of form) i ≡ Some (sexp_form text part)
nth_part text form p parts i part e l is =
    ap (λ fs. slice_get fs i) (parts_form form p (sexp_forms text parts) e) ∙ part_form text parts i part (slice_get-get_or parts i part l ∙ ap Some (sym is))

pub count_form : (text : List ℕ) (form : Form) (p : ℕ) (parts : List Sexp) → form ≡ list p (forms_from (sexp_forms text parts)) → length (parts_of form) ≡ length parts
count_form text form p parts e = ap length (parts_form form p (sexp_forms text parts) e) ∙ length-map parts (sexp_form text)

pub no_parts : (form : Form) → is_list form ≡ false → length (parts_of form) ≡ 0
no_parts (atom p a) e = refl
no_parts (list p parts) e = cc

pub no_head : (word : List ℕ) (form : Form) → is_list form ≡ false → has_head word form ≡ false
no_head word (atom p a) e = refl
no_head word (list p parts) e = cc

pub part_of : (text : List ℕ) (parts : List Sexp) (i : ℕ) (part : Sexp) → All (IsSexpOf text) parts → i < length parts → part ≡ get_or parts i part → IsSexpOf text part
part_of text parts i part all l is = subst (IsSexpOf text) (sym is) (all i part l)

-- ---- what a form is
pub name_is : (form : Form) (bytes : List ℕ) → name_in form ≡ Some bytes → IsNameOf bytes form
name_is (atom p (name other)) bytes e = record { place = p; is = ap (λ k. atom p (name k)) (let same : other ≡ bytes = cc in same) }
name_is (atom p (number n)) bytes e = cc
name_is (atom p (register other)) bytes e = cc
name_is (atom p parenthesis) bytes e = cc
name_is (list p parts) bytes e = cc

pub name_of : (form : Form) (bytes : List ℕ) → IsNameOf bytes form → name_in form ≡ Some bytes
name_of form bytes i = ap name_in i.is

pub headed : (word : List ℕ) (form : Form) → has_head word form ≡ true → IsListOf word (drop 1 (parts_of form)) form
headed word (atom p a) e = cc
headed word (list p none) e = cc
headed word (list p (more (atom q (name w)) rest)) e = record {
  place = p;
  head_place = q;
  is = ap (λ b. list p (more (atom q (name b)) rest)) ((bytes_eq-Decides w word).0 e)
      ∙ ap (λ fs. list p (more (atom q (name word)) fs)) (sym (from_list rest));
}
headed word (list p (more (atom q (register w)) rest)) e = cc
headed word (list p (more (atom q (number w)) rest)) e = cc
headed word (list p (more (atom q parenthesis) rest)) e = cc
headed word (list p (more (list q ps) rest)) e = cc

-- ---- parts that are read in turn
module _ (role : TableRole) (form : Form) where
  abbrev pub ClearBefore : ℕ → Type 0
  ClearBefore n = ClearTo IsOwnTableFault table_part_role role form n

  pub clear_0 : ClearBefore 0
  clear_0 j part other place kind l = absurd (omega (arith, l))

  pub clear_next : (n : ℕ) (one : Form) (other : TableRole) → slice_get (parts_of form) n ≡ Some one → table_part_role role form n ≡ Some other → IsClearTableForm other one → ClearBefore n → ClearBefore (n + 1)
  clear_next n one other g r is clear j part another place kind l got role_is fault =
      elim (cases_order j n) [
        | inl same ↦
            let parts : Some one ≡ Some part = sym g ∙ ap (slice_get (parts_of form)) (sym same) ∙ got in
            let part_is : part ≡ one = cc in
            let both : Some other ≡ Some another = sym r ∙ ap (table_part_role role form) (sym same) ∙ role_is in
            let role_same : another ≡ other = cc in
            is place kind (subst (λ (x : TableRole). IsTableFault x one place kind) role_same (subst (λ (x : Form). IsTableFault another x place kind) part_is fault))
        | inr (inl before) ↦ clear j part another place kind before got role_is fault
        | inr (inr after) ↦ absurd (omega (arith, l, after))
      ]

  pub clear_skip : (n : ℕ) → table_part_role role form n ≡ None → ClearBefore n → ClearBefore (n + 1)
  clear_skip n r clear j part another place kind l got role_is fault =
      elim (cases_order j n) [
        | inl same ↦ absurd (no_some (table_part_role role form n) another (ap (table_part_role role form) (sym same) ∙ role_is) r)
        | inr (inl before) ↦ clear j part another place kind before got role_is fault
        | inr (inr after) ↦ absurd (omega (arith, l, after))
      ]

  pub all_clear : (n : ℕ) → ((k : Kind) → IsOwnTableFault role form k → ⊥) → length (parts_of form) ≤ n → ClearBefore n → IsClearTableForm role form
  all_clear n own most clear =
      no_fault IsOwnTableFault table_part_role role form own
      (λ j part other place kind g r fault. clear j part other place kind (let l = got_within (parts_of form) j part g in omega (arith, l, most)) g r fault)

  module _ (low high : ℕ) (h : Stands low high form) (own : (k : Kind) → IsOwnTableFault role form k → ⊥) where
    pub part_first : (n : ℕ) (part : Form) (other : TableRole) (place : ℕ) (kind : Kind) → slice_get (parts_of form) n ≡ Some part → table_part_role role form n ≡ Some other → ClearBefore n
        → First other part place kind → First role form place kind
    part_first n part other place kind g r clear first = first_inside IsOwnTableFault table_part_role role form low high n part other place kind h own g r clear first

    -- a part that the grammar doesn't have
    pub extra_first : (n : ℕ) (part : Form) (from to : ℕ) → Stands from to part → slice_get (parts_of form) n ≡ Some part → table_part_role role form n ≡ Some roles.wrong → ClearBefore n
        → First role form (place_of part) BadForm
    extra_first n part from to s g r clear = part_first n part roles.wrong (place_of part) BadForm g r clear (form_first part from to s roles.wrong wrong_part)
