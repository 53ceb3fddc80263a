-- The first faults of terms.
use Rattle.std.proofs.Common.{◌≡◌, ◌≢◌, ℕ, ◌+◌, Option, None, Some, List, [], ◌∷◌, length, refl, sym, ap, ◌∙◌, subst, arith, slice_get, option_map}
use Rattle.word_ops.specs.Meanings.{arity_of_op, sort_of}
use Rattle.word_ops.specs.declared.sorts.Sort.{Sort}
use Rattle.word_ops.specs.declared.sorts.Op.{Op}
use Rattle.text_core.specs.declared.faults.Kind.{Kind}
use Rattle.text_core.specs.declared.faults.Kind.TheVariants.{BadForm, UnknownName, WrongArity, WrongSort}
use Rattle.text_core.specs.Faults.{IsFirst}
use Rattle.forms.specs.Forms.{Form, Forms, list, more, place_of, parts_of, forms_list, forms_from, name_in}
use Rattle.std.proofs.lemmas.Option.{slice_get-map}
use Rattle.text_core.specs.declared.sexps.Sexp.{Sexp}
use Rattle.forms.specs.Forms.{sexp_form, sexp_forms}
use Rattle.forms.specs.Forms.{Stands}
use Rattle.forms.proofs.First.{first_own, first_inside, ClearTo, span_of}
use Rattle.goal_reader.specs.declared.scopes.Scope.{Scope}
use Rattle.goal_reader.specs.Scopes.{operator_named}
use Rattle.goal_reader.specs.Roles.{Role, term, operator, IsOwn, no_term, wrong_arity, wrong_sort, no_operator_name, unknown_operator, operator_in, sort_in, can_be_term, part_role, IsFaultAs, IsWanted, IsApplicationForm, ◌>>=◌}
use Rattle.goal_reader.proofs.Owns as owns

abbrev FirstFault : Role → Form → ℕ → Kind → Type 0
FirstFault role form place kind = IsFirst (IsFaultAs role form) place kind

none_before : (role : Role) (form : Form) → ClearTo IsOwn part_role role form 0
none_before role form = λ j part other place kind l. absurd (omega (arith, l))

-- ---- a list that has parts
module _ (scope : Scope) (wanted : Option Sort) (p : ℕ) (head : Form) (rest : Forms) (low high : ℕ) (h : Stands low high (list p (more head rest))) where
  abbrev whole : Form
  whole = list p (more head rest)

  in_head : (place : ℕ) (kind : Kind) → operator_in scope.declared whole ≡ None → FirstFault (operator scope.declared) head place kind → FirstFault (term scope wanted) whole place kind
  in_head place kind u first =
      first_inside IsOwn part_role (term scope wanted) whole low high 0 head (operator scope.declared) place kind h
      (owns.unknown_clear scope p head rest wanted u) refl refl (none_before (term scope wanted) whole) first

  pub head_no_name : name_in head ≡ None → FirstFault (term scope wanted) whole (place_of head) BadForm
  head_no_name n =
      let span = span_of (more head rest) (p + 1) high 0 head h.1 refl in
      in_head (place_of head) BadForm (ap (λ b. b >>= operator_named scope.declared) n)
      (first_own IsOwn part_role (operator scope.declared) head span.from span.to BadForm span.stands (no_operator_name n) (λ k is. owns.own_at_least is))

  pub head_unknown : (bytes : List ℕ) → name_in head ≡ Some bytes → operator_named scope.declared bytes ≡ None → FirstFault (term scope wanted) whole (place_of head) UnknownName
  head_unknown bytes n u =
      let span = span_of (more head rest) (p + 1) high 0 head h.1 refl in
      in_head (place_of head) UnknownName (ap (λ b. b >>= operator_named scope.declared) n ∙ u)
      (first_own IsOwn part_role (operator scope.declared) head span.from span.to UnknownName span.stands (unknown_operator n u) (owns.operator_least scope.declared head bytes n))

  pub known_operator : (bytes : List ℕ) (op : Op) → name_in head ≡ Some bytes → operator_named scope.declared bytes ≡ Some op → operator_in scope.declared whole ≡ Some op
  known_operator bytes op n k = ap (λ b. b >>= operator_named scope.declared) n ∙ k

  pub arity_fault : (op : Op) → operator_in scope.declared whole ≡ Some op → length (parts_of whole) ≢ 1 + arity_of_op op → FirstFault (term scope wanted) whole p WrongArity
  arity_fault op k n = first_own IsOwn part_role (term scope wanted) whole low high WrongArity h (wrong_arity k n) (owns.arity_least scope p head rest wanted)

pub wanted_fails : (scope : Scope) (wanted : Option Sort) (form : Form) (given : Sort) → sort_in scope form ≡ Some given → (IsWanted wanted given → ⊥) → IsOwn (term scope wanted) form WrongSort
wanted_fails scope None form given s n = absurd (n tt)
wanted_fails scope (Some one) form given s n = wrong_sort s n

module _ (scope : Scope) (wanted : Option Sort) (p : ℕ) (head : Form) (rest : Forms) (low high : ℕ) (h : Stands low high (list p (more head rest))) where
  pub sort_fault : (op : Op) → operator_in scope.declared (list p (more head rest)) ≡ Some op → length (parts_of (list p (more head rest))) ≡ 1 + arity_of_op op → (IsWanted wanted (sort_of op) → ⊥) → FirstFault (term scope wanted) (list p (more head rest)) p WrongSort
  sort_fault op k n w =
      first_own IsOwn part_role (term scope wanted) (list p (more head rest)) low high WrongSort h
      (wanted_fails scope wanted (list p (more head rest)) (sort_of op) (ap (λ o. option_map sort_of o) k) w) (owns.sort_least scope p head rest wanted op k n)

pub list_from : (forms : List Form) → forms_list (forms_from forms) ≡ forms
list_from [] = refl
list_from (f ∷ fs) = ap (λ xs. f ∷ xs) (list_from fs)

-- ---- as the code meets them: a form that is a list of these forms
module _ (scope : Scope) (wanted : Option Sort) (form : Form) (p low high : ℕ) (h : Stands low high form) where
  pub empty_first : (forms : List Form) → form ≡ list p (forms_from forms) → slice_get forms 0 ≡ None → FirstFault (term scope wanted) form (place_of form) BadForm
  empty_first [] e n = first_own IsOwn part_role (term scope wanted) form low high BadForm h (no_term (ap can_be_term e)) (λ k is. owns.own_at_least is)
  empty_first (f ∷ fs) e n = cc

  pub no_name_first : (forms : List Form) (head : Form) → form ≡ list p (forms_from forms) → slice_get forms 0 ≡ Some head → name_in head ≡ None → FirstFault (term scope wanted) form (place_of head) BadForm
  no_name_first [] head e g n = cc
  no_name_first (f ∷ fs) head e g n =
      let same : f ≡ head = cc in
      let first = head_no_name scope wanted p f (forms_from fs) low high (subst (λ (x : Form). Stands low high x) e h) (ap name_in same ∙ n) in
      subst (λ (x : Form). FirstFault (term scope wanted) x (place_of head) BadForm) (sym e) (subst (λ (x : Form). FirstFault (term scope wanted) (list p (more f (forms_from fs))) (place_of x) BadForm) same first)

  pub unknown_first : (forms : List Form) (head : Form) (bytes : List ℕ) → form ≡ list p (forms_from forms) → slice_get forms 0 ≡ Some head → name_in head ≡ Some bytes → operator_named scope.declared bytes ≡ None → FirstFault (term scope wanted) form (place_of head) UnknownName
  unknown_first [] head bytes e g n u = cc
  unknown_first (f ∷ fs) head bytes e g n u =
      let same : f ≡ head = cc in
      let first = head_unknown scope wanted p f (forms_from fs) low high (subst (λ (x : Form). Stands low high x) e h) bytes (ap name_in same ∙ n) u in
      subst (λ (x : Form). FirstFault (term scope wanted) x (place_of head) UnknownName) (sym e) (subst (λ (x : Form). FirstFault (term scope wanted) (list p (more f (forms_from fs))) (place_of x) UnknownName) same first)

  pub operator_known : (forms : List Form) (head : Form) (bytes : List ℕ) (op : Op) → form ≡ list p (forms_from forms) → slice_get forms 0 ≡ Some head → name_in head ≡ Some bytes → operator_named scope.declared bytes ≡ Some op → operator_in scope.declared form ≡ Some op
  operator_known [] head bytes op e g n k = cc
  operator_known (f ∷ fs) head bytes op e g n k =
      let same : f ≡ head = cc in
      ap (operator_in scope.declared) e ∙ ap (λ b. b >>= operator_named scope.declared) (ap name_in same ∙ n) ∙ k

  pub count_of_parts : (forms : List Form) → form ≡ list p (forms_from forms) → length (parts_of form) ≡ length forms
  count_of_parts forms e = ap (λ f. length (parts_of f)) e ∙ ap length (list_from forms)

  pub arity_first : (forms : List Form) (head : Form) (op : Op) → form ≡ list p (forms_from forms) → slice_get forms 0 ≡ Some head → operator_in scope.declared form ≡ Some op → length forms ≢ 1 + arity_of_op op → FirstFault (term scope wanted) form (place_of form) WrongArity
  arity_first [] head op e g k n = cc
  arity_first (f ∷ fs) head op e g k n =
      let first = arity_fault scope wanted p f (forms_from fs) low high (subst (λ (x : Form). Stands low high x) e h) op (ap (operator_in scope.declared) (sym e) ∙ k) (λ same. n (sym (ap length (list_from (f ∷ fs))) ∙ same)) in
      subst (λ (x : Form). FirstFault (term scope wanted) x (place_of x) WrongArity) (sym e) first

  pub sort_first : (forms : List Form) (head : Form) (op : Op) → form ≡ list p (forms_from forms) → slice_get forms 0 ≡ Some head → operator_in scope.declared form ≡ Some op → length forms ≡ 1 + arity_of_op op → (IsWanted wanted (sort_of op) → ⊥) → FirstFault (term scope wanted) form (place_of form) WrongSort
  sort_first [] head op e g k n w = cc
  sort_first (f ∷ fs) head op e g k n w =
      let first = sort_fault scope wanted p f (forms_from fs) low high (subst (λ (x : Form). Stands low high x) e h) op (ap (operator_in scope.declared) (sym e) ∙ k) (ap length (list_from (f ∷ fs)) ∙ n) w in
      subst (λ (x : Form). FirstFault (term scope wanted) x (place_of x) WrongSort) (sym e) first

  pub application_is : (forms : List Form) (op : Op) → form ≡ list p (forms_from forms) → operator_in scope.declared form ≡ Some op → length forms ≡ 1 + arity_of_op op → IsWanted wanted (sort_of op) → IsApplicationForm scope wanted form op
  application_is forms op e k n w = record { known = k; count = count_of_parts forms e ∙ n; wanted_one = w }

pub part_form : (text : List ℕ) (parts : List Sexp) (i : ℕ) (part : Sexp) → slice_get parts i ≡ Some part → slice_get (sexp_forms text parts) i ≡ Some (sexp_form text part)
part_form text parts i part g = slice_get-map (sexp_form text) parts i ∙ ap (option_map (sexp_form text)) g

pub no_part_form : (text : List ℕ) (parts : List Sexp) (i : ℕ) → slice_get parts i ≡ None → slice_get (sexp_forms text parts) i ≡ None
no_part_form text parts i g = slice_get-map (sexp_form text) parts i ∙ ap (option_map (sexp_form text)) g
