-- Which faults of its own a term has.
use Rattle.std.proofs.Common.{◌≡◌, ◌≢◌, ℕ, ◌+◌, ◌≤◌, Option, None, Some, List, length, sym, ap, ◌∙◌, arith, option_map}
use Rattle.word_ops.specs.Meanings.{arity_of_op, sort_of}
use Rattle.word_ops.specs.declared.sorts.Sort.{Sort}
use Rattle.word_ops.specs.declared.sorts.Sort.TheVariants as sorts
use Rattle.word_ops.specs.declared.sorts.Op.{Op}
use Rattle.text_core.specs.declared.faults.Kind.{Kind}
use Rattle.text_core.specs.Faults.{fault_number}
use Rattle.forms.specs.Forms.{Form, Forms, atom, list, more, name, number, parts_of, name_in}
use Rattle.goal_reader.specs.declared.scopes.Scope.{Scope}
use Rattle.goal_meaning.specs.declared.goals.DeclaredOp.{DeclaredOp}
use Rattle.goal_reader.specs.declared.scopes.Named.{Named}
use Rattle.goal_reader.specs.declared.scopes.Named.TheVariants.{Lacking}
use Rattle.goal_reader.specs.Scopes.{leaf_named, operator_named}
use Rattle.goal_reader.specs.Roles.{Role, term, operator, IsOwn, no_term, unknown_name, wrong_arity, wrong_sort, lacking, no_operator_name, unknown_operator, left_term, no_application, no_fresh_name, name_taken, no_own_name, name_used, no_register, bad_register, register_given, no_arity, arity_0, arity_above, too_few, no_set, wrong_part, past_limit, operator_in, sort_of_leaf, IsWanted, IsApplicationForm}

-- no fault of a form has a lower number than BadForm
pub own_at_least : {role : Role} {form : Form} {kind : Kind} → IsOwn role form kind → 6 ≤ fault_number kind
own_at_least (no_term h) = omega arith
own_at_least (unknown_name h i) = omega arith
own_at_least (wrong_arity h i) = omega arith
own_at_least (wrong_sort h i) = omega arith
own_at_least (lacking h i) = omega arith
own_at_least (no_operator_name h) = omega arith
own_at_least (unknown_operator h i) = omega arith
own_at_least (left_term h) = own_at_least h
own_at_least (no_application h) = omega arith
own_at_least (no_fresh_name h) = omega arith
own_at_least (name_taken h i) = omega arith
own_at_least (no_own_name h) = omega arith
own_at_least (name_used h i) = omega arith
own_at_least (no_register h) = omega arith
own_at_least (bad_register h i) = omega arith
own_at_least (register_given h i) = omega arith
own_at_least (no_arity h) = omega arith
own_at_least (arity_0 h) = omega arith
own_at_least (arity_above h i) = omega arith
own_at_least (too_few h) = omega arith
own_at_least (no_set h) = omega arith
own_at_least wrong_part = omega arith
own_at_least past_limit = omega arith

not_wanted : (wanted given : Sort) → given ≡ wanted → given ≢ wanted → ⊥
not_wanted wanted given e h = h e

-- ---- lists: `known` is what is known of the operator
module _ (scope : Scope) (p : ℕ) (head : Form) (rest : Forms) where
  abbrev whole : Form
  whole = list p (more head rest)

  pub unknown_clear : (wanted : Option Sort) → operator_in scope.declared whole ≡ None → (kind : Kind) → IsOwn (term scope wanted) whole kind → ⊥
  unknown_clear wanted u kind (no_term h) = cc
  unknown_clear wanted u kind (unknown_name h i) = cc
  unknown_clear wanted u kind (wrong_arity {op = op} h i) = let e : Some op ≡ None = sym h ∙ u in cc
  unknown_clear wanted u kind (wrong_sort {given = given} h i) = let e : Some given ≡ None = sym h ∙ ap (option_map sort_of) u in cc
  unknown_clear wanted u kind (lacking h i) = cc

  pub arity_least : (wanted : Option Sort) (kind : Kind) → IsOwn (term scope wanted) whole kind → 9 ≤ fault_number kind
  arity_least wanted kind (no_term h) = cc
  arity_least wanted kind (unknown_name h i) = cc
  arity_least wanted kind (wrong_arity h i) = omega arith
  arity_least wanted kind (wrong_sort h i) = omega arith
  arity_least wanted kind (lacking h i) = cc

  pub sort_least : (wanted : Option Sort) (op : Op) → operator_in scope.declared whole ≡ Some op → length (parts_of whole) ≡ 1 + arity_of_op op → (kind : Kind) → IsOwn (term scope wanted) whole kind → 10 ≤ fault_number kind
  sort_least wanted op k n kind (no_term h) = cc
  sort_least wanted op k n kind (unknown_name h i) = cc
  sort_least wanted op k n kind (wrong_arity {op = other} h i) =
      let e : Some other ≡ Some op = sym h ∙ k in
      let same : op ≡ other = cc in
      absurd (i (n ∙ ap (λ o. 1 + arity_of_op o) same))
  sort_least wanted op k n kind (wrong_sort h i) = omega arith
  sort_least wanted op k n kind (lacking h i) = cc

  pub application_clear : (wanted : Option Sort) (op : Op) → IsApplicationForm scope wanted whole op → (kind : Kind) → IsOwn (term scope wanted) whole kind → ⊥
  application_clear wanted op a kind (no_term h) = cc
  application_clear wanted op a kind (unknown_name h i) = cc
  application_clear wanted op a kind (wrong_arity {op = other} h i) =
      let e : Some other ≡ Some op = sym h ∙ a.known in
      let same : op ≡ other = cc in
      i (a.count ∙ ap (λ o. 1 + arity_of_op o) same)
  application_clear wanted op a kind (wrong_sort {wanted = one} {given = given} h i) =
      let e : Some given ≡ Some (sort_of op) = sym h ∙ ap (option_map sort_of) a.known in
      let same : given ≡ sort_of op = cc in
      i (same ∙ a.wanted_one)
  application_clear wanted op a kind (lacking h i) = cc

-- ---- atoms
module _ (scope : Scope) (p : ℕ) where
  pub number_clear : (wanted : Option Sort) (n : ℕ) → IsWanted wanted sorts.Word → (kind : Kind) → IsOwn (term scope wanted) (atom p (number n)) kind → ⊥
  number_clear wanted n w kind (no_term h) = cc
  number_clear wanted n w kind (unknown_name h i) = cc
  number_clear wanted n w kind (wrong_arity h i) = cc
  number_clear wanted n w kind (wrong_sort {given = given} h i) =
      let same : sorts.Word ≡ given = cc in
      i (sym same ∙ w)
  number_clear wanted n w kind (lacking h i) = cc

  pub number_least : (wanted : Option Sort) (n : ℕ) (kind : Kind) → IsOwn (term scope wanted) (atom p (number n)) kind → 10 ≤ fault_number kind
  number_least wanted n kind (no_term h) = cc
  number_least wanted n kind (unknown_name h i) = cc
  number_least wanted n kind (wrong_arity h i) = cc
  number_least wanted n kind (wrong_sort h i) = omega arith
  number_least wanted n kind (lacking h i) = cc

  pub name_clear : (wanted : Option Sort) (bytes : List ℕ) (named : Named) → leaf_named scope.leaves bytes ≡ Some named → (named ≢ Lacking) → IsWanted wanted (sort_of_leaf named) → (kind : Kind) → IsOwn (term scope wanted) (atom p (name bytes)) kind → ⊥
  name_clear wanted bytes named l u w kind (no_term h) = cc
  name_clear wanted bytes named l u w kind (unknown_name {bytes = other} h i) =
      let same : bytes ≡ other = cc in
      let e : Some named ≡ None = sym l ∙ ap (leaf_named scope.leaves) same ∙ i in cc
  name_clear wanted bytes named l u w kind (wrong_arity h i) = cc
  name_clear wanted bytes named l u w kind (wrong_sort {given = given} h i) =
      let e : Some given ≡ Some (sort_of_leaf named) = sym h ∙ ap (option_map sort_of_leaf) l in
      let same : given ≡ sort_of_leaf named = cc in
      i (same ∙ w)
  name_clear wanted bytes named l u w kind (lacking {bytes = other} h i) =
      let same : bytes ≡ other = cc in
      let e : Some named ≡ Some Lacking = sym l ∙ ap (leaf_named scope.leaves) same ∙ i in
      let is : named ≡ Lacking = cc in
      u is

  pub name_sort_least : (wanted : Option Sort) (bytes : List ℕ) (named : Named) → leaf_named scope.leaves bytes ≡ Some named → (kind : Kind) → IsOwn (term scope wanted) (atom p (name bytes)) kind → 10 ≤ fault_number kind
  name_sort_least wanted bytes named l kind (no_term h) = cc
  name_sort_least wanted bytes named l kind (unknown_name {bytes = other} h i) =
      let same : bytes ≡ other = cc in
      let e : Some named ≡ None = sym l ∙ ap (leaf_named scope.leaves) same ∙ i in cc
  name_sort_least wanted bytes named l kind (wrong_arity h i) = cc
  name_sort_least wanted bytes named l kind (wrong_sort h i) = omega arith
  name_sort_least wanted bytes named l kind (lacking h i) = omega arith

  pub name_axiom_least : (wanted : Option Sort) (bytes : List ℕ) → leaf_named scope.leaves bytes ≡ Some Lacking → IsWanted wanted sorts.Word → (kind : Kind) → IsOwn (term scope wanted) (atom p (name bytes)) kind → 12 ≤ fault_number kind
  name_axiom_least wanted bytes l w kind (no_term h) = cc
  name_axiom_least wanted bytes l w kind (unknown_name {bytes = other} h i) =
      let same : bytes ≡ other = cc in
      let e : Some Lacking ≡ None = sym l ∙ ap (leaf_named scope.leaves) same ∙ i in cc
  name_axiom_least wanted bytes l w kind (wrong_arity h i) = cc
  name_axiom_least wanted bytes l w kind (wrong_sort {given = given} h i) =
      let e : Some given ≡ Some sorts.Word = sym h ∙ ap (option_map sort_of_leaf) l in
      let same : given ≡ sorts.Word = cc in
      absurd (i (same ∙ w))
  name_axiom_least wanted bytes l w kind (lacking h i) = omega arith

  pub name_unknown_least : (wanted : Option Sort) (bytes : List ℕ) → (kind : Kind) → IsOwn (term scope wanted) (atom p (name bytes)) kind → 7 ≤ fault_number kind
  name_unknown_least wanted bytes kind (no_term h) = cc
  name_unknown_least wanted bytes kind (unknown_name h i) = omega arith
  name_unknown_least wanted bytes kind (wrong_arity h i) = cc
  name_unknown_least wanted bytes kind (wrong_sort h i) = omega arith
  name_unknown_least wanted bytes kind (lacking h i) = omega arith

pub operator_least : (declared : List DeclaredOp) (form : Form) (bytes : List ℕ) → name_in form ≡ Some bytes → (kind : Kind) → IsOwn (operator declared) form kind → 7 ≤ fault_number kind
operator_least declared form bytes n kind (no_operator_name h) = let e : Some bytes ≡ None = sym n ∙ h in cc
operator_least declared form bytes n kind (unknown_operator h i) = omega arith

pub operator_clear : (declared : List DeclaredOp) (form : Form) (bytes : List ℕ) (op : Op) → name_in form ≡ Some bytes → operator_named declared bytes ≡ Some op → (kind : Kind) → IsOwn (operator declared) form kind → ⊥
operator_clear declared form bytes op n o kind (no_operator_name h) = let e : Some bytes ≡ None = sym n ∙ h in cc
operator_clear declared form bytes op n o kind (unknown_operator {bytes = other} h i) =
    let e : Some bytes ≡ Some other = sym n ∙ h in
    let same : bytes ≡ other = cc in
    let f : Some op ≡ None = sym o ∙ ap (operator_named declared) same ∙ i in cc
