-- The first faults of terms that are atoms, and what they write.
use Rattle.std.proofs.Common.{◌≡◌, ℕ, false, Option, None, Some, List, refl, sym, ap, ◌∙◌, subst, option_map}
use Rattle.word_ops.specs.declared.sorts.Sort.{Sort}
use Rattle.word_ops.specs.declared.sorts.Sort.TheVariants as sorts
use Rattle.word_ops.specs.declared.sorts.Op.{Op}
use Rattle.word_ops.specs.declared.sorts.Op.TheVariants as ops
use Rattle.word_terms.specs.Tree as tree
use Rattle.word_terms.specs.Tree.{Tree}
use Rattle.text_core.specs.declared.faults.Kind.{Kind}
use Rattle.text_core.specs.declared.faults.Kind.TheVariants.{BadForm, UnknownName, WrongSort, BadAxiom}
use Rattle.text_core.specs.Faults.{IsFirst}
use Rattle.forms.specs.Forms.{Form, atom, list, name, number, register, parenthesis, place_of, name_in, number_in, is_list}
use Rattle.forms.specs.Forms.{Stands}
use Rattle.forms.proofs.First.{first_own}
use Rattle.goal_reader.specs.declared.scopes.Scope.{Scope}
use Rattle.goal_reader.specs.declared.scopes.Named.{Named}
use Rattle.goal_reader.specs.declared.scopes.Named.TheVariants.{Memory, Input, Variable, Lacking, Let}
use Rattle.goal_reader.specs.Scopes.{leaf_named}
use Rattle.goal_reader.specs.Terms.{Writes, memory, input, variable, binding, constant}
use Rattle.goal_reader.specs.Roles.{term, IsOwn, no_term, unknown_name, lacking, sort_of_leaf, sort_in, can_be_term, part_role, IsFaultAs, IsWanted, WritesTerm}
use Rattle.goal_reader.proofs.Heads.{wanted_fails}
use Rattle.goal_reader.proofs.Owns as owns

pub number_is : (form : Form) (n : ℕ) → number_in form ≡ Some n → form ≡ atom (place_of form) (number n)
number_is (atom p (number m)) n e = ap (λ k. atom p (number k)) (let same : m ≡ n = cc in same)
number_is (atom p (name bytes)) n e = cc
number_is (atom p (register bytes)) n e = cc
number_is (atom p parenthesis) n e = cc
number_is (list p parts) n e = cc

pub name_is : (form : Form) (bytes : List ℕ) → name_in form ≡ Some bytes → form ≡ atom (place_of form) (name bytes)
name_is (atom p (name other)) bytes e = ap (λ k. atom p (name k)) (let same : other ≡ bytes = cc in same)
name_is (atom p (number n)) bytes e = cc
name_is (atom p (register other)) bytes e = cc
name_is (atom p parenthesis) bytes e = cc
name_is (list p parts) bytes e = cc

no_term_atom : (form : Form) → is_list form ≡ false → number_in form ≡ None → name_in form ≡ None → can_be_term form ≡ false
no_term_atom (atom p (number n)) l m e = cc
no_term_atom (atom p (name other)) l m e = cc
no_term_atom (atom p (register other)) l m e = refl
no_term_atom (atom p parenthesis) l m e = refl
no_term_atom (list p parts) l m e = cc

module _ (scope : Scope) (wanted : Option Sort) (form : Form) where
  abbrev First : ℕ → Kind → Type 0
  First place kind = IsFirst (IsFaultAs (term scope wanted) form) place kind

  abbrev Own : Form → Kind → Type 0
  Own x kind = IsOwn (term scope wanted) x kind

  module _ (low high : ℕ) (h : Stands low high form) where
    pub form_first : is_list form ≡ false → number_in form ≡ None → name_in form ≡ None → First (place_of form) BadForm
    form_first l m e = first_own IsOwn part_role (term scope wanted) form low high BadForm h (no_term (no_term_atom form l m e)) (λ k is. owns.own_at_least is)

    pub number_sort_first : (n : ℕ) → number_in form ≡ Some n → (IsWanted wanted sorts.Word → ⊥) → First (place_of form) WrongSort
    number_sort_first n e w =
        let is = number_is form n e in
        first_own IsOwn part_role (term scope wanted) form low high WrongSort h
        (wanted_fails scope wanted form sorts.Word (ap (sort_in scope) is) w) (λ k i. owns.number_least scope (place_of form) wanted n k (subst (λ (x : Form). Own x k) is i))

    pub unknown_name_first : (bytes : List ℕ) → name_in form ≡ Some bytes → leaf_named scope.leaves bytes ≡ None → First (place_of form) UnknownName
    unknown_name_first bytes e u =
        let is = name_is form bytes e in
        first_own IsOwn part_role (term scope wanted) form low high UnknownName h
        (unknown_name e u) (λ k i. owns.name_unknown_least scope (place_of form) wanted bytes k (subst (λ (x : Form). Own x k) is i))

    pub name_sort_first : (bytes : List ℕ) (named : Named) → name_in form ≡ Some bytes → leaf_named scope.leaves bytes ≡ Some named → (IsWanted wanted (sort_of_leaf named) → ⊥) → First (place_of form) WrongSort
    name_sort_first bytes named e l w =
        let is = name_is form bytes e in
        first_own IsOwn part_role (term scope wanted) form low high WrongSort h
        (wanted_fails scope wanted form (sort_of_leaf named) (ap (sort_in scope) is ∙ ap (option_map sort_of_leaf) l) w)
        (λ k i. owns.name_sort_least scope (place_of form) wanted bytes named l k (subst (λ (x : Form). Own x k) is i))

    pub lacking_first : (bytes : List ℕ) → name_in form ≡ Some bytes → leaf_named scope.leaves bytes ≡ Some Lacking → IsWanted wanted sorts.Word → First (place_of form) BadAxiom
    lacking_first bytes e l w =
        let is = name_is form bytes e in
        first_own IsOwn part_role (term scope wanted) form low high BadAxiom h
        (lacking e l) (λ k i. owns.name_axiom_least scope (place_of form) wanted bytes l w k (subst (λ (x : Form). Own x k) is i))

  as_written : (sort : Sort) (x : Form) (t : Tree Op) → form ≡ x → IsWanted wanted sort → Writes scope sort x t → WritesTerm scope wanted form t
  as_written sort x t e w writes = record { sort = sort; wanted_one = w; writes = subst (λ (y : Form). Writes scope sort y t) (sym e) writes }

  pub number_writes : (n : ℕ) (t : Tree Op) → number_in form ≡ Some n → IsWanted wanted sorts.Word → t ≡ tree.application (ops.Constant n) tree.none → WritesTerm scope wanted form t
  number_writes n t e w s = subst (λ (y : Tree Op). WritesTerm scope wanted form y) (sym s) (as_written sorts.Word _ _ (number_is form n e) w constant)

  pub memory_writes : (bytes : List ℕ) (t : Tree Op) → name_in form ≡ Some bytes → leaf_named scope.leaves bytes ≡ Some Memory → IsWanted wanted sorts.Memory → t ≡ tree.application ops.Entry tree.none → WritesTerm scope wanted form t
  memory_writes bytes t e l w s = subst (λ (y : Tree Op). WritesTerm scope wanted form y) (sym s) (as_written sorts.Memory _ _ (name_is form bytes e) w (memory l))

  pub input_writes : (bytes : List ℕ) (reg : ℕ) (t : Tree Op) → name_in form ≡ Some bytes → leaf_named scope.leaves bytes ≡ Some (Input reg) → IsWanted wanted sorts.Word → t ≡ tree.application (ops.Input reg) tree.none → WritesTerm scope wanted form t
  input_writes bytes reg t e l w s = subst (λ (y : Tree Op). WritesTerm scope wanted form y) (sym s) (as_written sorts.Word _ _ (name_is form bytes e) w (input l))

  pub variable_writes : (bytes : List ℕ) (n : ℕ) (t : Tree Op) → name_in form ≡ Some bytes → leaf_named scope.leaves bytes ≡ Some (Variable n) → IsWanted wanted sorts.Word → t ≡ tree.variable n → WritesTerm scope wanted form t
  variable_writes bytes n t e l w s = subst (λ (y : Tree Op). WritesTerm scope wanted form y) (sym s) (as_written sorts.Word _ _ (name_is form bytes e) w (variable l))

  pub binding_writes : (bytes : List ℕ) (n : ℕ) (sort : Sort) (t : Tree Op) → name_in form ≡ Some bytes → leaf_named scope.leaves bytes ≡ Some (Let n sort) → IsWanted wanted sort → t ≡ tree.variable n → WritesTerm scope wanted form t
  binding_writes bytes n sort t e l w s = subst (λ (y : Tree Op). WritesTerm scope wanted form y) (sym s) (as_written sort _ _ (name_is form bytes e) w (binding l))
