-- The left side of an axiom has the faults of a term, and must be an application.
use Rattle.std.proofs.Common.{◌≡◌, ℕ, ◌≤◌, true, false, Some, refl, sym, ap, ◌∙◌, subst, arith, ◌⊎◌, slice_get, inl, inr}
use Rattle.word_ops.specs.declared.sorts.Sort.TheVariants as sorts
use Rattle.text_core.specs.declared.faults.Kind.{Kind}
use Rattle.text_core.specs.declared.faults.Kind.TheVariants.{BadForm, BadAxiom, LimitPassed}
use Rattle.text_core.specs.Faults.{fault_number, IsNotBehind, IsFirst}
use Rattle.forms.specs.Forms.{Form, atom, list, place_of, parts_of, is_list}
use Rattle.forms.specs.Faults.{own, inside}
use Rattle.goal_reader.specs.declared.scopes.Scope.{Scope}
use Rattle.goal_reader.specs.Roles.{Role, term, left_side, IsOwn, no_term, unknown_name, wrong_arity, wrong_sort, lacking, left_term, no_application, IsFaultAs}
use Rattle.goal_reader.specs.Reading.{IsClear}

at_axiom : (place : ℕ) (kind : Kind) (p : ℕ) (k : Kind) → (q : ℕ) → IsNotBehind place kind q BadAxiom → p ≡ q → k ≡ BadAxiom → IsNotBehind place kind p k
at_axiom place kind p k q h e f = subst (λ n. IsNotBehind place kind n k) (sym e) (subst (λ x. IsNotBehind place kind q x) (sym f) h)

module _ (scope : Scope) (form : Form) where
  abbrev as_term : Role
  as_term = term scope (Some sorts.Word)

  -- a fault of the left side is one of the term, or that it is no application
  from_left : (place : ℕ) (kind : Kind) → IsFaultAs (left_side scope) form place kind → (IsFaultAs as_term form place kind) ⊎ ((is_list form ≡ false) × (place ≡ place_of form) × (kind ≡ BadAxiom))
  from_left place kind (own (left_term o) p) = inl (own o p)
  from_left place kind (own (no_application e) p) = inr (e, p, refl)
  from_left place kind (inside at part other a1 a2 g r f) = inl (inside at part other (λ o. a1 (left_term o)) (λ o. a2 (left_term o)) g r f)

  no_own : (k : Kind) → (k ≡ BadAxiom → ⊥) → (IsOwn as_term form k → ⊥) → IsOwn (left_side scope) form k → ⊥
  no_own k n h (left_term o) = h o
  no_own k n h (no_application e) = n refl

  to_left : (place : ℕ) (kind : Kind) → IsFaultAs as_term form place kind → IsFaultAs (left_side scope) form place kind
  to_left place kind (own o p) = own (left_term o) p
  to_left place kind (inside at part other a1 a2 g r f) = inside at part other (no_own BadForm (λ e. cc) a1) (no_own LimitPassed (λ e. cc) a2) g r f

  own_at_most : (k : Kind) → IsOwn as_term form k → fault_number k ≤ 12
  own_at_most k (no_term h) = omega arith
  own_at_most k (unknown_name h i) = omega arith
  own_at_most k (wrong_arity h i) = omega arith
  own_at_most k (wrong_sort h i) = omega arith
  own_at_most k (lacking h i) = omega arith

  no_parts : (f : Form) (at : ℕ) (part : Form) → is_list f ≡ false → slice_get (parts_of f) at ≡ Some part → ⊥
  no_parts (atom p a) at part e g = cc
  no_parts (list p ps) at part e g = cc

  before_axiom : (place : ℕ) (kind : Kind) → IsFaultAs as_term form place kind → is_list form ≡ false → IsNotBehind place kind (place_of form) BadAxiom
  before_axiom place kind (own o p) e = inr (p, own_at_most kind o)
  before_axiom place kind (inside at part other a1 a2 g r f) e = absurd (no_parts form at part e g)

  pub left_first : (place : ℕ) (kind : Kind) → IsFirst (IsFaultAs as_term form) place kind → IsFirst (IsFaultAs (left_side scope) form) place kind
  left_first place kind first = record {
    found = to_left place kind first.found;
    earliest = λ p k f. elim (from_left p k f) [
      | inl one ↦ first.earliest p k one
      | inr atomic ↦ at_axiom place kind p k (place_of form) (before_axiom place kind first.found atomic.0) atomic.1 atomic.2
    ];
  }

  pub atom_first : IsClear as_term form → is_list form ≡ false → IsFirst (IsFaultAs (left_side scope) form) (place_of form) BadAxiom
  atom_first clear e = record {
    found = own (no_application e) refl;
    earliest = λ p k f. elim (from_left p k f) [
      | inl one ↦ absurd (clear p k one)
      | inr atomic ↦ inr (sym atomic.1, let g = ap fault_number atomic.2 in omega (arith, g))
    ];
  }

  pub left_clear : IsClear as_term form → is_list form ≡ true → IsClear (left_side scope) form
  left_clear clear e place kind f = elim (from_left place kind f) [
    | inl one ↦ clear place kind one
    | inr atomic ↦ (let g : true ≡ false = sym e ∙ atomic.0 in cc)
  ]
