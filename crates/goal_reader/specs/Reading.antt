-- What the reader's parts give. Source: this project.
use Rattle.std.specs.Prelude.{ℕ, ◌≡◌, ◌||◌, false, List, map, filter_map, Option, Some, slice_get, if◌then◌else◌}
use Rattle.word_ops.specs.declared.sorts.Sort.{Sort}
use Rattle.word_ops.specs.declared.sorts.Op.{Op}
use Rattle.word_terms.specs.Tree.{Tree}
use Rattle.goal_meaning.specs.declared.goals.Let.{Let}
use Rattle.goal_meaning.specs.declared.goals.Set.{Set}
use Rattle.goal_reader.specs.declared.scopes.Scope.{Scope}
use Rattle.text_core.specs.declared.faults.Kind.{Kind}
use Rattle.forms.specs.Forms.{Form, name_in, number_in, parts_of}
use Rattle.word_ops.specs.declared.sorts.Arity.{Arity}
use Rattle.goal_meaning.specs.declared.goals.InputReg.{InputReg}
use Rattle.text_core.specs.Names.{is_among}
use Rattle.goal_reader.specs.Roles.{Role, IsFaultAs, WritesTerm, arity_named, mentions, numbered_leaves}
use Rattle.goal_meaning.specs.Names.{is_reserved}
use Rattle.goal_meaning.specs.declared.goals.DeclaredOp.{DeclaredOp}
use Rattle.goal_reader.specs.declared.scopes.Named.{Named}
use Rattle.goal_reader.specs.declared.scopes.Named.TheVariants.{Variable, Lacking}

-- the form has no fault
abbrev pub IsClear : Role → Form → Type 0
IsClear role form = (place : ℕ) (kind : Kind) → IsFaultAs role form place kind → ⊥

abbrev pub names_of_inputs : List InputReg → List (List ℕ)
names_of_inputs inputs = map (λ (i : InputReg). i.name) inputs

-- a name that is free
pub record IsOwnName (names : List (List ℕ)) (form : Form) (bytes : List ℕ) : Type 0 where
  pub named : name_in form ≡ Some bytes
  pub free : is_reserved bytes || is_among names bytes ≡ false

-- the part of this number writes the term
pub record WritesPart (scope : Scope) (wanted : Option Sort) (form : Form) (at : ℕ) (term : Tree Op) : Type 0 where
  pub part : Form
  pub found : slice_get (parts_of form) at ≡ Some part
  pub writes : WritesTerm scope wanted part term

abbrev pub names_of_lets : List Let → List (List ℕ)
names_of_lets lets = map (λ (l : Let). l.name) lets

abbrev pub names_of_targets : List Set → List (List ℕ)
names_of_targets targets = map (λ (t : Set). t.name) targets

abbrev pub pins_of_targets : List Set → List ℕ
pins_of_targets targets = filter_map (λ (t : Set). t.pin) targets

-- what a variable means on the right side of an axiom, by its left side
abbrev pub meaning_right : Form → List ℕ → ℕ → Named
meaning_right left name n = if mentions name left then Variable n else Lacking

-- the names of an axiom's variables on its right side
abbrev pub mentioned_scope : List DeclaredOp → List (List ℕ) → Form → Scope
mentioned_scope declared names left = record {
  declared = declared;
  leaves = numbered_leaves 0 (meaning_right left) names;
}

-- a number of operands that an operator may have
pub record IsArityOf (form : Form) (arity : Arity) : Type 0 where
  pub count : ℕ
  pub is : number_in form ≡ Some count
  pub named : arity_named count ≡ Some arity
