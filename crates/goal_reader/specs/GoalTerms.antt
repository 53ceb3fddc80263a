-- A term by itself, over inputs and the memory and without declared operators. Source: this project.
use Rattle.std.specs.Prelude.{ℕ, ◌≡◌, ◌≢◌, false, List, [], ◌∷◌, codes, bytes_eq, slice_get, Some, All, AllPairs}
use Rattle.text_core.specs.Trees.{SexpTrees}
use Rattle.forms.specs.Forms.{Form, forms_list, forms_of, parts_of}
use Rattle.forms.specs.Printing.{lines_of, plains_from}
use Rattle.forms.specs.Reading.{TextHasTrees}
use Rattle.goal_meaning.specs.InputForms.{naming, term_plain}
use Rattle.goal_meaning.specs.WellFormed.{input_registers}
use Rattle.goal_meaning.specs.declared.goals.InputReg.{InputReg}
use Rattle.goal_reader.specs.Roles.{goal_scope}
use Rattle.goal_reader.specs.Terms.{Writes}
use Rattle.goal_reader.specs.declared.scopes.Scope.{Scope}
use Rattle.word_ops.specs.declared.sorts.Op.{Op}
use Rattle.word_ops.specs.declared.sorts.Sort.{Sort}
use Rattle.word_terms.specs.Tree.{Tree}

-- a name means an input, and M the memory
abbrev pub term_scope : List InputReg → Scope
term_scope inputs = goal_scope [] inputs

-- the canonical text of a term, on a line of its own
abbrev pub term_text : List InputReg → Tree Op → List ℕ
term_text inputs t = lines_of (plains_from (term_plain (naming [] inputs []) t ∷ []))

-- names and registers of their own, and no input is named as the memory
pub record AreInputs (inputs : List InputReg) : Type 0 where
  pub names : AllPairs (λ (i j : InputReg). i.name ≢ j.name) inputs
  pub registers : AllPairs (λ a b. a ≢ b) (input_registers inputs)
  pub no_memory : All (λ (i : InputReg). bytes_eq i.name (codes "M") ≡ false) inputs

-- one of the forms, or a part of one of them, however deep
pub data IsWithin (form : Form) : List Form → Type 0 where
  one : {forms : List Form} (at : ℕ) → slice_get forms at ≡ Some form → IsWithin form forms
  part : {forms : List Form} (at : ℕ) (other : Form) → slice_get forms at ≡ Some other
      → IsWithin form (parts_of other) → IsWithin form forms

-- some text writes the term over these inputs
pub record IsReadTerm (inputs : List InputReg) (sort : Sort) (t : Tree Op) : Type 0 where
  pub text : List ℕ
  pub trees : SexpTrees
  pub has : TextHasTrees text trees
  pub form : Form
  pub within : IsWithin form (forms_list (forms_of text trees))
  pub writes : Writes (term_scope inputs) sort form t

-- the text is the one form of a term
pub record IsTextOfTerm (text : List ℕ) (inputs : List InputReg) (sort : Sort) (t : Tree Op) : Type 0 where
  pub trees : SexpTrees
  pub has : TextHasTrees text trees
  pub form : Form
  pub alone : forms_list (forms_of text trees) ≡ form ∷ []
  pub writes : Writes (term_scope inputs) sort form t
