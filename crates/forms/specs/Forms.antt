-- Forms: the trees of a text, with what each atom says. Source: this project.
use Rattle.std.specs.Prelude.{ℕ, ◌+◌, ◌<◌, ◌≤◌, Bool, true, false, List, [], ◌∷◌, map, filter_map, take, drop, slice_get, Option, Some, None}
use Rattle.text_core.specs.Sexps.{sexp_tree}
use Rattle.text_core.specs.Trees as trees
use Rattle.text_core.specs.Trees.{SexpTree, SexpTrees}
use Rattle.text_core.specs.declared.sexps.Sexp.{Sexp}
use Rattle.text_core.specs.declared.tokens.Token.{Token}
use Rattle.text_core.specs.declared.tokens.TokenKind.{TokenKind}
use Rattle.text_core.specs.declared.tokens.TokenKind.TheVariants as kinds

-- What an atom says: a name and a register by their bytes, a register's with the dollar sign, and a number by its
-- value. A parenthesis is no atom of a tree; it says nothing.
pub data Atom : Type 0 where
  name : List ℕ → Atom
  register : List ℕ → Atom
  number : ℕ → Atom
  parenthesis : Atom

mutual
  -- an atom or a list, and the place of its first byte
  pub data Form : Type 0 where
    atom : ℕ → Atom → Form
    list : ℕ → Forms → Form

  -- forms, in order
  pub data Forms : Type 0 where
    none : Forms
    more : Form → Forms → Forms

abbrev pub forms_list : Forms → List Form
forms_list none = []
forms_list (more form forms) = form ∷ forms_list forms

abbrev pub forms_from : List Form → Forms
forms_from [] = none
forms_from (form ∷ forms) = more form (forms_from forms)

abbrev pub place_of : Form → ℕ
place_of (atom place a) = place
place_of (list place parts) = place

-- the parts of a list; an atom has none
abbrev pub parts_of : Form → List Form
parts_of (atom place a) = []
parts_of (list place parts) = forms_list parts

-- a part of a list by its number from 0
abbrev pub part : ℕ → Form → Option Form
part at form = slice_get (parts_of form) at

abbrev pub atom_of : TokenKind → List ℕ → Atom
atom_of kinds.Name bytes = name bytes
atom_of kinds.Register bytes = register bytes
atom_of (kinds.Number n) bytes = number n
atom_of _ bytes = parenthesis

-- the bytes of a text that a token has
abbrev pub token_bytes : List ℕ → Token → List ℕ
token_bytes text token = take token.len (drop token.place text)

abbrev mutual
  -- the form that a tree of a text is
  pub form_of : List ℕ → SexpTree → Form
  form_of text (trees.atom token) = atom token.place (atom_of token.kind (token_bytes text token))
  form_of text (trees.list place parts) = list place (forms_of text parts)

  pub forms_of : List ℕ → SexpTrees → Forms
  forms_of text trees.none = none
  forms_of text (trees.more tree others) = more (form_of text tree) (forms_of text others)

-- the form that a tree of the code is
unfoldable pub sexp_form : List ℕ → Sexp → Form
sexp_form text sexp = form_of text (sexp_tree sexp)

abbrev pub sexp_forms : List ℕ → List Sexp → List Form
sexp_forms text sexps = map (sexp_form text) sexps

-- the bytes of the name that a form is, if it is one; so the next ones for registers and numbers
abbrev pub name_in : Form → Option (List ℕ)
name_in (atom place (name bytes)) = Some bytes
name_in _ = None

-- the names among forms, in order
abbrev pub names_in : List Form → List (List ℕ)
names_in forms = filter_map name_in forms

abbrev pub register_in : Form → Option (List ℕ)
register_in (atom place (register bytes)) = Some bytes
register_in _ = None

abbrev pub number_in : Form → Option ℕ
number_in (atom place (number n)) = Some n
number_in _ = None

-- the first part of a list, where that is a name
abbrev pub head_in : Form → Option (List ℕ)
head_in (list place (more form forms)) = name_in form
head_in _ = None

abbrev pub is_list : Form → Bool
is_list (list place parts) = true
is_list (atom place a) = false

abbrev mutual
  -- the form begins at `low` or later, and before `high`; the parts of a list stand between its first byte and `high`
  pub Stands : ℕ → ℕ → Form → Type 0
  Stands low high (atom place a) = (low ≤ place) × (place < high)
  Stands low high (list place parts) = (low ≤ place) × Stand (place + 1) high parts

  -- and each of several stands before the next one begins
  pub Stand : ℕ → ℕ → Forms → Type 0
  Stand low high none = low ≤ high
  Stand low high (more form forms) = (middle : ℕ) × (Stands low middle form × Stand middle high forms)
