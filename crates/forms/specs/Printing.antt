-- How forms are printed: one space between tokens, but none behind an opening and before a closing parenthesis, and
-- numbers in decimal. Source: this project.
use Rattle.std.specs.Prelude.{ℕ, ◌≡◌, ◌+◌, ◌<◌, ◌^◌, ⊤, true, max, List, [], ◌∷◌, ◌++◌, decimal}
use Rattle.std.specs.List.{list_all}
use Rattle.forms.specs.Forms as forms
use Rattle.forms.specs.Forms.{Form, Forms, Atom, name, register, number, parenthesis}
use Rattle.text_core.specs.Names.{IsName}
use Rattle.text_core.specs.Pieces.{is_word_byte}

mutual
  -- a form without the places of its parts
  pub data Plain : Type 0 where
    atom : Atom → Plain
    list : Plains → Plain

  pub data Plains : Type 0 where
    none : Plains
    more : Plain → Plains → Plains

abbrev mutual
  pub plain_of : Form → Plain
  plain_of (forms.atom place a) = atom a
  plain_of (forms.list place parts) = list (plains_of parts)

  pub plains_of : Forms → Plains
  plains_of forms.none = none
  plains_of (forms.more form others) = more (plain_of form) (plains_of others)

abbrev pub atom_text : Atom → List ℕ
atom_text (name bytes) = bytes
atom_text (register bytes) = bytes
atom_text (number n) = decimal n
atom_text parenthesis = []

abbrev mutual
  pub plain_text : Plain → List ℕ
  plain_text (atom a) = atom_text a
  plain_text (list parts) = 40 ∷ plains_text parts ++ 41 ∷ []

  pub plains_text : Plains → List ℕ
  plains_text none = []
  plains_text (more one others) = plain_text one ++ others_of others

  -- the others, each behind a space
  pub others_of : Plains → List ℕ
  others_of none = []
  others_of (more one others) = 32 ∷ plain_text one ++ others_of others

-- a dollar sign, and then letters, digits and underscores
pub data IsRegisterText : List ℕ → Type 0 where
  register_text : {rest : List ℕ} → list_all is_word_byte rest ≡ true → IsRegisterText (36 ∷ rest)

abbrev pub CanPrintAtom : Atom → Type 0
CanPrintAtom (name bytes) = IsName bytes
CanPrintAtom (register bytes) = IsRegisterText bytes
CanPrintAtom (number n) = n < 2 ^ 64
CanPrintAtom parenthesis = ⊥

abbrev mutual
  -- its names and registers are such, and its numbers are words
  pub CanPrint : Plain → Type 0
  CanPrint (atom a) = CanPrintAtom a
  CanPrint (list parts) = CanPrintAll parts

  pub CanPrintAll : Plains → Type 0
  CanPrintAll none = ⊤
  CanPrintAll (more one others) = CanPrint one × CanPrintAll others

abbrev mutual
  -- how many lists stand inside one another
  pub levels : Plain → ℕ
  levels (atom a) = 0
  levels (list parts) = 1 + most_levels parts

  pub most_levels : Plains → ℕ
  most_levels none = 0
  most_levels (more one others) = max (levels one) (most_levels others)

-- each form on a line of its own
abbrev pub lines_of : Plains → List ℕ
lines_of none = []
lines_of (more one others) = plain_text one ++ 10 ∷ lines_of others

abbrev pub plains_from : List Plain → Plains
plains_from [] = none
plains_from (one ∷ others) = more one (plains_from others)

-- a list behind its keyword
abbrev pub keyword_list : List ℕ → List Plain → Plain
keyword_list word parts = list (more (atom (name word)) (plains_from parts))
