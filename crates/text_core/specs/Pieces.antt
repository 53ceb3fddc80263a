-- What a text of goals, axioms and machines consists of: white space, comments, parentheses and atoms. Source: this
-- project.
use Rattle.std.specs.Prelude.{ℕ, ◌≡◌, ⊤, Bool, true, false, not, ◌||◌, ◌==◌, if◌then◌else◌, List, [], ◌∷◌, ◌++◌}
use Rattle.std.specs.List.{list_all}
use Rattle.std.specs.Char.{is_ascii_alphanumeric}
use Rattle.text_core.specs.declared.pieces.PieceKind.{PieceKind}
use Rattle.text_core.specs.declared.pieces.PieceKind.TheVariants.{White, Comment, Opening, Closing, Atom, Stray}

-- a letter, a digit or an underscore
abbrev pub is_word_byte : ℕ → Bool
is_word_byte b = is_ascii_alphanumeric b || (b == 95)

-- space, tab, carriage return or line feed
abbrev pub is_white : ℕ → Bool
is_white b = (b == 32) || (b == 9) || (b == 13) || (b == 10)

-- What a byte begins that stands in no comment and continues no atom: a semicolon begins a comment, and a letter, a
-- digit, an underscore or a dollar sign begins an atom.
unfoldable pub kind_begun : ℕ → PieceKind
kind_begun b =
    if is_white b then White
    else if b == 59 then Comment
    else if b == 40 then Opening
    else if b == 41 then Closing
    else if is_word_byte b || (b == 36) then Atom
    else Stray

-- A comment goes on before a line feed, and an atom with letters, digits and underscores. The others are one byte.
abbrev pub goes_on : PieceKind → ℕ → Bool
goes_on Comment b = not (b == 10)
goes_on Atom b = is_word_byte b
goes_on _ b = false

-- the text is at its end, or its first byte doesn't pass
abbrev pub IsStopped : (ℕ → Bool) → List ℕ → Type 0
IsStopped test [] = ⊤
IsStopped test (b ∷ bs) = test b ≡ false

-- A piece before the rest of a text: a first byte, and as much more as goes on.
pub data IsPiece : List ℕ → List ℕ → Type 0 where
  piece : {first : ℕ} {more rest : List ℕ}
      → list_all (goes_on (kind_begun first)) more ≡ true → IsStopped (goes_on (kind_begun first)) rest
      → IsPiece (first ∷ more) rest

-- A text is these pieces, one after another, and then the rest.
pub data Consists : List ℕ → List (List ℕ) → List ℕ → Type 0 where
  nothing : {rest : List ℕ} → Consists rest [] rest
  front : {text front after : List ℕ} {pieces : List (List ℕ)} {rest : List ℕ}
      → text ≡ front ++ after → IsPiece front after → Consists after pieces rest → Consists text (front ∷ pieces) rest
