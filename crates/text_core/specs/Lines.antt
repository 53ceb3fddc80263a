-- Texts of lines of words: answers and programs. Source: this project.
use Rattle.std.specs.Prelude.{ℕ, ◌≡◌, ◌≢◌, ◌+◌, ◌<◌, ◌⊎◌, Bool, true, false, not, ◌||◌, ◌==◌, List, [], ◌∷◌, ◌++◌, length, slice_index_or}
use Rattle.std.specs.Int.{is_in_range}
use Rattle.std.specs.List.{list_all}
use Rattle.text_core.specs.declared.faults.Kind.{Kind}
use Rattle.text_core.specs.declared.faults.Kind.TheVariants.{BadByte, BadLine}
use Rattle.text_core.specs.Faults.{IsFirst}

-- a printable byte of ASCII that isn't the space
abbrev pub is_printed : ℕ → Bool
is_printed b = is_in_range 33 126 b

-- what a text of lines may have: printable ASCII, and line feeds
abbrev pub is_line_byte : ℕ → Bool
is_line_byte b = is_in_range 32 126 b || (b == 10)

pub record IsLineWord (word : List ℕ) : Type 0 where
  pub some : word ≢ []
  pub printed : list_all is_printed word ≡ true

-- the bytes of a line of these words: a word and a line feed, or a word, one space and a line of the others
pub data IsLine : List (List ℕ) → List ℕ → Type 0 where
  last : {word text : List ℕ} → IsLineWord word → text ≡ word ++ 10 ∷ [] → IsLine (word ∷ []) text
  word : {word text : List ℕ} {words : List (List ℕ)} (rest : List ℕ)
      → IsLineWord word → IsLine words rest → text ≡ word ++ 32 ∷ rest → IsLine (word ∷ words) text

-- a line, and the offset of its first byte in the text, from 0
pub record Line : Type 0 where
  pub place : ℕ
  pub words : List (List ℕ)

-- a text from a place on: lines, one after another
pub data AreLines : ℕ → List Line → List ℕ → Type 0 where
  none : {place : ℕ} → AreLines place [] []
  line : {place : ℕ} {words : List (List ℕ)} {lines : List Line} {text : List ℕ} (front rest : List ℕ)
      → IsLine words front → AreLines (place + length front) lines rest → text ≡ front ++ rest
      → AreLines place ((record { place = place; words = words }) ∷ lines) text

abbrev pub HasLines : List ℕ → List Line → Type 0
HasLines text lines = AreLines 0 lines text

-- a byte that no text of lines has, at its place
pub record IsBadByte (text : List ℕ) (place : ℕ) (kind : Kind) : Type 0 where
  pub before : List ℕ
  pub byte : ℕ
  pub behind : List ℕ
  pub whole : text ≡ before ++ byte ∷ behind
  pub refused : is_line_byte byte ≡ false
  pub placed : place ≡ length before
  pub named : kind ≡ BadByte

-- nothing, or bytes of which the last is this one
pub data IsBehind : ℕ → List ℕ → Type 0 where
  front : {b : ℕ} → IsBehind b []
  behind : {b : ℕ} {bytes : List ℕ} (more : List ℕ) → bytes ≡ more ++ b ∷ [] → IsBehind b bytes

-- nothing, or bytes of which the first is this one
pub data IsBefore : ℕ → List ℕ → Type 0 where
  end : {b : ℕ} → IsBefore b []
  before : {b : ℕ} {bytes : List ℕ} (more : List ℕ) → bytes ≡ b ∷ more → IsBefore b bytes

-- Somewhere in the line, a space or the end of the line is on both sides of no byte at all.
pub record HasEmptyWord (line : List ℕ) : Type 0 where
  pub left : List ℕ
  pub right : List ℕ
  pub whole : line ≡ left ++ right
  pub behind_space : IsBehind 32 left
  pub before_space : IsBefore 32 right

-- What stands from the text's front or a line feed on, up to the next line feed or the end of the text: it isn't
-- ended by a line feed, or has an empty word. Its place is that of its first byte, which may be the line feed.
pub record IsBadLine (text : List ℕ) (place : ℕ) (kind : Kind) : Type 0 where
  pub before : List ℕ
  pub line : List ℕ
  pub behind : List ℕ
  pub whole : text ≡ before ++ (line ++ behind)
  pub begins : IsBehind 10 before
  pub one : list_all (λ b. not (b == 10)) line ≡ true
  pub ends : IsBefore 10 behind
  pub some : line ++ behind ≢ []
  pub bad : (behind ≡ []) ⊎ HasEmptyWord line
  pub placed : place ≡ length before
  pub named : kind ≡ BadLine

-- The first byte that isn't allowed, wherever it stands; where there is none, the first line that isn't one.
pub data IsFirstLineFault : List ℕ → ℕ → Kind → Type 0 where
  bad_byte : {text : List ℕ} {place : ℕ} {kind : Kind}
      → IsFirst (IsBadByte text) place kind → IsFirstLineFault text place kind
  bad_line : {text : List ℕ} {place : ℕ} {kind : Kind}
      → ((other_place : ℕ) (other_kind : Kind) → IsBadByte text other_place other_kind → ⊥)
      → IsFirst (IsBadLine text) place kind → IsFirstLineFault text place kind

-- a line by its number from 0
abbrev pub line_at : List Line → ℕ → Line
line_at lines index = slice_index_or lines index (record { place = 0; words = [] })

-- a word of a line, both by their numbers from 0
abbrev pub line_word : List Line → ℕ → ℕ → List ℕ
line_word lines index at = slice_index_or (line_at lines index).words at []

-- each word of a line has one byte behind it
abbrev pub line_length : List (List ℕ) → ℕ
line_length [] = 0
line_length (bytes ∷ words) = length bytes + 1 + line_length words

-- how many bytes lines have
abbrev pub text_length : List Line → ℕ
text_length [] = 0
text_length (one ∷ lines) = line_length one.words + text_length lines

-- where a line begins, and where the text ends in place of a line past the last
pub record BeginsAt (lines : List Line) (number place : ℕ) : Type 0 where
  pub within : number < length lines → place ≡ (line_at lines number).place
  pub past : number ≡ length lines → place ≡ text_length lines
