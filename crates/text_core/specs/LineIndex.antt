-- Where the lines and the words of a text stand. Source: this project.
use Rattle.std.specs.Prelude.{ℕ, ◌≡◌, ◌+◌, ◌<◌, ◌^◌, ◌==◌, List, [], ◌∷◌, ◌++◌, length, take, slice_index, true, false}
use Rattle.std.specs.List.{slice_split, list_all, AllByRecursion}
use Rattle.text_core.specs.Lines.{Line, HasLines, AreLines, IsLineWord, is_printed, is_line_byte}

-- what stands between spaces
abbrev pub words_in : List ℕ → List (List ℕ)
words_in line = slice_split (λ b. b == 32) line

-- the parts of a text that line feeds end, from a place on; what stands behind the last line feed is none
abbrev pub lines_from : ℕ → List (List ℕ) → List Line
lines_from place [] = []
lines_from place (part ∷ []) = []
lines_from place (part ∷ next ∷ parts) =
    (record { place = place; words = words_in part }) ∷ lines_from (place + (length part + 1)) (next ∷ parts)

-- the lines of a text that has lines; of any other text this says nothing
unfoldable pub lines_in : List ℕ → List Line
lines_in text = lines_from 0 (slice_split (λ b. b == 10) text)

-- the places of words that stand from a place on, each with one byte behind it, and where they end
abbrev pub word_places : ℕ → List (List ℕ) → List ℕ
word_places place [] = place ∷ []
word_places place (word ∷ words) = place ∷ word_places (place + (length word + 1)) words

-- all words of some lines, in order
abbrev pub all_words : List Line → List (List ℕ)
all_words [] = []
all_words (line ∷ lines) = line.words ++ all_words lines

-- for each line the number of its first word among all words, and how many words there are
abbrev pub first_words : ℕ → List Line → List ℕ
first_words count [] = count ∷ []
first_words count (line ∷ lines) = count ∷ first_words (count + length line.words) lines

-- the index of a text of lines
pub record IsIndex (text : List ℕ) (lines : List Line) (words firsts : List ℕ) : Type 0 where
  pub small : length text < 2 ^ 29
  pub lines_are : HasLines text lines
  pub words_are : words ≡ word_places 0 (all_words lines)
  pub firsts_are : firsts ≡ first_words 0 lines

-- each of the words so far has a space behind it
abbrev pub spaced : List (List ℕ) → List ℕ
spaced [] = []
spaced (word ∷ words) = word ++ 32 ∷ spaced words

-- Up to a place, a text is whole lines, words of the next line, and bytes of its next word. The index so far ends where
-- that word begins, and for the lines with the number of the next line's first word.
pub record IsSplitTo (text : List ℕ) (at line start : ℕ) (words firsts : List ℕ) (first : ℕ) : Type 0 where
  pub lines : List Line
  pub front : List ℕ
  pub done : List (List ℕ)
  pub part : List ℕ
  pub whole : take at text ≡ front ++ (spaced done ++ part)
  pub lines_are : AreLines 0 lines front
  pub words_done : AllByRecursion IsLineWord done
  pub printed : list_all is_printed part ≡ true
  pub line_is : line ≡ length front
  pub start_is : start ≡ length front + length (spaced done)
  pub words_are : words ++ start ∷ [] ≡ word_places 0 (all_words lines ++ done)
  pub firsts_are : firsts ++ first ∷ [] ≡ first_words 0 lines

-- each byte of the text is allowed
abbrev pub AreLineBytes : List ℕ → Type 0
AreLineBytes text = list_all is_line_byte text ≡ true

-- the first byte that isn't allowed is at a place
pub record IsFirstRefused (text : List ℕ) (place : ℕ) : Type 0 where
  pub within : place < length text
  pub before : list_all is_line_byte (take place text) ≡ true
  pub refused : is_line_byte (slice_index text place) ≡ false
