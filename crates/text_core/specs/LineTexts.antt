-- How lines of words are printed. Source: this project.
use Rattle.std.specs.Prelude.{ℕ, ◌≢◌, ◌+◌, All, List, [], ◌∷◌, ◌++◌, length, map, codes}
use Rattle.std.specs.List.{flat_map}
use Rattle.text_core.specs.Lines.{Line, IsLineWord}

-- the words of a line
abbrev pub Words : Type 0
Words = List (List ℕ)

-- no value of the kind has these words
abbrev pub SaysNone : {X : Type 0} → (Words → X → Type 0) → Words → Type 0
SaysNone {X} Is words = (x : X) → Is words x → ⊥

-- one space between words, and a line feed
abbrev pub line_text : Words → List ℕ
line_text [] = codes "\n"
line_text (word ∷ []) = word ++ codes "\n"
line_text (word ∷ next ∷ words) = word ++ (codes " " ++ line_text (next ∷ words))

-- the bytes of lines
abbrev pub lines_text : List Words → List ℕ
lines_text lines = flat_map line_text lines

-- there are words, and each can stand in a line
pub record CanBeLine (words : Words) : Type 0 where
  pub some : words ≢ []
  pub each : All IsLineWord words

-- printed lines with their places, where the first begins at a place
abbrev pub placed_lines : ℕ → List Words → List Line
placed_lines place [] = []
placed_lines place (words ∷ lines) =
    (record { place = place; words = words }) ∷ placed_lines (place + length (line_text words)) lines

-- the words of each line
abbrev pub words_of_lines : List Line → List Words
words_of_lines lines = map (λ (l : Line). l.words) lines
