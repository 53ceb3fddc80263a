-- Formats of lines: behind which lines a format can go on. Source: this project.
use Rattle.std.specs.Prelude.{ℕ, List, ◌++◌, drop}
use Rattle.std.specs.List.{slice_range}
use Rattle.text_core.specs.Lines.{Line}
use Rattle.text_core.specs.LineTexts.{Words, words_of_lines}

-- the words of the lines from one number on and before another
abbrev pub words_between : List Line → ℕ → ℕ → List Words
words_between lines from to = words_of_lines (slice_range lines from to)

-- the words of the lines from a number on
abbrev pub words_from : List Line → ℕ → List Words
words_from lines from = words_of_lines (drop from lines)

-- Some text of the format begins with these lines.
pub record GoesOn (IsText : List Words → Type 0) (front : List Words) : Type 0 where
  pub behind : List Words
  pub whole : IsText (front ++ behind)
