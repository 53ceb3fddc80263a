-- Words as they are printed behind others on a line. No public clause rests on this. Source: this project.
use Rattle.std.specs.Prelude.{ℕ, ◌++◌, List, codes}
use Rattle.std.specs.List.{flat_map}
use Rattle.text_core.specs.LineTexts.{Words}

-- each word with a space before it
abbrev pub words_behind : Words → List ℕ
words_behind words = flat_map (λ (w : List ℕ). codes " " ++ w) words
