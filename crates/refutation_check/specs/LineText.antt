-- What stands in front of and behind the words of a line of a refutation, as it is printed. No public clause rests on
-- this. Source: this project.
use Rattle.std.specs.Prelude.{ℕ, List, ◌++◌, codes, decimal}
use Rattle.cnf_core.specs.declared.literal.Lit.{Lit}
use Rattle.refutation_check.specs.LineWords.{literal_word}

-- a space and the word of a literal
abbrev pub literal_text : Lit → List ℕ
literal_text l = codes " " ++ literal_word l

-- a space and the id
abbrev pub hint_text : ℕ → List ℕ
hint_text hint = codes " " ++ decimal hint
