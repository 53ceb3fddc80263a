-- The lines that print linked words.
-- Source: this project.
use Rattle.std.specs.Prelude.{ℕ, List, [], ◌∷◌, ◌++◌, length, map, codes, decimal}
use Rattle.answer_texts.specs.AnswerLines.{word_words}
use Rattle.proc_goal.specs.Views.{BlockTree, ProcTree}
use Rattle.text_core.specs.LineTexts.{Words}

-- so many words
abbrev pub linked_words : ℕ → Words
linked_words count = codes "linked" ∷ decimal count ∷ []

-- the address of a block's first word
abbrev pub block_words : List ℕ → ℕ → Words
block_words name start = codes "block" ∷ name ∷ decimal start ∷ []

abbrev pub block_lines : List BlockTree → List ℕ → List Words
block_lines (b ∷ bs) (start ∷ starts) = block_words b.name start ∷ block_lines bs starts
block_lines _ _ = []

-- the words of a proc, and where its blocks start
abbrev pub linked_lines : ProcTree → List ℕ → List ℕ → List Words
linked_lines p words starts = linked_words (length words) ∷ (map word_words words ++ block_lines p.blocks starts)
