use Rattle.std.proofs.Common.{◌≡◌, ℕ, ◌<◌, true, [], get_or}
use Rattle.text_core.specs.LineTexts.{words_of_lines}
use Rattle.run_texts.specs.RunFaults.{begins_with_word}
use Rattle.run_texts.proofs.line_reading.word_lines.Given as goal

-- Each line so far begins with `word`.
abbrev pub invariant-loop-line : goal.invariant-loop-line
invariant-loop-line l = (k : ℕ) → k < l.line → begins_with_word (get_or (words_of_lines l.text) k []) ≡ true
