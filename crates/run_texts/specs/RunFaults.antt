-- What a text of a program is read as, and its first fault. Source: this project.
use Rattle.std.specs.Prelude.{ℕ, ◌≡◌, ◌+◌, ◌<◌, ◌≤◌, Bool, false, bytes_eq, List, [], ◌∷◌, length, take, codes}
use Rattle.std.specs.List.{prefix_len}
use Rattle.text_core.specs.Limits.{most_words, most_places}
use Rattle.text_core.specs.Lines.{Line, HasLines, IsFirstLineFault, line_at}
use Rattle.text_core.specs.LineTexts.{Words, words_of_lines}
use Rattle.text_core.specs.declared.faults.Kind.{Kind}
use Rattle.text_core.specs.declared.faults.Kind.TheVariants.{BadLine, LimitPassed}
use Rattle.run_texts.specs.declared.texts.RunText.{RunText}
use Rattle.run_texts.specs.RunTexts.{IsRunText}

-- at most 4,096 words and 4,096 places; of registers there are 31, and each comes once
pub record IsWithinLimits (run : RunText) : Type 0 where
  pub words : length run.words ≤ most_words
  pub places : length run.places ≤ most_places

abbrev pub begins_with_word : Words → Bool
begins_with_word [] = false
begins_with_word (first ∷ words) = bytes_eq first (codes "word")

-- the number of words: how many lines at the front begin with `word`
abbrev pub word_count : List Words → ℕ
word_count lines = prefix_len begins_with_word lines

-- A fault at the line of this number. BadLine: the lines before it are the front of a program, and with it they are
-- none. LimitPassed: with it they are one that is past the limits.
pub data IsRunFaultAt (lines : List Words) (at : ℕ) (kind : Kind) : Type 0 where
  bad_line : {run : RunText} → at < length lines → IsRunText (word_count lines) (take at lines) run
      → ((longer : RunText) → IsRunText (word_count lines) (take (at + 1) lines) longer → ⊥) → kind ≡ BadLine
      → IsRunFaultAt lines at kind
  past_limit : {run : RunText} → at < length lines → IsRunText (word_count lines) (take (at + 1) lines) run
      → (IsWithinLimits run → ⊥) → kind ≡ LimitPassed → IsRunFaultAt lines at kind

-- the fault of the first faulty line, at its first byte
pub record IsFirstRunFault (lines : List Line) (place : ℕ) (kind : Kind) : Type 0 where
  pub at : ℕ
  pub found : IsRunFaultAt (words_of_lines lines) at kind
  pub placed : place ≡ (line_at lines at).place
  pub earliest : (other : ℕ) (another : Kind) → IsRunFaultAt (words_of_lines lines) other another → at ≤ other

-- A byte that no line has, then an empty word or a last line without line feed, then the first faulty line.
pub data IsRunFault (text : List ℕ) (place : ℕ) (kind : Kind) : Type 0 where
  of_lines : IsFirstLineFault text place kind → IsRunFault text place kind
  of_run : {lines : List Line} → HasLines text lines → IsFirstRunFault lines place kind → IsRunFault text place kind

-- A text is read as this program: its lines say it, and it is within the limits.
pub record ReadsRun (text : List ℕ) (run : RunText) : Type 0 where
  pub lines : List Line
  pub split : HasLines text lines
  pub is : IsRunText (length run.words) (words_of_lines lines) run
  pub within : IsWithinLimits run
