-- What trying to trim the lines of one goal comes to, and what is printed of it; no public clause rests on it alone.
-- Source: this project.
use Rattle.std.specs.Prelude.{◌≡◌, ℕ, List, ◌++◌, Option}
use Rattle.answer_texts.specs.AnswerLines.{goal_lines}
use Rattle.answer_texts.specs.declared.answers.Claimed.{Claimed}
use Rattle.cnf_core.specs.declared.line.Lines.{Lines}
use Rattle.cycle_encoding.specs.declared.encodings.Encoding.{Encoding}
use Rattle.machine_table.specs.declared.tables.Table.{Table}
use Rattle.text_core.specs.LineTexts.{lines_text}
use Rattle.refute_trim.specs.TrimmedAnswers.{AreTrimmedLines, IsRejectedGoal}
use Rattle.refute_trim.specs.declared.goals.Outcome.{Outcome}
use Rattle.refute_trim.specs.declared.goals.Outcome.TheVariants.{Kept, Rejected}

-- the goal's lines are trimmed, or the goal is rejected
abbrev pub IsOutcomeFor : Encoding → Table → Claimed → Outcome → Type 0
IsOutcomeFor e table c (Kept refute) = AreTrimmedLines e table c refute
IsOutcomeFor e table c (Rejected verdict) = IsRejectedGoal e table c verdict

-- the goal with its lines trimmed is printed behind the text
pub record IsPutTrimmed (e : Encoding) (table : Table) (c : Claimed) (old new : List ℕ) : Type 0 where
  pub refute : Option Lines
  pub trimmed : AreTrimmedLines e table c refute
  pub is : new ≡ old ++ lines_text (goal_lines table (record c { refute = refute }))
