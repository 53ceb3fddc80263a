-- What the text of an answer becomes when its refutations are trimmed. Source: this project.
use Rattle.std.specs.Prelude.{◌≡◌, ℕ, List, length, take, slice_get, Option, None, Some}
use Rattle.std.specs.List.{AllZip}
use Rattle.answer_check.specs.Reports.{encoding_named, verdict_words}
use Rattle.answer_check.specs.declared.verdicts.Verdict.{Verdict}
use Rattle.answer_check.specs.declared.verdicts.Verdict.TheVariants.{Size, Refutation}
use Rattle.answer_texts.specs.AnswerLines.{answer_bytes, refuted_cycles}
use Rattle.answer_texts.specs.ReadAnswers.{ReadsAnswer}
use Rattle.answer_texts.specs.declared.answers.AnswerText.{AnswerText}
use Rattle.answer_texts.specs.declared.answers.Claimed.{Claimed}
use Rattle.cnf_core.specs.Formula.{Formula}
use Rattle.cnf_core.specs.Refutation.{IsEmptyOnlyLast, IsFirstRefusal, Refutes}
use Rattle.cnf_core.specs.declared.line.Lines.{Lines}
use Rattle.cycle_encoding.specs.Plans.{IsTooLarge, PassesLimit}
use Rattle.cycle_encoding.specs.declared.encodings.Encoding.{Encoding}
use Rattle.reports.specs.declared.statuses.Status.{Status}
use Rattle.reports.specs.declared.statuses.Status.TheVariants.{Done, Missing}
use Rattle.graph_meaning.specs.declared.graphs.LaunchGraph.{LaunchGraph}
use Rattle.machine_table.specs.declared.tables.Table.{Table}
use Rattle.order_encoding.specs.WholeFormula.{IsFormulaOf}
use Rattle.text_core.specs.LineTexts.{line_text}
use Rattle.refute_trim.specs.Trimmed.{AreTrimmed}

-- a goal's lines, and the clauses of its printed graph that they are to refute
pub record AreToRefute (e : Encoding) (table : Table) (c : Claimed) (f : Formula) (lines : Lines) : Type 0 where
  pub graph : LaunchGraph
  pub printed : c.graph ≡ Some graph
  pub formula : IsFormulaOf e graph table (refuted_cycles c.claim) f
  pub refute : c.refute ≡ Some lines

-- a goal has no lines, and gets none; or its lines refute their clauses, which are within the limits, and these are the
-- needed ones
pub data AreTrimmedLines (e : Encoding) (table : Table) (c : Claimed) : Option Lines → Type 0 where
  no_lines : c.refute ≡ None → AreTrimmedLines e table c None
  needed : {f : Formula} {lines new : Lines} → AreToRefute e table c f lines → ¬ IsTooLarge f → Refutes f lines.lines
      → AreTrimmed (length f.clauses) lines.lines new.lines → AreTrimmedLines e table c (Some new)

-- the same goal with its lines trimmed; its lemmas, if it has some, stay
pub record IsTrimmedGoal (e : Encoding) (table : Table) (c new : Claimed) : Type 0 where
  pub refute : Option Lines
  pub trimmed : AreTrimmedLines e table c refute
  pub is : new ≡ record c { refute = refute }

-- the clauses that a goal's lines are to refute are too large, with these counts; or the lines don't refute them, and
-- the first refused one is this
pub data IsRejectedGoal (e : Encoding) (table : Table) (c : Claimed) : Verdict → Type 0 where
  too_large : {f : Formula} {lines : Lines} {vars clauses : ℕ} → AreToRefute e table c f lines
      → PassesLimit f vars clauses → IsRejectedGoal e table c (Size vars clauses)
  refused : {f : Formula} {lines : Lines} {line why : ℕ} → AreToRefute e table c f lines → ¬ IsTooLarge f
      → IsFirstRefusal (IsEmptyOnlyLast lines.lines) f lines.lines line why
      → IsRejectedGoal e table c (Refutation (refuted_cycles c.claim) line why)

-- these goals with their lines trimmed
abbrev pub AreTrimmedGoals : AnswerText → List Claimed → List Claimed → Type 0
AreTrimmedGoals a goals trimmed = AllZip (IsTrimmedGoal (encoding_named a.encoding) a.table) goals trimmed

-- the answer with the lines of all its goals trimmed
pub record IsTrimmedAnswer (a new : AnswerText) : Type 0 where
  pub goals : List Claimed
  pub each : AreTrimmedGoals a a.goals goals
  pub is : new ≡ record a { goals = goals }

-- the bytes are those of the trimmed answer; or all goals before one are trimmed, that one is rejected, and the bytes
-- are its line alone
pub data IsTrimReport (a : AnswerText) (bytes : List ℕ) : Status → Type 0 where
  trimmed : {new : AnswerText} → IsTrimmedAnswer a new → bytes ≡ answer_bytes new → IsTrimReport a bytes Done
  rejected : (at : ℕ) (goals : List Claimed) {c : Claimed} {v : Verdict} → AreTrimmedGoals a (take at a.goals) goals
      → slice_get a.goals at ≡ Some c → IsRejectedGoal (encoding_named a.encoding) a.table c v
      → bytes ≡ line_text (verdict_words c v) → IsTrimReport a bytes Missing

-- the text reads as an answer, whose bytes it is, and this is the report on it
pub record TrimsText (text bytes : List ℕ) (status : Status) : Type 0 where
  pub answer : AnswerText
  pub reads : ReadsAnswer text answer
  pub text_is : text ≡ answer_bytes answer
  pub report : IsTrimReport answer bytes status
