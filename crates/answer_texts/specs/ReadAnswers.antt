-- Which answer a text is read as, and its first fault. Source: this project.
use Rattle.std.specs.Prelude.{ℕ, List, length}
use Rattle.text_core.specs.Lines.{Line, HasLines, IsFirstLineFault}
use Rattle.text_core.specs.declared.faults.Kind.{Kind}
use Rattle.answer_texts.specs.AnswerParts.{AnswerPart, AnswerPartFault}
use Rattle.answer_texts.specs.declared.answers.AnswerText.{AnswerText}

-- the text is lines, and all of them say this answer
pub record ReadsAnswer (text : List ℕ) (answer : AnswerText) : Type 0 where
  pub lines : List Line
  pub split : HasLines text lines
  pub says : AnswerPart lines 0 (length lines) answer

-- A byte that no line has, then an empty word or a last line without line feed, then the first fault of the lines.
pub data IsAnswerFault (text : List ℕ) (place : ℕ) (kind : Kind) : Type 0 where
  of_lines : IsFirstLineFault text place kind → IsAnswerFault text place kind
  of_answer : {lines : List Line} → HasLines text lines → AnswerPartFault lines 0 place kind
      → IsAnswerFault text place kind
