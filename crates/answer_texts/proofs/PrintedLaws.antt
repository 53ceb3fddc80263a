-- An answer that can be printed is what its bytes are read as.
use Rattle.text_core.specs.LineTexts.{placed_lines}
use Rattle.answer_texts.specs.AnswerLines.{answer_lines, answer_bytes}
use Rattle.answer_texts.specs.Printable.{IsPrintable}
use Rattle.answer_texts.specs.ReadAnswers.{ReadsAnswer}
use Rattle.answer_texts.specs.declared.answers.AnswerText.{AnswerText}
use Rattle.answer_texts.proofs.HexInstrTexts.{PrintedAreLines}
use Rattle.answer_texts.proofs.LibraryLines.{FamilyLaws}
use Rattle.answer_texts.proofs.PrintedClaims.{LinesAreAmong}
use Rattle.answer_texts.proofs.PrintedGoals.{PlainAreGraphs, PinnedAreGraphs, printed_are_graphs}
use Rattle.answer_texts.proofs.PrintedLines.{WordLaws, answer_can, words_placed}
use Rattle.answer_texts.proofs.PrintedWhole.{answer_stands}

pub reads_printed : PrintedAreLines → LinesAreAmong → FamilyLaws → PlainAreGraphs → PinnedAreGraphs → WordLaws → (answer : AnswerText)
    → IsPrintable answer → ReadsAnswer (answer_bytes answer) answer
reads_printed printed among families plain pinned laws answer is =
    record {
      lines = placed_lines 0 (answer_lines answer);
      split = printed 0 (answer_lines answer) (answer_can laws answer is);
      says = answer_stands (placed_lines 0 (answer_lines answer)) among families answer
          (printed_are_graphs plain pinned answer.version answer.encoding is.encoding) is
          (words_placed 0 (answer_lines answer));
    }
