-- What the crates below say of lines, graphs, launches, instructions and refutations.
use Rattle.std.proofs.Common.{◌≡◌, ℕ, ◌<◌, ◌^◌, List, map, Some}
use Rattle.std.specs.Prelude.{All}
use Rattle.alpha_encode.specs.Decoded.{decoded}
use Rattle.alpha_encode.specs.Formats.{IsWellFormed, encoded}
use Rattle.alpha_encode.specs.declared.instructions.Instr.{Instr}
use Rattle.cnf_core.specs.declared.line.Line.{Line as Row}
use Rattle.launch_graph.specs.GraphLines.{graph_lines, said}
use Rattle.graph_meaning.specs.WellFormed.{IsLaunchGraph}
use Rattle.graph_meaning.specs.declared.graphs.LaunchGraph.{LaunchGraph}
use Rattle.refutation_check.specs.LineWords.{IsReadableLine, line_words}
use Rattle.text_core.specs.LineTexts.{CanBeLine, lines_text, placed_lines, words_of_lines}
use Rattle.text_core.specs.Lines.{Line, AreLines, IsLineWord}
use Rattle.text_core.specs.Names.{IsName}
use Rattle.answer_texts.specs.AnswerLines.{word_words}
use Rattle.denali_run.proofs.LineWords.{NumbersAreWords}
use Rattle.denali_run.proofs.LinesApart.{PrintedAreLines, LinesAreOne}
use Rattle.denali_run.proofs.SameGraphs.{GraphsAreOne}
use Rattle.denali_run.proofs.SameLaunches.{LaunchLinesAreOne, SlotsAreThere}
use Rattle.denali_run.proofs.SameRefutations.{AcceptedAreReadable, WordsAreOneLine}

pub record Laws : Type 0 where
  pub number : NumbersAreWords
  pub name : (bytes : List ℕ) → IsName bytes → IsLineWord bytes
  pub printed_lines : PrintedAreLines
  pub one_text : LinesAreOne
  pub each : (place : ℕ) (lines : List Line) (text : List ℕ) → AreLines place lines text
      → All CanBeLine (words_of_lines lines)
  pub word_line : (word : ℕ) (instr : Instr) → word < 2 ^ 32 → decoded word ≡ Some instr → CanBeLine (word_words word)
  pub forth : (word : ℕ) (instr : Instr) → word < 2 ^ 32 → decoded word ≡ Some instr
      → IsWellFormed instr × (encoded instr ≡ word)
  pub graph_words : (g : LaunchGraph) → IsLaunchGraph g → All CanBeLine (graph_lines (said g))
  pub graphs : GraphsAreOne
  pub slots : SlotsAreThere
  pub launches : LaunchLinesAreOne
  pub accepted : AcceptedAreReadable
  pub one_line : WordsAreOneLine
  pub refutation_lines : (place : ℕ) (lines : List Row) → All IsReadableLine lines
      → AreLines place (placed_lines place (map line_words lines)) (lines_text (map line_words lines))
