-- Lines that are the front of a graph, with no fault so far. No public clause rests on this. Source: this project.
use Rattle.std.specs.Prelude.{ℕ, ◌≡◌, ◌⊎◌, ◌+◌, ◌<◌, ◌≤◌, List, [], ◌∷◌, length, take, drop, get_or}
use Rattle.word_ops.specs.declared.sorts.Sort.{Sort}
use Rattle.text_core.specs.Lines.{Line, line_at}
use Rattle.launch_graph.specs.declared.row_lines.RowLine.{RowLine}
use Rattle.launch_graph.specs.LineFormats.{words_between}
use Rattle.launch_graph.specs.LineFaults.{AreRowLines}
use Rattle.launch_graph.specs.GraphLines.{rows_words}
use Rattle.launch_graph.specs.GraphTexts.{IsClassLine}
use Rattle.launch_graph.specs.GraphStages.{Stage, start, ReachesStage}
use Rattle.launch_graph.specs.RowFaults.{IsBadRow, IsBadClass, IsWrongClass}
use Rattle.launch_graph.specs.RowLines.{IsRowLine}

-- each line is the row at its place
pub data EachRow : List Line → List RowLine → Type 0 where
  no_rows : EachRow [] []
  row : {line : Line} {lines : List Line} {one : RowLine} {rows : List RowLine}
      → IsRowLine line.words one → EachRow lines rows → EachRow (line ∷ lines) (one ∷ rows)

-- a row is right behind those before it
pub record IsGoodRow (count : ℕ) (all before : List RowLine) (row : RowLine) : Type 0 where
  pub row_is : IsBadRow before row → ⊥
  pub class_is : IsBadClass count all before row → ⊥

-- no class of the line is wrong
abbrev pub HasGoodClasses : ℕ → List RowLine → Line → Type 0
HasGoodClasses count all line =
    (class : ℕ) (sort : Sort) → IsClassLine line.words class sort → IsWrongClass count all sort class → ⊥

-- Up to a line, the lines from a number on are a header, so many rows and lines behind them, and none has a fault.
-- `all` are the rows of the block, of which some may stand behind that line.
pub record IsClean (version : ℕ) (lines : List Line) (from count : ℕ) (all before : List RowLine) (at : ℕ) (s : Stage) : Type 0 where
  pub low : from < length lines
  pub header_is : (line_at lines from).words ≡ rows_words count
  pub few : count ≤ 1000000
  pub each : EachRow (take (length before) (drop (from + 1) lines)) before
  pub all_are : AreRowLines (take count (drop (from + 1) lines)) all
  pub good : (i : ℕ) (d : RowLine) → i < length before → IsGoodRow count all (take i before) (get_or before i d)
  pub reaches : ReachesStage version start (words_between lines from at) s
  pub order : from + 1 + length before ≤ at
  pub within : at ≤ length lines
  pub most : length before ≤ count
  pub whole : (at ≡ from + 1 + length before) ⊎ (length before ≡ count)
  pub classes : (j : ℕ) → from + 1 + count ≤ j → j < at → HasGoodClasses count all (line_at lines j)
