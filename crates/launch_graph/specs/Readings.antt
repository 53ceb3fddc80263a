-- Where the rows of a graph begin and end among the lines of a text. No public clause rests on this. Source: this
-- project.
use Rattle.std.specs.Prelude.{ℕ, ◌≡◌, ◌⊎◌, ◌+◌, ◌<◌, ◌≤◌, ◌^◌, List, length}
use Rattle.text_core.specs.Lines.{Line, line_at}
use Rattle.launch_graph.specs.LineReading.{IsHeaderLine}

-- the line is the header of a graph with so many rows
pub record IsHeaderAt (lines : List Line) (from count : ℕ) : Type 0 where
  pub within : from < length lines
  pub few : length lines < 2 ^ 29
  pub is : IsHeaderLine (line_at lines from).words count

-- behind so many lines from the first, or at the end of the text where there are fewer
pub record IsBlockEnd (lines : List Line) (first count end : ℕ) : Type 0 where
  pub order : first ≤ end
  pub within : end ≤ length lines
  pub is : (end ≡ first + count) ⊎ ((end ≡ length lines) × (length lines ≤ first + count))
