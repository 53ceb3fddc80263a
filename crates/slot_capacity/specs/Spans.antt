-- From when to when the launches of a row are that have variables.
-- Source: this project.
use Rattle.std.specs.Prelude.{ℕ, ◌==◌, min, max, List, map, Option, Some, None, filter, fold}
use Rattle.graph_meaning.specs.declared.graphs.LaunchGraph.{LaunchGraph}
use Rattle.schedule_meaning.specs.declared.schedules.Launch.{Launch}
use Rattle.cycle_encoding.specs.Variables.{row_numbers}
use Rattle.slot_capacity.specs.declared.spans.Span.{Span}

-- the span with a launch more
abbrev pub widened : Option Span → Launch → Option Span
widened None l = Some (record { first = l.cycle; last = l.cycle })
widened (Some s) l = Some (record { first = min s.first l.cycle; last = max s.last l.cycle })

-- the first and the last cycle of the row's launches among these, if there are any
abbrev pub span_of : List Launch → ℕ → Option Span
span_of ls row = fold widened None (filter (λ l. l.row == row) ls)

-- of each row's number
abbrev pub spans_of : LaunchGraph → List Launch → List (Option Span)
spans_of g ls = map (span_of ls) (row_numbers g)
