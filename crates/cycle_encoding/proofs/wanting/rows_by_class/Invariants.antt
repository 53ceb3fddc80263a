use Rattle.std.proofs.Common.{◌≡◌, map}
use Rattle.std.specs.Prelude.{◌&&◌, ◌==◌}
use Rattle.std.specs.List.{filter, range_with_len}
use Rattle.graph_meaning.specs.WellFormed.{next_class}
use Rattle.schedule_meaning.specs.Launches.{gives_word, class_at}
use Rattle.cycle_encoding.specs.Counts.{row_is}
use Rattle.cycle_encoding.proofs.wanting.rows_by_class.Given as goal

abbrev pub invariant-loop-row : goal.invariant-loop-row
invariant-loop-row l = l.lists.items ≡ map (λ class. filter (λ row. row_is l.facts gives_word row && (class_at l.facts row == class)) (range_with_len 0 l.row)) (range_with_len 0 (next_class l.facts.rows))
