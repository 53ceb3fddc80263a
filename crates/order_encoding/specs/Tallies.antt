-- What is counted of each launch of a row, by where it goes. No public clause rests on this. Source: this project.
use Rattle.std.specs.Prelude.{ℕ, ◌&&◌}
use Rattle.graph_meaning.specs.declared.graphs.LaunchGraph.{LaunchGraph}
use Rattle.schedule_meaning.specs.Launches.{gives_word, is_branch, is_load, is_pool, is_set}
use Rattle.schedule_meaning.specs.declared.schedules.To.{To}
use Rattle.cycle_encoding.specs.Counts.{one_if, row_is}
use Rattle.order_encoding.specs.OrderCounts.{overwrites_at, row_uses, row_waits}
use Rattle.order_encoding.specs.declared.tallies.Tally.{Tally}
use Rattle.order_encoding.specs.declared.tallies.Tally.TheVariants.{Branches, Goes, Late, OverLoads, Takes, Uses, Waits}

abbrev pub tallied : Tally → LaunchGraph → ℕ → To → ℕ
tallied Uses = λ g row to. row_uses g row
tallied Branches = λ g row to. one_if (row_is g is_branch row)
tallied Waits = λ g row to. one_if (row_waits g row)
tallied Takes = λ g row to. one_if (is_pool to && row_is g gives_word row)
tallied (Goes j) = λ g row to. one_if (is_set j to)
tallied Late = λ g row to. one_if (overwrites_at g to)
tallied OverLoads = λ g row to. one_if (row_is g is_load row && overwrites_at g to)
