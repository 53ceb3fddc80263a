-- Which classes a launch to the pool may give, as marks. Source: this project.
use Rattle.std.specs.Prelude.{map, ◌≡◌}
use Rattle.cycle_encoding.specs.Framed.{over}
use Rattle.cycle_encoding.specs.Variables.{classes_of}
use Rattle.order_encoding.specs.OrderCounts.{is_pooled_in}
use Rattle.order_encoding.specs.declared.live_counts.PoolMarks.{PoolMarks}

abbrev pub ArePooledMarks : PoolMarks → Type 0
ArePooledMarks p = p.marks.now ≡ map (over p.frame is_pooled_in) (classes_of p.frame.facts.now)
