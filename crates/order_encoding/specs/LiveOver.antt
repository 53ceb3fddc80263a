-- The variables over which the clauses of live ranges are, and what their tables keep. Source: this project.
use Rattle.std.specs.Prelude.{ℕ, List, ◌+◌, length}
use Rattle.schedule_meaning.specs.declared.schedules.Launch.{Launch}
use Rattle.cycle_encoding.specs.Shapes.{numbered}
use Rattle.cycle_encoding.specs.Variables.{Overwritten, all_overwritten}
use Rattle.order_encoding.specs.LiveVariables.{Need, all_needs, pooled_classes}
use Rattle.order_encoding.specs.OrderSteps.{AreNeedVars}
use Rattle.order_encoding.specs.declared.needs.Live.{Live}

module _ (v : Live) where
  abbrev pub launched_over : List (ℕ × Launch)
  launched_over = numbered 0 v.launches.now

  abbrev pub needed : List Need
  needed = all_needs v.needs.cycles (pooled_classes v.facts.now launched_over)

  abbrev pub needs_over : List (ℕ × Need)
  needs_over = numbered v.needs.first needed

  -- the last of them
  abbrev pub last_need : ℕ
  last_need = v.needs.first + length needed

  abbrev pub lost_over : List (ℕ × Overwritten)
  lost_over = numbered v.over.now.first (all_overwritten v.facts.now v.over.now.cycles)

  abbrev pub AreNeedsOver : Type 0
  AreNeedsOver =
      AreNeedVars v.facts.now v.needs.cycles launched_over v.needs.classes.items v.needs.starts.items
