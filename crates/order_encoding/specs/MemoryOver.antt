-- The variables over which the clauses of memory are, and what their tables keep. Source: this project.
use Rattle.std.specs.Prelude.{ℕ, List, ◌+◌, length}
use Rattle.std.specs.List.{range_with_len}
use Rattle.schedule_meaning.specs.declared.schedules.Launch.{Launch}
use Rattle.cycle_encoding.specs.Shapes.{numbered}
use Rattle.order_encoding.specs.OrderVariables.{Held, all_held}
use Rattle.order_encoding.specs.OrderSteps.{AreHeldVars}
use Rattle.order_encoding.specs.declared.memory.MemoryVars.{MemoryVars}

module _ (v : MemoryVars) where
  abbrev pub launched_over : List (ℕ × Launch)
  launched_over = numbered 0 v.launches.now

  abbrev pub held_over : List (ℕ × Held)
  held_over = numbered v.held.first (all_held v.facts.now v.held.cycles)

  -- the last of them
  abbrev pub last_held : ℕ
  last_held = v.held.first + length (all_held v.facts.now v.held.cycles)

  abbrev pub stores_over : List (ℕ × ℕ)
  stores_over = numbered v.stores (range_with_len 0 v.held.cycles)

  abbrev pub AreHeldOver : Type 0
  AreHeldOver = AreHeldVars v.facts.now v.held.cycles v.held.classes.items v.held.starts.items
