-- The variables over which the clauses of cycles are: those of launches, then of what is seen, then of what is
-- overwritten. Source: this project.
use Rattle.std.specs.Prelude.{ℕ, List, ◌≡◌, ◌+◌, length}
use Rattle.machine_table.specs.Tables.{IsTable}
use Rattle.graph_meaning.specs.WellFormed.{IsLaunchGraph}
use Rattle.schedule_meaning.specs.declared.schedules.Launch.{Launch}
use Rattle.cycle_encoding.specs.declared.families.CycleVars.{CycleVars}
use Rattle.cnf_core.specs.declared.literal.Lit.{Lit}
use Rattle.cycle_encoding.specs.CycleFormula.{Listed, allocation_in, wants_in}
use Rattle.cycle_encoding.specs.Families.{operand_clauses, seen_clauses, target_clauses}
use Rattle.cycle_encoding.specs.Shapes.{numbered}
use Rattle.cycle_encoding.specs.Steps.{AreOverwrittenVars, AreSeenVars}
use Rattle.cycle_encoding.specs.Variables.{Seen, Overwritten, all_overwritten}

module _ (v : CycleVars) where
  abbrev pub launched_over : List (ℕ × Launch)
  launched_over = numbered 0 v.launches.now

  abbrev pub seen_over : List (ℕ × Seen)
  seen_over = numbered v.seen.first v.seen.seen.items

  abbrev pub overwritten_over : List (ℕ × Overwritten)
  overwritten_over = numbered v.over.first (all_overwritten v.frame.facts.now v.over.cycles)

  -- the last of them
  abbrev pub last_over : ℕ
  last_over = v.over.first + length (all_overwritten v.frame.facts.now v.over.cycles)

  abbrev pub targets_over : List (List Lit)
  targets_over = target_clauses v.frame.facts.now v.over.cycles launched_over overwritten_over

  abbrev pub operands_over : List (List Lit)
  operands_over =
      operand_clauses v.frame.facts.now v.frame.table.now launched_over seen_over overwritten_over

  abbrev pub makers_over : List (List Lit)
  makers_over = seen_clauses v.frame.facts.now v.frame.table.now launched_over seen_over

  abbrev pub listed_over : Listed
  listed_over =
      record { allocation = allocation_in v.frame.scope.now; launches = v.launches.now; seen = v.seen.seen.items }

-- they stand one after another
pub record AreCycleVars (v : CycleVars) : Type 0 where
  pub graph : IsLaunchGraph v.frame.facts.now
  pub table : IsTable v.frame.table.now
  pub first : v.seen.first ≡ length v.launches.now
  pub next : v.over.first ≡ length v.launches.now + length v.seen.seen.items
  pub cycles : v.over.cycles ≡ v.frame.k
  pub seen : AreSeenVars v.frame.facts.now (wants_in v.frame.scope.now) v.frame.table.now v.seen.cycles v.seen.first
      v.seen.seen.items v.seen.starts.items
  pub over : AreOverwrittenVars v.frame.facts.now v.over.cycles v.over.first v.over.sets.items
