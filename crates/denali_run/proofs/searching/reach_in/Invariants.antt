use Rattle.std.proofs.Common.{◌≤◌, ◌-◌}
use Rattle.denali_run.specs.Right.{IsLeast}
use Rattle.order_encoding.specs.WholeFormula.{formula_in}
use Rattle.denali_run.proofs.searching.reach_in.Given as goal

abbrev pub invariant-loop-below : goal.invariant-loop-below
invariant-loop-below l = (l.k ≤ l.settings.cycles)
    × IsLeast (formula_in l.scope l.facts l.table) l.graph l.table l.settings.allocation l.settings.conflicts l.k l.below

abbrev pub decreases-loop-below : goal.decreases-loop-below
decreases-loop-below l = l.settings.cycles - l.k
