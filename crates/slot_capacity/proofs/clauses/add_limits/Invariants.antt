use Rattle.std.proofs.Common.{◌≡◌, ◌≤◌, ◌+◌, ◌++◌, drop}
use Rattle.cycle_encoding.specs.Shapes.{numbered}
use Rattle.slot_capacity.specs.CapacityClauses.{all_launched, limit_counters, limit_vars}
use Rattle.slot_capacity.proofs.clauses.add_limits.Given as goal

abbrev pub invariant-loop-limit : goal.invariant-loop-limit
invariant-loop-limit l = record {
  vars_are : l.cnf.vars + limit_vars (numbered l.first (all_launched l.counted)) (drop l.limit-index l.limits)
      ≡ l.initial.cnf.vars + limit_vars (numbered l.first (all_launched l.counted)) l.limits;
  clauses_are : l.cnf.clauses
      ++ limit_counters l.cnf.vars (numbered l.first (all_launched l.counted)) (drop l.limit-index l.limits)
      ≡ l.initial.cnf.clauses
      ++ limit_counters l.initial.cnf.vars (numbered l.first (all_launched l.counted)) l.limits;
  above : l.initial.cnf.vars ≤ l.cnf.vars;
}
