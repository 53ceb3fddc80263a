use Rattle.std.proofs.Common.{◌≡◌, ◌+◌, length, take}
use Rattle.slot_capacity.specs.CapacityClauses.{all_launched}
use Rattle.slot_capacity.proofs.clauses.add_launched_vars.Given as goal

abbrev pub invariant-loop-one : goal.invariant-loop-one
invariant-loop-one l =
    l.cnf ≡ record l.initial.cnf { vars = l.initial.cnf.vars + length (all_launched (take l.one-index l.counted)) }
