use Rattle.std.proofs.Common.{◌≡◌, ◌+◌}
use Rattle.cycle_encoding.proofs.encoding.add_vars.Given as goal

abbrev pub invariant-loop-made : goal.invariant-loop-made
invariant-loop-made l = l.cnf ≡ record l.initial.cnf { vars = l.initial.cnf.vars + l._made }
