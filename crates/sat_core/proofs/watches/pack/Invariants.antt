use Rattle.std.proofs.Common.{◌≡◌, ◌++◌, take}
use Rattle.sat_core.proofs.watches.pack.Given as goal

abbrev pub invariant-loop-lit : goal.invariant-loop-lit
invariant-loop-lit l = l.literals.items ≡ l.initial.literals.items ++ take l.lit-index l.lits
