use Rattle.std.proofs.Common.{◌≡◌, drop}
use Rattle.text_core.specs.Names.{is_among}
use Rattle.goal_reader.proofs.variables.is_variable.Given as goal

abbrev pub invariant-loop-other : goal.invariant-loop-other
invariant-loop-other l = is_among l.names l.name ≡ is_among (drop l.other-index l.names) l.name
