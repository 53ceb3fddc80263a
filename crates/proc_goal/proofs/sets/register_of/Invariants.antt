use Rattle.std.proofs.Common.{◌≡◌, drop}
use Rattle.text_core.specs.Names.{is_among}
use Rattle.goal_reader.specs.Reading.{names_of_inputs}
use Rattle.proc_goal.proofs.sets.register_of.Given as goal

abbrev pub invariant-loop-var : goal.invariant-loop-var
invariant-loop-var l = is_among (names_of_inputs l.vars) l.name ≡ is_among (names_of_inputs (drop l.var-index l.vars)) l.name
