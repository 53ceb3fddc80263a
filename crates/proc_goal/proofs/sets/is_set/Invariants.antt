use Rattle.std.proofs.Common.{◌≡◌, drop}
use Rattle.text_core.specs.Names.{is_among}
use Rattle.goal_reader.specs.Reading.{names_of_targets}
use Rattle.proc_goal.proofs.sets.is_set.Given as goal

abbrev pub invariant-loop-set : goal.invariant-loop-set
invariant-loop-set l = is_among (names_of_targets l.sets) l.name ≡ is_among (names_of_targets (drop l.set-index l.sets)) l.name
