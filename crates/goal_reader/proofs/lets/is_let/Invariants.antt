use Rattle.std.proofs.Common.{◌≡◌, drop}
use Rattle.text_core.specs.Names.{is_among}
use Rattle.goal_reader.specs.Reading.{names_of_lets}
use Rattle.goal_reader.proofs.lets.is_let.Given as goal

abbrev pub invariant-loop-other : goal.invariant-loop-other
invariant-loop-other l = is_among (names_of_lets l.lets) l.name ≡ is_among (names_of_lets (drop l.other-index l.lets)) l.name
