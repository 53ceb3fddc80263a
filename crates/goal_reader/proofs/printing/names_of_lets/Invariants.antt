use Rattle.std.proofs.Common.{◌≡◌, map, take}
use Rattle.goal_meaning.specs.Expanded.{let_names}
use Rattle.goal_meaning.specs.Views.{let_view}
use Rattle.goal_reader.proofs.printing.names_of_lets.Given as goal

abbrev pub invariant-loop-one : goal.invariant-loop-one
invariant-loop-one l = l.names ≡ let_names (map let_view (take l.one-index l.lets))
