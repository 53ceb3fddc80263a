use Rattle.std.proofs.Common.{◌≡◌, [], map, take}
use Rattle.goal_meaning.specs.Expanded.{expanded_terms, let_values}
use Rattle.goal_meaning.specs.Views.{let_view}
use Rattle.saturation.specs.StandsFor.{has_select}
use Rattle.saturation.proofs.lets.lets_read_memory.Given as goal

abbrev pub invariant-loop-one : goal.invariant-loop-one
invariant-loop-one l = l.reads.items ≡ map has_select (expanded_terms [] (take l.one-index (let_values (map let_view l.lets))))
