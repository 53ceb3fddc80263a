use Rattle.std.proofs.Common.{[], map, take}
use Rattle.goal_meaning.specs.Expanded.{let_values}
use Rattle.goal_meaning.specs.Views.{let_view}
use Rattle.saturation.specs.OverLets.{AreLetsInserted}
use Rattle.saturation.proofs.first_graph.insert_lets.Given as goal

abbrev pub invariant-loop-one : goal.invariant-loop-one
invariant-loop-one l = AreLetsInserted [] (take l.one-index (let_values (map let_view l.lets))) l.fn.graph l.classes.items l.graph
