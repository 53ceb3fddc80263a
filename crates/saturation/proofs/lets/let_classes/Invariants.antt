use Rattle.std.proofs.Common.{[], map, take}
use Rattle.std.specs.List.{AllZip}
use Rattle.pattern_match.specs.Classes.{IsClass}
use Rattle.goal_meaning.specs.Expanded.{expanded_terms, let_values}
use Rattle.goal_meaning.specs.Views.{let_view}
use Rattle.saturation.proofs.lets.let_classes.Given as goal

abbrev pub invariant-loop-one : goal.invariant-loop-one
invariant-loop-one l = AllZip (IsClass l.graph []) (expanded_terms [] (take l.one-index (let_values (map let_view l.lets)))) l.classes.items
