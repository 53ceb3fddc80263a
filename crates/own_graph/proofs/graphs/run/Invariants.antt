use Rattle.std.proofs.Common.{◌≡◌, ◌≤◌, length, take, filter_map}
use Rattle.alpha_encode.specs.Decoded.{decoded}
use Rattle.code_lift.specs.Lifted.{at_start, lifted}
use Rattle.code_lift.specs.LiftingView.{lifting_view}
use Rattle.own_graph.specs.Own.{own_from, own_start}
use Rattle.own_graph.specs.OwnView.{own_view}
use Rattle.own_graph.proofs.OwnSteps.{IsKnown}
use Rattle.own_graph.proofs.graphs.run.Given as goal

abbrev pub invariant-loop-at : goal.invariant-loop-at
invariant-loop-at l = record {
  lifting_is : lifting_view l.lifting ≡ lifted (take l.at l.words);
  own_is : own_view l.own ≡ own_from 0 (filter_map decoded (take l.at l.words)) at_start (own_start l.inputs);
  known : IsKnown l.inputs (lifting_view l.lifting) (own_view l.own);
  few_lets : length l.lifting.lets.items ≤ l.at;
}
