use Rattle.std.proofs.Common.{◌≡◌, ◌<◌}
use Rattle.word_terms.specs.View.{tree_of}
use Rattle.generated_goals.specs.Generated as specs
use Rattle.generated_goals.proofs.generating.chain.Given as goal

abbrev pub invariant-loop-step : goal.invariant-loop-step
invariant-loop-step l = record {
  number : l.number ≡ specs.number_at l.size l._step;
  below : l.number < 256;
  term : tree_of l.term ≡ specs.chain l.size l._step;
}
