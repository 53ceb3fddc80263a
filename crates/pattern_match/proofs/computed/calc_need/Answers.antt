use Rattle.std.proofs.Common.{◌-◌, ◌^◌, min, ap, ◌∙◌}
use Rattle.word_terms.specs.OperatorsIn.{operators_in}
use Rattle.axiom_base.specs.Schemes.{computed}
use Rattle.pattern_match.proofs.Needs.{needed}
use Rattle.pattern_match.proofs.computed.calc_need.Goals as goal

pub returns : goal.returns
returns c = record {
  exact = needed c.args.graph.now (computed c.args.kind) c.in_ok-found.found c.len.result c.operators.result c.saturating_mul.result c.in_ok-found.ensures.exact c.len.ensures
      (c.operators.ensures ∙ ap (λ t. min (operators_in t) (2 ^ 64 - 1)) c.in_ok-right.ensures.tree)
      c.saturating_mul.ensures;
}
