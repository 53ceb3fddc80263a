use Rattle.std.proofs.Common.{◌-◌, ◌^◌, min, ap, ◌∙◌}
use Rattle.word_terms.specs.OperatorsIn.{operators_in}
use Rattle.axiom_base.specs.Schemes.{plain}
use Rattle.pattern_match.proofs.Needs.{needed}
use Rattle.pattern_match.proofs.plain.need.Goals as goal

pub returns : goal.returns
returns c = record {
  exact = needed c.args.graph.now (plain c.args.rule.now) c.in_ok-found.found c.len.result c.operators.result c.saturating_mul.result c.in_ok-found.ensures.exact c.len.ensures
      (c.operators.ensures ∙ ap (λ t. min (operators_in t) (2 ^ 64 - 1)) c.right.ensures)
      c.saturating_mul.ensures;
}
