use Rattle.std.proofs.Common.{◌∙◌, ap}
use Rattle.word_ops.specs.Values.{subq}
use Rattle.axiom_base.proofs.Giving.{low_bits, difference_is}
use Rattle.axiom_base.proofs.conditions.without_low_part.Goals as goal

pub returns : goal.returns
returns c = (
  (λ d. let t = c.is_displacement.ensures.1 d in absurd (cc), λ z. c.if-c-eq0.false z),
  c.apply.ensures ∙ difference_is c.args.c c.apply-low.result ∙ ap (subq c.args.c) (c.apply-low.ensures ∙ low_bits c.args.c),
)
