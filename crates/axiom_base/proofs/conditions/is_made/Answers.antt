use Rattle.std.proofs.Common.{sym, ◌∙◌}
use Rattle.axiom_base.proofs.Giving.{made_by_mask, no_sum_if}
use Rattle.axiom_base.proofs.conditions.is_made.Goals as goal

pub returns : goal.returns
returns c =
    let n = c.args.c in
    let sum = no_sum_if n c.high_part.result c.high_part.ensures (sym c.is_some.ensures ∙ c.if-is_some.false) in
    let both = made_by_mask n c.plain_mask.result (λ d. let t = c.is_displacement.ensures.1 d in absurd (cc))
    (λ h. let t = c.is_high.ensures.1 h in absurd (cc)) sum c.plain_mask.ensures in
    (λ t. both.0 (sym c.is_some-2.ensures ∙ t), λ m. c.is_some-2.ensures ∙ both.1 m)
