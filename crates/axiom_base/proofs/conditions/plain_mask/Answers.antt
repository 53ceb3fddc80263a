use Rattle.axiom_base.proofs.Giving.{mask_given}
use Rattle.axiom_base.proofs.conditions.plain_mask.Goals as goal

pub returns : goal.returns
returns c =
    mask_given c.args.c c.full_bytes.result (λ d. let t = c.is_displacement.ensures.1 d in absurd (cc))
    (λ h. let t = c.is_high.ensures.1 h in absurd (cc)) c.full_bytes.ensures
