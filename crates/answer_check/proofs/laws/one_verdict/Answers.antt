use Rattle.answer_check.proofs.OneOutcome.{one_verdict_only}
use Rattle.answer_check.proofs.laws.one_verdict.Goals as goal

pub returns : goal.returns
returns c = λ e table version claimed v w is a b.
    one_verdict_only c.each_encoding_has_one_list.ensures e table version claimed
    (λ g al. c.schedules_fit_or_break.ensures.once g table al)
    (λ g al. c.schedules_fit_or_break.ensures.apart g table al) is v w a b
