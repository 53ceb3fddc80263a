use Rattle.text_core.proofs.Values.{decimal_is, decimal_only, some_weaker, none_weaker}
use Rattle.text_core.proofs.numbers.number.Goals as goal

pub returns-in-None-clause-some : goal.returns-in-None-clause-some
returns-in-None-clause-some c = some_weaker c.value.result _ _ (λ n h. decimal_is c.args.bytes.now c.requires n h.0 h.1) c.value.ensures.some

pub returns-in-None-clause-none : goal.returns-in-None-clause-none
returns-in-None-clause-none c = none_weaker c.value.result (λ never n h. never (decimal_only c.args.bytes.now c.in-None.ensures.cases n h)) c.value.ensures.none
