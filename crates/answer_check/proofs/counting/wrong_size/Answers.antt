use Rattle.cycle_encoding.proofs.Built.{if_ok}
use Rattle.order_encoding.specs.WholeFormula.{formula_in}
use Rattle.answer_check.proofs.Claims.{where_none}
use Rattle.answer_check.proofs.Sizes.{own_size_wrong}
use Rattle.answer_check.proofs.counting.wrong_size.Goals as goal

pub returns : goal.returns
returns c =
    let f = formula_in c.args.scope.now c.args.facts.now c.args.table.now in
    if_ok _ _ c.wrong_own_size.result
    (own_size_wrong f c.args.goal.now (where_none _ c.in_ok-sizes.field-0 c.in_default.is c.in_ok-sizes.ensures))
    c.wrong_own_size.ensures
