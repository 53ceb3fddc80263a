use Rattle.cycle_encoding.proofs.Built.{if_ok}
use Rattle.order_encoding.specs.WholeFormula.{formula_in}
use Rattle.answer_check.proofs.Sizes.{large_below_is}
use Rattle.answer_check.proofs.counting.large_below.Goals as goal

pub returns-in-Some : goal.returns-in-Some
returns-in-Some c =
    if_ok _ _ c.large_counts.result
    (large_below_is (formula_in c.args.scope.now c.args.facts.now c.args.table.now) c.args.goal.now c.refuted_cycles.result c.in-Some.field-0
    c.refuted_cycles.ensures.value c.in-Some.is)
    c.large_counts.ensures
