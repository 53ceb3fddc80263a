use Rattle.cycle_encoding.proofs.Built.{if_ok}
use Rattle.order_encoding.specs.WholeFormula.{formula_in}
use Rattle.answer_check.proofs.Sizes.{lemmas_size, printed_size}
use Rattle.answer_check.proofs.counting.wrong_own_size.Goals as goal

pub returns-in-SpentConflicts : goal.returns-in-SpentConflicts
returns-in-SpentConflicts c =
    if_ok _ _ c.large_counts.result
    (lemmas_size (formula_in c.args.scope.now c.args.facts.now c.args.table.now) c.args.claim.now c.in-SpentConflicts.k c.in-SpentConflicts.lemmas
    c.in-SpentConflicts.is)
    c.large_counts.ensures

pub returns-in-SpentSize : goal.returns-in-SpentSize
returns-in-SpentSize c =
    if_ok _ _ c.untrue_counts.result
    (printed_size (formula_in c.args.scope.now c.args.facts.now c.args.table.now) c.args.claim.now c.in-SpentSize.k c.in-SpentSize.vars
    c.in-SpentSize.clauses c.in-SpentSize.is)
    c.untrue_counts.ensures
