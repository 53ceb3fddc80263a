use Rattle.std.proofs.Common.{IsTrue, Option, refl, subst, sym}
use Rattle.std.specs.Prelude.{is_some}
use Rattle.cnf_core.specs.declared.line.Lines.{Lines}
use Rattle.cycle_encoding.specs.Plans.{IsTooLarge}
use Rattle.order_encoding.specs.WholeFormula.{formula_in}
use Rattle.answer_check.proofs.RefusedBelow.{refused_lines}
use Rattle.answer_check.proofs.refusing.refused_below.Goals as goal

pub refused_line-requires-clause-within : goal.refused_line-requires-clause-within
refused_line-requires-clause-within c =
    subst (λ n. ¬ IsTooLarge (formula_in c.args.scope.now c.args.facts.now c.args.table.now n))
    (sym c.refuted_cycles.ensures.value)
    (c.requires.within (subst (λ (o : Option Lines). IsTrue (is_some o)) (sym c.in-Some.is) refl))

pub returns-in-Some-clause-exact : goal.returns-in-Some-clause-exact
returns-in-Some-clause-exact c =
    refused_lines (formula_in c.args.scope.now c.args.facts.now c.args.table.now) c.args.goal.now c.refuted_cycles.result
    c.in-Some.lines c.refuted_cycles.ensures.value c.in-Some.is c.refused_line.result c.refused_line.ensures.exact
