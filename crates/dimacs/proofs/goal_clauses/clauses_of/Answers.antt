use Rattle.std.proofs.Common.{◌++◌, List, ℕ, ap, refl, subst, ◌∙◌}
use Rattle.answer_check.specs.Reports.{verdict_words}
use Rattle.answer_check.specs.declared.verdicts.Verdict.TheVariants.{Size}
use Rattle.dimacs.specs.GoalClauses.{given, too_large}
use Rattle.order_encoding.specs.WholeFormula.{IsSizeFault}
use Rattle.text_core.specs.LineTexts.{line_text}
use Rattle.dimacs.proofs.goal_clauses.clauses_of.Goals as goal

pub returns-in_ok-dimacs-in-Ok : goal.returns-in_ok-dimacs-in-Ok
returns-in_ok-dimacs-in-Ok c =
    given c.in-Some.is c.in-Ok.ensures.is c.in-Ok.ensures.small c.in_ok-dimacs-in-Ok.ensures refl

pub returns-in_ok-put_verdict-in-Err-Size : goal.returns-in_ok-put_verdict-in-Err-Size
returns-in_ok-put_verdict-in-Err-Size c =
    let large = subst (IsSizeFault c.args.encoding _ c.args.table.now c.args.k) c.in-Err-Size.field-0-is c.in-Err-Size.ensures.refused in
    let words = line_text (verdict_words c.args.goal.now (Size c.in-Err-Size.vars c.in-Err-Size.clauses)) in
    too_large c.in-Some.is large.1 large.2
    (c.in_ok-put_verdict-in-Err-Size.ensures ∙ ap (λ (t : List ℕ). t ++ words) c.new-line.ensures.items) refl
