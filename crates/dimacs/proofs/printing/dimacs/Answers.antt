use Rattle.std.proofs.Common.{◌∙◌, ◌++◌, List, ℕ, ap}
use Rattle.text_core.specs.LineTexts.{line_text}
use Rattle.dimacs.specs.Dimacs.{clause_words, problem_words}
use Rattle.dimacs.proofs.ClauseLines.{next_clause}
use Rattle.dimacs.proofs.printing.dimacs.Goals as goal

pub loop-index-preserved : goal.loop-index-preserved
loop-index-preserved c =
    c.in_ok-put_clause.ensures
    ∙ ap (λ (xs : List ℕ). xs ++ line_text (clause_words c.clause.result.now)) c.loop-index.invariant
    ∙ next_clause (line_text (problem_words c.args.cnf.now)) c.args.cnf.now.clauses c.loop-index.index c.clause.result.now
    c.clause.ensures.value
