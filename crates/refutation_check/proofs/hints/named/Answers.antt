use Rattle.std.proofs.Common.{ℕ, ◌-◌, get_or, arith, ap, sym, ◌∙◌}
use Rattle.refutation_check.proofs.Following.{clause_at-lemma}
use Rattle.refutation_check.proofs.hints.named.Goals as goal

pub returns-else-hint-clauses-clause-value : goal.returns-else-hint-clauses-clause-value
returns-else-hint-clauses-clause-value c =
    let d = c.index-earlier-hint.result in
    c.as_slice.ensures
    ∙ ap (λ (n : ℕ). (get_or c.args.earlier.now (c.args.hint - n - 1) d).lits) c.clauses-clauses.ensures.value
    ∙ sym (clause_at-lemma c.args.cnf.now.clauses c.args.earlier.now c.args.hint d (omega arith) c.requires.last)
