use Rattle.std.proofs.Common.{ℕ, ◌<◌, List, subst, Option, decimal}
use Rattle.std.specs.Prelude.{MatchOption}
use Rattle.cnf_core.specs.declared.literal.Lit.{Lit}
use Rattle.text_core.specs.Lines.{line_at}
use Rattle.refutation_check.specs.LineWords.{IsId, IsIdLiteral, literal_word, IsRun, IsNoRun}
use Rattle.refutation_check.proofs.LineReading.{line-no_hints, line-more}
use Rattle.refutation_check.proofs.reading.read_line.Goals as goal

pub returns-in_default-3 : goal.returns-in_default-3
returns-in_default-3 c = λ l.
    (let row = (line_at c.args.text.now c.args.line).words in
    let lits = subst (λ (o : Option (List Lit × ℕ)). MatchOption o (IsNoRun literal_word IsIdLiteral row 1) (λ p. IsRun literal_word IsIdLiteral row 1 p.0 p.1)) c.in-Some-2.is c.in_ok-lits.ensures in
    let none = subst (λ (o : Option (List ℕ × ℕ)). MatchOption o (IsNoRun decimal IsId row c.in-Some-2.after) (λ p. IsRun decimal IsId row c.in-Some-2.after p.0 p.1)) c.in_default-3.is c.in_ok-hints.ensures in
    line-no_hints row c.in-Some-2.lits l c.in-Some-2.after lits none)

pub returns-then-end-words : goal.returns-then-end-words
returns-then-end-words c = λ l.
    (let row = (line_at c.args.text.now c.args.line).words in
    let lits = subst (λ (o : Option (List Lit × ℕ)). MatchOption o (IsNoRun literal_word IsIdLiteral row 1) (λ p. IsRun literal_word IsIdLiteral row 1 p.0 p.1)) c.in-Some-2.is c.in_ok-lits.ensures in
    let hints = subst (λ (o : Option (List ℕ × ℕ)). MatchOption o (IsNoRun decimal IsId row c.in-Some-2.after) (λ p. IsRun decimal IsId row c.in-Some-2.after p.0 p.1)) c.in-Some-3.is c.in_ok-hints.ensures in
    line-more row c.in-Some-2.lits c.in-Some-3.hints l c.in-Some-2.after c.in-Some-3.end lits hints (subst (λ (n : ℕ). c.in-Some-3.end < n) c.words-2.ensures.count c.if-end-words.true))
