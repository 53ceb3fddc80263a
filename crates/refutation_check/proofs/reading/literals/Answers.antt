use Rattle.std.proofs.Common.{ℕ, ◌+◌, [], List, sym, ◌∙◌, subst, ◌<◌, ◌≤◌, length}
use Rattle.std.proofs.lemmas.Bool.{false≢true}
use Rattle.cnf_core.specs.declared.literal.Lit.{Lit}
use Rattle.text_core.specs.Lines.{line_at}
use Rattle.refutation_check.specs.LineWords.{literal_word, IsIdLiteral}
use Rattle.refutation_check.proofs.Runs.{SoFar, so_far-more, ends-at_zero, none-at, none-past}
use Rattle.refutation_check.proofs.Wording.{literal-not_zero}
use Rattle.refutation_check.proofs.reading.literals.Goals as goal

pub returns-then-is_zero : goal.returns-then-is_zero
returns-then-is_zero c =
    let row = (line_at c.args.text.now c.args.line).words in
    let at = c.loop-at.at in
    let word = c.word-word.result.now in
    let few : at < length row = subst (λ (n : ℕ). at < n) c.words-at-end.ensures.count c.loop-at-test.true in
    ends-at_zero literal_word IsIdLiteral literal-not_zero row c.args.from c.loop-at.lits at word [] few c.word-word.ensures.value
    (c.is_zero.ensures.0 c.if-is_zero.true) c.loop-at.invariant

pub returns-in-None : goal.returns-in-None
returns-in-None c =
    let row = (line_at c.args.text.now c.args.line).words in
    let at = c.loop-at.at in
    let word = c.word-word.result.now in
    let few : at < length row = subst (λ (n : ℕ). at < n) c.words-at-end.ensures.count c.loop-at-test.true in
    none-at literal_word IsIdLiteral literal-not_zero row c.args.from c.loop-at.lits at word [] few c.word-word.ensures.value
    (λ e. false≢true (sym c.if-is_zero.false ∙ c.is_zero.ensures.1 e)) c.in-None.ensures.none c.loop-at.invariant

pub loop-at-preserved : goal.loop-at-preserved
loop-at-preserved c =
    let row = (line_at c.args.text.now c.args.line).words in
    let at = c.loop-at.at in
    let word = c.word-word.result.now in
    let few : at < length row = subst (λ (n : ℕ). at < n) c.words-at-end.ensures.count c.loop-at-test.true in
    subst (λ (items : List Lit). SoFar literal_word IsIdLiteral literal-not_zero row c.args.from items (at + 1)) (sym c.in_ok-push-in-Some.ensures.ok)
    (so_far-more literal_word IsIdLiteral literal-not_zero row c.args.from c.loop-at.lits at word [] c.in-Some.lit few c.word-word.ensures.value
    c.in-Some.ensures.some.0 c.in-Some.ensures.some.1 c.loop-at.invariant)

pub returns : goal.returns
returns c =
    none-past literal_word IsIdLiteral literal-not_zero (line_at c.args.text.now c.args.line).words c.args.from c.loop-at.lits c.loop-at.at
    (subst (λ (n : ℕ). n ≤ c.loop-at.at) c.words-at-end.ensures.count c.loop-at-test.false) c.loop-at.invariant
