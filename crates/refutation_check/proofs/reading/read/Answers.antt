use Rattle.std.proofs.Common.{◌≡◌, ℕ, ◌+◌, ◌<◌, length, sym, ◌∙◌, subst, arith, inl, inr, Option}
use Rattle.std.specs.Prelude.{MatchOption}
use Rattle.cnf_core.specs.declared.line.Line.{Line}
use Rattle.text_core.specs.Lines.{line_at}
use Rattle.refutation_check.specs.LineWords.{IsLineOf, AreLinesAt}
use Rattle.refutation_check.proofs.LineReading.{fault-from, lines-more}
use Rattle.refutation_check.proofs.OneReading.{lines-one}
use Rattle.refutation_check.proofs.reading.read.Goals as goal

pub returns-then-line-last-clause-fault : goal.returns-then-line-last-clause-fault
returns-then-line-last-clause-fault c =
    fault-from c.args.text.now c.args.from c.args.count c.loop-done.done c.loop-done.lines c.bad_line.result c.bad_line.ensures c.loop-done-test.true c.loop-done.invariant.0
    (inl (c.if-line-last.true ∙ c.count-last.ensures.count))

pub returns-in-None-clause-fault : goal.returns-in-None-clause-fault
returns-in-None-clause-fault c =
    let row = (line_at c.args.text.now (c.args.from + c.loop-done.done)).words in
    let none = subst (λ (o : Option Line). MatchOption o ((l : Line) → IsLineOf row l → ⊥) (IsLineOf row)) c.in-None.is c.in_ok-read.ensures in
    let count = c.count-last.ensures.count in
    let bound = c.loop-done.invariant.1 in
    let other = c.if-line-last.false in
    fault-from c.args.text.now c.args.from c.args.count c.loop-done.done c.loop-done.lines c.bad_line-in-None.result c.bad_line-in-None.ensures c.loop-done-test.true c.loop-done.invariant.0
    (inr (omega arith, none))

pub loop-done-preserved : goal.loop-done-preserved
loop-done-preserved c =
    let row = (line_at c.args.text.now (c.args.from + c.loop-done.done)).words in
    let is = subst (λ (o : Option Line). MatchOption o ((l : Line) → IsLineOf row l → ⊥) (IsLineOf row)) c.in-Some.is c.in_ok-read.ensures in
    let count = c.count-last.ensures.count in
    let bound = c.loop-done.invariant.1 in
    let other = c.if-line-last.false in
    let few : c.args.from + c.loop-done.done < length c.args.text.now = omega arith in (
      subst (AreLinesAt c.args.text.now c.args.from (c.loop-done.done + 1)) (sym c.in_ok-push-in-Some.ensures.ok) (lines-more c.args.text.now c.args.from c.loop-done.done c.loop-done.lines c.in-Some.read few is c.loop-done.invariant.0),
      omega arith,
    )

pub returns-clause-only : goal.returns-clause-only
returns-clause-only c = λ others h.
    (let all : c.loop-done.done ≡ c.args.count = omega arith in
    lines-one c.args.text.now c.args.from c.args.count others c.loop-done.lines h
    (subst (λ (n : ℕ). AreLinesAt c.args.text.now c.args.from n c.loop-done.lines) all c.loop-done.invariant.0))
