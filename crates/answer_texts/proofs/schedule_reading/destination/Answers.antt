use Rattle.std.proofs.Common.{◌≡◌, length, sym, ◌∙◌}
use Rattle.text_core.specs.LineTexts.{Words}
use Rattle.text_core.specs.Lines.{line_at}
use Rattle.answer_texts.proofs.LaunchLines.{to_pool, too_long, no_register, no_set, to_set}
use Rattle.answer_texts.proofs.schedule_reading.destination.Goals as goal

pub returns-then-words-eq4 : goal.returns-then-words-eq4
returns-then-words-eq4 c =
    let words : Words = (line_at c.args.text.now c.args.line).words in
    to_pool c.args.graph.now words (sym c.words.ensures.count ∙ c.if-words-eq4.true)

pub returns-then-words-ne5 : goal.returns-then-words-ne5
returns-then-words-ne5 c =
    let words : Words = (line_at c.args.text.now c.args.line).words in
    too_long c.args.graph.now words c.requires.long (λ e. c.if-words-eq4.false (c.words.ensures.count ∙ e))
    (λ e. c.if-words-ne5.true (c.words-2.ensures.count ∙ e))

pub returns-in_err-register : goal.returns-in_err-register
returns-in_err-register c =
    let words : Words = (line_at c.args.text.now c.args.line).words in
    let five : length words ≡ 5 = sym c.words-2.ensures.count ∙ c.if-words-ne5.false in
    rw c.from_residual.ensures
    (no_register c.args.graph.now words five (λ r low e. c.in_err-register.ensures.none r low (c.word.ensures.value ∙ e)))

pub returns-in-Some : goal.returns-in-Some
returns-in-Some c =
    let words : Words = (line_at c.args.text.now c.args.line).words in
    let five : length words ≡ 5 = sym c.words-2.ensures.count ∙ c.if-words-ne5.false in
    to_set c.args.graph.now words five c.in_ok-register.register (sym c.word.ensures.value ∙ c.in_ok-register.ensures.some.0)
    c.in_ok-register.ensures.some.1 c.in-Some.set c.in-Some.ensures.some.0 c.in-Some.ensures.some.1

pub returns-in-None : goal.returns-in-None
returns-in-None c =
    let words : Words = (line_at c.args.text.now c.args.line).words in
    let five : length words ≡ 5 = sym c.words-2.ensures.count ∙ c.if-words-ne5.false in
    no_set c.args.graph.now words five c.in_ok-register.register (sym c.word.ensures.value ∙ c.in_ok-register.ensures.some.0)
    c.in_ok-register.ensures.some.1 c.in-None.ensures.none
