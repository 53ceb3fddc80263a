use Rattle.std.proofs.Common.{◌≤◌, ◌++◌, List, ℕ, length, codes, refl, sym, ap, ◌∙◌, arith}
use Rattle.std.proofs.lemmas.Bool.{false≢true}
use Rattle.std.proofs.lemmas.Bool.Decides.{Decides-eqb}
use Rattle.std.proofs.lemmas.List.{nil_from_length}
use Rattle.alpha_encode.specs.Texts.{text_of}
use Rattle.text_core.specs.LineTexts.{Words}
use Rattle.text_core.specs.Lines.{line_at}
use Rattle.answer_texts.proofs.HexInstrTexts.{next_left, no_space, no_word, says, nothing_left}
use Rattle.answer_texts.proofs.HexInstrWords.{instr_words_are_words}
use Rattle.answer_texts.proofs.word_lines.has_text.Goals as goal

pub returns-in_default : goal.returns-in_default
returns-in_default c =
    let words : Words = (line_at c.args.text.now c.args.line).words in
    let text : List ℕ = codes " " ++ text_of c.args.instr in
    let fine = instr_words_are_words c.printed_lines_are_lines.ensures.number c.operators_are_listed.ensures.each c.args.instr c.requires.instr in
    let said = says c.printed_lines_are_lines.ensures.lines c.one_splitting.ensures.lines c.args.instr fine words text refl in
    let count = c.words-at-end.ensures.count in (
      (λ t. absurd (false≢true t)),
      (λ e. absurd (no_space words c.loop-at.at (let lt = c.loop-at-test.true in omega arith) text c.loop-at.rest.now c.loop-at.invariant c.in_default.ensures (said e))),
    )

pub returns-in_default-behind : goal.returns-in_default-behind
returns-in_default-behind c =
    let words : Words = (line_at c.args.text.now c.args.line).words in
    let text : List ℕ = codes " " ++ text_of c.args.instr in
    let fine = instr_words_are_words c.printed_lines_are_lines.ensures.number c.operators_are_listed.ensures.each c.args.instr c.requires.instr in
    let said = says c.printed_lines_are_lines.ensures.lines c.one_splitting.ensures.lines c.args.instr fine words text refl in
    let count = c.words-at-end.ensures.count in (
      (λ t. absurd (false≢true t)),
      (λ e. absurd (no_word words c.loop-at.at (let lt = c.loop-at-test.true in omega arith) text c.loop-at.rest.now c.loop-at.invariant
          c.word.result.now c.in-Some.word.now c.word.ensures.value c.in-Some.ensures c.in_default-behind.ensures (said e))),
    )

pub loop-at-preserved : goal.loop-at-preserved
loop-at-preserved c =
    let words : Words = (line_at c.args.text.now c.args.line).words in
    let text : List ℕ = codes " " ++ text_of c.args.instr in
    let count = c.words-at-end.ensures.count in
    next_left words c.loop-at.at (let lt = c.loop-at-test.true in omega arith) text c.loop-at.rest.now c.loop-at.invariant
    c.word.result.now c.in-Some.word.now c.in-Some-behind.next.now c.word.ensures.value c.word.ensures.word c.in-Some.ensures c.in-Some-behind.ensures

pub returns : goal.returns
returns c =
    let words : Words = (line_at c.args.text.now c.args.line).words in
    let text : List ℕ = codes " " ++ text_of c.args.instr in
    let rest : List ℕ = c.loop-at.rest.now in
    let fine = instr_words_are_words c.printed_lines_are_lines.ensures.number c.operators_are_listed.ensures.each c.args.instr c.requires.instr in
    let count = c.words-at-end.ensures.count in
    let all : length words ≤ c.loop-at.at = (let over = c.loop-at-test.false in omega arith) in
    let same = nothing_left c.printed_lines_are_lines.ensures.lines c.one_splitting.ensures.lines c.args.instr fine words text refl
    c.loop-at.at rest c.loop-at.invariant all in
    let empty = Decides-eqb (length rest) 0 in (
      (λ t. same.0 (nil_from_length rest (empty.0 (sym c.is_empty.ensures ∙ t)))),
      (λ p. c.is_empty.ensures ∙ empty.1 (ap length (same.1 p))),
    )
