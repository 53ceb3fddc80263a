use Rattle.std.proofs.Common.{◌≤◌, length, sym, ◌∙◌, arith}
use Rattle.text_core.specs.LineTexts.{Words}
use Rattle.text_core.specs.Lines.{line_at}
use Rattle.std.proofs.lemmas.Bool.{false≢true}
use Rattle.answer_texts.proofs.HexWordLines.{short, other_word, no_hex, no_instr, other_text, the_code}
use Rattle.answer_texts.proofs.word_lines.word_line.Goals as goal
use Rattle.answer_texts.proofs.word_lines.word_line.Goals.{then-words-lt3-via-then-words-lt3, then-words-lt3-via-else-words-lt3+then-not-begins_with}

pub returns-then-words-lt3 : goal.returns-then-words-lt3
returns-then-words-lt3 c =
    let words : Words = (line_at c.args.text.now c.args.line).words in
    let count = c.words.ensures.count in
    elim c.then-words-lt3.branch [
      | then-words-lt3-via-then-words-lt3 w ↦ short words (let few = w.if-words-lt3.true in omega arith)
      | then-words-lt3-via-else-words-lt3+then-not-begins_with w ↦ other_word words (λ e. false≢true (sym w.if-not-begins_with.true ∙ w.begins_with.ensures.1 e))
    ]

pub returns-in_default : goal.returns-in_default
returns-in_default c =
    let words : Words = (line_at c.args.text.now c.args.line).words in
    no_hex words (λ word low e. c.in_default.ensures word low (c.word.ensures.value ∙ e))

pub returns-in_default-decode : goal.returns-in_default-decode
returns-in_default-decode c =
    let words : Words = (line_at c.args.text.now c.args.line).words in
    no_instr words c.in-Some.word c.in-Some.ensures.0 (sym c.word.ensures.value ∙ c.in-Some.ensures.1) (sym c.in_default-decode.ensures.fields)

pub returns-then-branch : goal.returns-then-branch
returns-then-branch c =
    let words : Words = (line_at c.args.text.now c.args.line).words in
    let count = c.words.ensures.count in
    let long : 3 ≤ length words = (let many = c.if-words-lt3.false in omega arith) in
    the_code words c.in-Some.word c.in-Some.ensures.0 (sym c.word.ensures.value ∙ c.in-Some.ensures.1) c.in-Some-decode.instr long
    (c.begins_with.ensures.0 c.if-not-begins_with.false) (sym c.in-Some-decode.ensures.fields) (c.in_ok-has_text.ensures.0 c.if-branch.true)

pub returns-else-branch : goal.returns-else-branch
returns-else-branch c =
    let words : Words = (line_at c.args.text.now c.args.line).words in
    other_text words c.in-Some.word c.in-Some.ensures.0 (sym c.word.ensures.value ∙ c.in-Some.ensures.1) c.in-Some-decode.instr
    (sym c.in-Some-decode.ensures.fields) (λ e. false≢true (sym c.if-branch.false ∙ c.in_ok-has_text.ensures.1 e))
