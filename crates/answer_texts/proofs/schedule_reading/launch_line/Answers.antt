use Rattle.std.proofs.Common.{sym, ◌∙◌, arith}
use Rattle.std.proofs.lemmas.Bool.{false≢true}
use Rattle.text_core.specs.LineTexts.{Words}
use Rattle.text_core.specs.Lines.{line_at}
use Rattle.answer_texts.proofs.LaunchLines.{few_words, other_word, no_cycle, nowhere}
use Rattle.answer_texts.proofs.schedule_reading.launch_line.Goals as goal
use Rattle.answer_texts.proofs.schedule_reading.launch_line.Goals.{then-words-lt4-via-then-words-lt4, then-words-lt4-via-else-words-lt4+then-not-begins_with}

pub returns-then-words-lt4 : goal.returns-then-words-lt4
returns-then-words-lt4 c =
    let words : Words = (line_at c.args.text.now c.args.line).words in
    let count = c.words.ensures.count in
    elim c.then-words-lt4.branch [
      | then-words-lt4-via-then-words-lt4 w ↦
          few_words c.args.table.now c.args.graph.now words (let few = w.if-words-lt4.true in omega arith)
      | then-words-lt4-via-else-words-lt4+then-not-begins_with w ↦
          other_word c.args.table.now c.args.graph.now words
          (λ e. false≢true (sym w.if-not-begins_with.true ∙ w.begins_with.ensures.1 e))
    ]

pub returns-in_err-cycle : goal.returns-in_err-cycle
returns-in_err-cycle c =
    let words : Words = (line_at c.args.text.now c.args.line).words in
    rw c.from_residual.ensures
    (no_cycle c.args.table.now c.args.graph.now words (λ n low e. c.in_err-cycle.ensures.none n low (c.word.ensures.value ∙ e)))

pub returns-in_err-to : goal.returns-in_err-to
returns-in_err-to c =
    let words : Words = (line_at c.args.text.now c.args.line).words in
    rw c.from_residual-in_err-to.ensures (nowhere c.args.table.now c.args.graph.now words c.in_err-to.ensures)
