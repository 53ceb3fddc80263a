use Rattle.std.proofs.Common.{◌≡◌, ◌≢◌, ℕ, ◌+◌, length, sym, subst, ◌∙◌}
use Rattle.std.proofs.lemmas.Bool.{false≢true}
use Rattle.text_core.specs.Lines.{line_at}
use Rattle.text_core.specs.LineTexts.{words_of_lines}
use Rattle.alpha_machine.specs.Runs.{MayStandAt}
use Rattle.run_texts.specs.RunFaults.{word_count}
use Rattle.run_texts.specs.SoFar.{IsRunTextTo}
use Rattle.run_texts.proofs.LastLines.{made, one_word}
use Rattle.run_texts.proofs.NextLines.{not_a_word, too_many_words, word_read}
use Rattle.run_texts.proofs.reading.read_word.Goals as goal
use Rattle.run_texts.proofs.reading.read_word.Goals.{then-not-is_empty-via-then-not-is_empty, then-not-is_empty-via-else-not-is_empty+then-not-is_empty-2}

pub returns-in_default-clause-fault : goal.returns-in_default-clause-fault
returns-in_default-clause-fault c =
    not_a_word c.args.text.now c.args.line c.args.run.now c.requires.so_far c.requires.line c.line_fault.result c.line_fault.ensures c.requires.first
    (λ n. c.in_default.ensures n.next n.is)

pub returns-then-not-is_empty-clause-fault : goal.returns-then-not-is_empty-clause-fault
returns-then-not-is_empty-clause-fault c =
    not_a_word c.args.text.now c.args.line c.args.run.now c.requires.so_far c.requires.line c.line_fault-then-not-is_empty.result c.line_fault-then-not-is_empty.ensures c.requires.first
    (λ n. elim c.then-not-is_empty.branch [
      | then-not-is_empty-via-then-not-is_empty w ↦ false≢true (sym w.if-not-is_empty.true ∙ c.is_empty.ensures.1 n.registers)
      | then-not-is_empty-via-else-not-is_empty+then-not-is_empty-2 w ↦ false≢true (sym w.if-not-is_empty-2.true ∙ w.is_empty-else-not-is_empty.ensures.1 n.places)
    ])

pub returns-then-not-may_stand-clause-fault : goal.returns-then-not-may_stand-clause-fault
returns-then-not-may_stand-clause-fault c =
    not_a_word c.args.text.now c.args.line c.args.run.now c.requires.so_far c.requires.line c.line_fault-then-not-may_stand.result c.line_fault-then-not-may_stand.ensures c.requires.first
    (λ n. (let same = one_word (line_at c.args.text.now c.args.line).words n.next c.in-Some.word n.is c.in-Some.ensures in
    c.may_stand.ensures.no c.if-not-may_stand.true
    (subst (λ k. MayStandAt k c.len.result c.in-Some.word) (sym c.requires.count)
    (subst (λ k. MayStandAt (word_count (words_of_lines c.args.text.now)) k c.in-Some.word) (sym c.len.ensures)
    (subst (MayStandAt (word_count (words_of_lines c.args.text.now)) (length c.args.run.now.words)) same n.stands)))))

stands_here : (count other at place word : ℕ) → count ≡ other → at ≡ place → MayStandAt count at word → MayStandAt other place word
stands_here count other at place word e f h = subst (λ k. MayStandAt k place word) e (subst (λ k. MayStandAt count k word) f h)

pub returns-then-len-eq-MOST_WORDS-clause-fault : goal.returns-then-len-eq-MOST_WORDS-clause-fault
returns-then-len-eq-MOST_WORDS-clause-fault c =
    too_many_words c.args.text.now c.args.line c.args.run.now c.requires.so_far c.requires.line c.line_fault-then-len-eq-MOST_WORDS.result c.line_fault-then-len-eq-MOST_WORDS.ensures
    c.in-Some.word (c.is_empty.ensures.0 c.if-not-is_empty.false) (c.is_empty-else-not-is_empty.ensures.0 c.if-not-is_empty-2.false) c.in-Some.ensures
    (stands_here _ _ _ _ c.in-Some.word c.requires.count c.len.ensures (c.may_stand.ensures.yes c.if-not-may_stand.false))
    (sym c.len-2.ensures ∙ c.if-len-eq-MOST_WORDS.true)

pub returns-clause-ok : goal.returns-clause-ok
returns-clause-ok c =
    let room : length c.args.run.now.words ≢ 4096 = λ e. c.if-len-eq-MOST_WORDS.false (c.len-2.ensures ∙ e) in
    subst (λ ws. IsRunTextTo (words_of_lines c.args.text.now) (c.args.line + 1) (made ws c.args.run.now.registers c.args.run.now.places)) (sym c.in_ok-push.ensures.ok)
    (word_read c.args.text.now c.args.line c.args.run.now c.requires.so_far c.requires.line
    c.in-Some.word (c.is_empty.ensures.0 c.if-not-is_empty.false) (c.is_empty-else-not-is_empty.ensures.0 c.if-not-is_empty-2.false) c.in-Some.ensures
    (stands_here _ _ _ _ c.in-Some.word c.requires.count c.len.ensures (c.may_stand.ensures.yes c.if-not-may_stand.false)) room)
