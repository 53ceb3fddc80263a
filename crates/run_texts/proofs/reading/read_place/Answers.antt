use Rattle.std.proofs.Common.{◌≢◌, ◌++◌, ◌∷◌, ◌+◌, ◌/◌, [], length, sym, subst, ◌∙◌}
use Rattle.std.specs.Prelude.{All}
use Rattle.text_core.specs.Lines.{line_at}
use Rattle.text_core.specs.LineTexts.{words_of_lines}
use Rattle.run_texts.specs.declared.texts.PlaceWord.{PlaceWord}
use Rattle.run_texts.specs.SoFar.{IsRunTextTo, AreSeen}
use Rattle.run_texts.proofs.LastLines.{made, one_place}
use Rattle.run_texts.proofs.NextLines.{not_a_place, too_many_places, place_read}
use Rattle.run_texts.proofs.Seen.{is_fresh, not_fresh, seen_more}
use Rattle.run_texts.proofs.reading.read_place.Goals as goal

pub returns-in_default-clause-fault : goal.returns-in_default-clause-fault
returns-in_default-clause-fault c =
    not_a_place c.args.text.now c.args.line c.args.run.now c.requires.so_far c.requires.line c.line_fault.result c.line_fault.ensures c.requires.no_word c.requires.no_register
    (λ n. c.in_default.ensures n.next n.is)

pub returns-then-get-ne0-clause-fault : goal.returns-then-get-ne0-clause-fault
returns-then-get-ne0-clause-fault c =
    not_a_place c.args.text.now c.args.line c.args.run.now c.requires.so_far c.requires.line c.line_fault-then-get-ne0.result c.line_fault-then-get-ne0.ensures c.requires.no_word c.requires.no_register
    (λ n. (let same = one_place (line_at c.args.text.now c.args.line).words n.next c.in-Some.given n.is c.in-Some.ensures in
    not_fresh c.args.run.now.places c.args.seen.now (c.in-Some.given.address / 8) c.get.result c.requires.seen c.get.ensures.word c.if-get-ne0.true
    (subst (λ (p : PlaceWord). All (λ (q : PlaceWord). q.address / 8 ≢ p.address / 8) c.args.run.now.places) same n.fresh)))

pub returns-then-len-eq-MOST_PLACES-clause-fault : goal.returns-then-len-eq-MOST_PLACES-clause-fault
returns-then-len-eq-MOST_PLACES-clause-fault c =
    too_many_places c.args.text.now c.args.line c.args.run.now c.requires.so_far c.requires.line c.line_fault-then-len-eq-MOST_PLACES.result c.line_fault-then-len-eq-MOST_PLACES.ensures
    c.in-Some.given c.in-Some.ensures
    (is_fresh c.args.run.now.places c.args.seen.now (c.in-Some.given.address / 8) c.requires.seen (sym c.get.ensures.word ∙ c.if-get-ne0.false))
    (sym c.len.ensures ∙ c.if-len-eq-MOST_PLACES.true)

pub returns-clause-ok : goal.returns-clause-ok
returns-clause-ok c =
    let room : length c.args.run.now.places ≢ 4096 = λ e. c.if-len-eq-MOST_PLACES.false (c.len.ensures ∙ e) in
    subst (λ ps. IsRunTextTo (words_of_lines c.args.text.now) (c.args.line + 1) (made c.args.run.now.words c.args.run.now.registers ps)) (sym c.in_ok-push.ensures.ok)
    (place_read c.args.text.now c.args.line c.args.run.now c.requires.so_far c.requires.line c.in-Some.given c.in-Some.ensures
    (is_fresh c.args.run.now.places c.args.seen.now (c.in-Some.given.address / 8) c.requires.seen (sym c.get.ensures.word ∙ c.if-get-ne0.false)) room)

pub returns-clause-seen : goal.returns-clause-seen
returns-clause-seen c =
    let laws = c.memories_hold_words.ensures in
    let p = c.in-Some.given in
    subst (λ ps. AreSeen ps c.set.new.self) (sym c.in_ok-push.ensures.ok)
    (subst (AreSeen (c.args.run.now.places ++ p ∷ [])) (sym c.in_ok-set.ensures.ok)
    (seen_more laws.put laws.others c.args.run.now.places c.args.seen.now p c.requires.seen))
