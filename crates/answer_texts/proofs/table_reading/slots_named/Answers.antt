use Rattle.std.proofs.Common.{◌+◌, ◌<◌, length, sym, subst, arith}
use Rattle.text_core.specs.LineTexts.{Words}
use Rattle.text_core.specs.Lines.{line_at}
use Rattle.answer_texts.proofs.TableNumbers.{AreNamed, not_named, named_twice, one_named, place_among, not_among}
use Rattle.answer_texts.proofs.table_reading.slots_named.Goals as goal

pub returns-in_default : goal.returns-in_default
returns-in_default c =
    let words : Words = (line_at c.args.text.now c.args.line).words in
    let lt : c.loop-at.at < length words = (let n = c.words-at-end.ensures.count in let l = c.loop-at-test.true in omega arith) in
    not_named c.args.slots.now words c.loop-at.at c.loop-at.named c.loop-at.invariant lt c.word.result.now c.word.ensures.value c.in_default.ensures.none

pub returns-then-contains : goal.returns-then-contains
returns-then-contains c =
    let words : Words = (line_at c.args.text.now c.args.line).words in
    let lt : c.loop-at.at < length words = (let n = c.words-at-end.ensures.count in let l = c.loop-at-test.true in omega arith) in
    let among = rw c.as_slice.ensures at (sym c.if-contains.ensures.value) in
    let place = place_among c.loop-at.named c.in-Some.slot among in
    named_twice c.args.slots.now words c.loop-at.at c.loop-at.named c.loop-at.invariant lt c.word.result.now c.word.ensures.value
    c.in-Some.slot c.in-Some.ensures.some c.requires.names place.0 place.1 place.2

pub loop-at-preserved : goal.loop-at-preserved
loop-at-preserved c =
    let words : Words = (line_at c.args.text.now c.args.line).words in
    let lt : c.loop-at.at < length words = (let n = c.words-at-end.ensures.count in let l = c.loop-at-test.true in omega arith) in
    let among = rw c.as_slice.ensures at (sym c.if-contains.ensures.value) in
    subst (AreNamed c.args.slots.now words (c.loop-at.at + 1)) (sym c.in_ok-push.ensures.ok)
    (one_named c.args.slots.now words c.loop-at.at c.loop-at.named c.loop-at.invariant lt c.word.result.now c.word.ensures.value
    c.in-Some.slot c.in-Some.ensures.some (not_among c.loop-at.named c.in-Some.slot among))
