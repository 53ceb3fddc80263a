use Rattle.std.proofs.Common.{◌+◌, ◌<◌, ◌≤◌, length, take, sym, ap, subst, arith}
use Rattle.std.proofs.lemmas.List.{length-map}
use Rattle.std.proofs.lemmas.Result.{err_from_is_err_and}
use Rattle.forms.specs.Forms.{is_list, parts_of, place_of, sexp_form, sexp_forms}
use Rattle.forms.proofs.Told.{told, told_of_part}
use Rattle.goal_reader.proofs.NewNames.{count_form, nth_part, part_of}
use Rattle.goal_meaning.specs.Views.{let_view}
use Rattle.code_lift.specs.LiftRoles as roles
use Rattle.code_lift.specs.LiftRoles.{IsLiftFaultAs}
use Rattle.code_lift.specs.Lifted.{Lifting}
use Rattle.code_lift.specs.LiftingView.{lifting_view}
use Rattle.code_lift.proofs.LiftLeaves.{form_first, past_first}
use Rattle.code_lift.proofs.LiftLists.{AreWordsRead, no_words_read, part_first, past_role_is, word_more, word_role_is, words_are, words_own, words_part_clear}
use Rattle.code_lift.proofs.words.words.Goals as goal

pub returns-in_default-clause-fault : goal.returns-in_default-clause-fault
returns-in_default-clause-fault c =
    let text = c.args.text.now in
    let form = sexp_form text c.args.form.now in
    let s = c.sexps_are_forms.ensures.stands text c.args.form.now c.requires.of in
    told (IsLiftFaultAs roles.word_list form) c.at.result c.place.result (place_of form) _ c.at.ensures (c.place.ensures text)
    (form_first roles.word_list form s.0 s.1 s.2 (roles.no_words (c.in_default.ensures.parts text)))

pub loop-index-init : goal.loop-index-init
loop-index-init c =
    let form = sexp_form c.args.text.now c.args.form.now in
    let none = ap (λ (s : Lifting). length s.lets) c.new-lifting.ensures in
    let count = length-map c.new-lifting.result.lets.items let_view in
    record {
      read = subst (λ ws. AreWordsRead form 0 ws (lifting_view c.new-lifting.result)) (sym c.new-words.ensures) (no_words_read form (lifting_view c.new-lifting.result) c.new-lifting.ensures);
      lets = omega (arith, none, count);
    }

pub returns-then-index-ge-MOST_LIFT_WORDS-clause-fault : goal.returns-then-index-ge-MOST_LIFT_WORDS-clause-fault
returns-then-index-ge-MOST_LIFT_WORDS-clause-fault c =
    let text = c.args.text.now in
    let form = sexp_form text c.args.form.now in
    let s = c.sexps_are_forms.ensures.stands text c.args.form.now c.requires.of in
    let parts = c.in-Some.parts.now in
    let is = c.in-Some.ensures.parts text in
    let i = c.loop-index.index in
    let inv = c.loop-index.invariant in
    let g = nth_part text form (place_of form) parts i c.index-parts-index.result is c.loop-index-test.true c.index-parts-index.is in
    let part = sexp_form text c.index-parts-index.result in
    let of = c.sexps_are_forms.ensures.stands text c.index-parts-index.result (part_of text parts i c.index-parts-index.result (c.in-Some.ensures.of text c.requires.of) c.loop-index-test.true c.index-parts-index.is) in
    told (IsLiftFaultAs roles.word_list form) c.at-then-index-ge-MOST_LIFT_WORDS.result c.place-then-index-ge-MOST_LIFT_WORDS.result (place_of part) _ c.at-then-index-ge-MOST_LIFT_WORDS.ensures (c.place-then-index-ge-MOST_LIFT_WORDS.ensures text)
    (part_first roles.word_list form s.0 s.1 i part roles.past (place_of part) _ s.2 (words_own form (ap is_list is)) g (past_role_is form i c.if-index-ge-MOST_LIFT_WORDS.true) (words_part_clear form i c.loop-index.words (lifting_view c.loop-index.lifting) inv.read)
    (past_first part of.0 of.1 of.2))

pub next_word-requires : goal.next_word-requires
next_word-requires c =
    let text = c.args.text.now in
    let parts = c.in-Some.parts.now in
    let few = c.loop-index.invariant.lets in
    let below = c.if-index-ge-MOST_LIFT_WORDS.false in
    record {
      of = part_of text parts c.loop-index.index c.index-parts-index.result (c.in-Some.ensures.of text c.requires.of) c.loop-index-test.true c.index-parts-index.is;
      few = omega (arith, few, below);
    }

pub returns-in_err-word-clause-fault : goal.returns-in_err-word-clause-fault
returns-in_err-word-clause-fault c =
    let p = err_from_is_err_and c.from_residual.result c.from_residual.ensures.1 in
    let text = c.args.text.now in
    let form = sexp_form text c.args.form.now in
    let s = c.sexps_are_forms.ensures.stands text c.args.form.now c.requires.of in
    let parts = c.in-Some.parts.now in
    let is = c.in-Some.ensures.parts text in
    let i = c.loop-index.index in
    let inv = c.loop-index.invariant in
    let below : i < 256 = (let l = c.if-index-ge-MOST_LIFT_WORDS.false in omega (arith, l)) in
    let g = nth_part text form (place_of form) parts i c.index-parts-index.result is c.loop-index-test.true c.index-parts-index.is in
    let part = sexp_form text c.index-parts-index.result in
    let before = take i (parts_of form) in
    rw (p.1, p.2)
    (told_of_part (IsLiftFaultAs (roles.a_word before) part) (IsLiftFaultAs roles.word_list form)
    (λ k kind one. part_first roles.word_list form s.0 s.1 i part (roles.a_word before) k kind s.2 (words_own form (ap is_list is)) g (word_role_is form i below)
    (words_part_clear form i c.loop-index.words (lifting_view c.loop-index.lifting) inv.read) one)
    c.in_err-word.field-0.0 (c.in_err-word.ensures.fault before c.loop-index.words inv.read.are inv.read.count inv.read.known))

pub loop-index-preserved : goal.loop-index-preserved
loop-index-preserved c =
    let text = c.args.text.now in
    let form = sexp_form text c.args.form.now in
    let parts = c.in-Some.parts.now in
    let is = c.in-Some.ensures.parts text in
    let i = c.loop-index.index in
    let inv = c.loop-index.invariant in
    let below : i < 256 = (let l = c.if-index-ge-MOST_LIFT_WORDS.false in omega (arith, l)) in
    let g = nth_part text form (place_of form) parts i c.index-parts-index.result is c.loop-index-test.true c.index-parts-index.is in
    let part = sexp_form text c.index-parts-index.result in
    let words = c.loop-index.words in
    let word = c.in_ok-word.word in
    let after = lifting_view c.next_word.new.lifting in
    let before = inv.lets in
    let one = c.in_ok-word.ensures.lets in
    record {
      read = subst (λ ws. AreWordsRead form (i + 1) ws after) (sym c.in_ok-push.ensures.ok)
          (word_more form i words (lifting_view c.loop-index.lifting) after part word inv.read below g c.in_ok-word.ensures.word c.in_ok-word.ensures.plain
          (c.in_ok-word.ensures.behind words inv.read.are.plain inv.read.count inv.read.known) c.in_ok-word.ensures.within);
      lets = omega (arith, before, one);
    }

pub returns-clause-words : goal.returns-clause-words
returns-clause-words c =
    let text = c.args.text.now in
    let form = sexp_form text c.args.form.now in
    let parts = c.in-Some.parts.now in
    let is = c.in-Some.ensures.parts text in
    let count = count_form text form (place_of form) parts is in
    let i = c.loop-index.index in
    let most : length (parts_of form) ≤ i = (let f = c.loop-index-test.false in omega (arith, f, count)) in
    words_are form (place_of form) i (sexp_forms text parts) c.loop-index.words (lifting_view c.loop-index.lifting) is most c.loop-index.invariant.read

pub returns-clause-behind : goal.returns-clause-behind
returns-clause-behind c = c.loop-index.invariant.read.known
