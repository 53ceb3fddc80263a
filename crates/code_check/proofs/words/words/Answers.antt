use Rattle.std.proofs.Common.{◌≡◌, ◌+◌, ◌<◌, ◌≤◌, ◌||◌, false, length, take, sym, ap, subst, arith}
use Rattle.std.proofs.lemmas.Result.{err_from_is_err_and}
use Rattle.text_core.specs.Faults.{IsFaultBy}
use Rattle.forms.specs.Forms.{place_of, sexp_form, sexp_forms, parts_of, is_list}
use Rattle.forms.proofs.Told.{told, told_of_part}
use Rattle.code_check.specs.CodeReading.{IsFirstCodeFault, IsNextWord, WritesWords}
use Rattle.code_check.specs.CodeRoles as roles
use Rattle.code_check.specs.CodeRoles.{IsCodeFaultAs, is_branch_word}
use Rattle.code_check.proofs.FormLists.{count_form, nth_part, part_of}
use Rattle.code_check.proofs.CodeWords.{AreReadTo, few_parts, first_words, past_role, read_more, word_role, words_clear, words_own, words_written, branch_among, read_count}
use Rattle.code_check.proofs.Growing.{part_first}
use Rattle.code_check.proofs.Leaves.{form_first, past_first}
use Rattle.code_check.proofs.words.words.Goals as goal

pub returns-in_default-clause-fault : goal.returns-in_default-clause-fault
returns-in_default-clause-fault c =
    let text = c.args.text.now in
    let form = sexp_form text c.args.form.now in
    let s = c.sexps_are_forms.ensures.stands text c.args.form.now c.requires.of in
    told (IsCodeFaultAs roles.word_list form) c.at.result c.place.result (place_of form) _ c.at.ensures (c.place.ensures text)
    (form_first roles.word_list form s.0 s.1 s.2 (roles.no_words (c.in_default.ensures.parts text)))

pub loop-index-init : goal.loop-index-init
loop-index-init c =
    let form = sexp_form c.args.text.now c.args.form.now in
    subst (λ ws. AreReadTo form 0 ws false) (sym c.new-words.ensures.items) (first_words form)

pub returns-then-index-ge-MOST_CODE_WORDS-clause-fault : goal.returns-then-index-ge-MOST_CODE_WORDS-clause-fault
returns-then-index-ge-MOST_CODE_WORDS-clause-fault c =
    let text = c.args.text.now in
    let form = sexp_form text c.args.form.now in
    let s = c.sexps_are_forms.ensures.stands text c.args.form.now c.requires.of in
    let parts = c.in-Some.parts.now in
    let is = c.in-Some.ensures.parts text in
    let i = c.loop-index.index in
    let g = nth_part text form (place_of form) parts i c.index-parts-index.result is c.loop-index-test.true c.index-parts-index.is in
    let part = sexp_form text c.index-parts-index.result in
    let of = c.sexps_are_forms.ensures.stands text c.index-parts-index.result (part_of text parts i c.index-parts-index.result (c.in-Some.ensures.of text c.requires.of) c.loop-index-test.true c.index-parts-index.is) in
    told (IsCodeFaultAs roles.word_list form) c.at-then-index-ge-MOST_CODE_WORDS.result c.place-then-index-ge-MOST_CODE_WORDS.result (place_of part) _ c.at-then-index-ge-MOST_CODE_WORDS.ensures (c.place-then-index-ge-MOST_CODE_WORDS.ensures text)
    (part_first roles.word_list form s.0 s.1 i part roles.past (place_of part) _ s.2 (words_own form (ap is_list is)) g (past_role form i c.if-index-ge-MOST_CODE_WORDS.true) c.loop-index.invariant.clear
    (past_first part of.0 of.1 of.2))

pub next_word-requires : goal.next_word-requires
next_word-requires c =
    let text = c.args.text.now in
    let parts = c.in-Some.parts.now in
    let small = c.requires.small in
    let few = few_parts text c.args.form.now parts (place_of (sexp_form text c.args.form.now)) c.requires.of (c.in-Some.ensures.parts text) in
    record {
      of = part_of text parts c.loop-index.index c.index-parts-index.result (c.in-Some.ensures.of text c.requires.of) c.loop-index-test.true c.index-parts-index.is;
      few = omega (arith, few, small);
    }

pub returns-in_err-word-clause-fault : goal.returns-in_err-word-clause-fault
returns-in_err-word-clause-fault c =
    let p = err_from_is_err_and c.from_residual.result c.from_residual.ensures.1 in
    let text = c.args.text.now in
    let form = sexp_form text c.args.form.now in
    let s = c.sexps_are_forms.ensures.stands text c.args.form.now c.requires.of in
    let parts = c.in-Some.parts.now in
    let is = c.in-Some.ensures.parts text in
    let count = count_form text form (place_of form) parts is in
    let i = c.loop-index.index in
    let inv = c.loop-index.invariant in
    let below : i < 4096 = (let l = c.if-index-ge-MOST_CODE_WORDS.false in omega (arith, l)) in
    let g = nth_part text form (place_of form) parts i c.index-parts-index.result is c.loop-index-test.true c.index-parts-index.is in
    let part = sexp_form text c.index-parts-index.result in
    let before = take i (parts_of form) in
    let counted : i ≡ length before = (let n = inv.count in let m = read_count (length (parts_of form)) before c.loop-index.words.items c.loop-index.has_branch inv.read in omega (arith, n, m)) in
    let fault = subst (λ n. IsFaultBy (IsFirstCodeFault (roles.a_word n before) part) c.in_err-word.field-0.0) (sym count) (c.in_err-word.ensures.fault before counted (branch_among (length (parts_of form)) before c.loop-index.words.items c.loop-index.has_branch inv.read)) in
    rw (p.1, p.2)
    (told_of_part (IsCodeFaultAs (roles.a_word (length (parts_of form)) before) part) (IsCodeFaultAs roles.word_list form)
    (λ k kind one. part_first roles.word_list form s.0 s.1 i part (roles.a_word (length (parts_of form)) before) k kind s.2 (words_own form (ap is_list is)) g (word_role form i below) inv.clear one)
    c.in_err-word.field-0.0 fault)

pub loop-index-preserved : goal.loop-index-preserved
loop-index-preserved c =
    let text = c.args.text.now in
    let form = sexp_form text c.args.form.now in
    let parts = c.in-Some.parts.now in
    let is = c.in-Some.ensures.parts text in
    let count = count_form text form (place_of form) parts is in
    let i = c.loop-index.index in
    let below : i < 4096 = (let l = c.if-index-ge-MOST_CODE_WORDS.false in omega (arith, l)) in
    let g = nth_part text form (place_of form) parts i c.index-parts-index.result is c.loop-index-test.true c.index-parts-index.is in
    let part = sexp_form text c.index-parts-index.result in
    let w = c.in_ok-word.word in
    let next = subst (λ n. IsNextWord n i c.loop-index.has_branch w) (sym count) c.in_ok-word.ensures.next in
    let read = read_more form i w c.loop-index.words.items c.loop-index.has_branch part c.loop-index.invariant below g c.in_ok-word.ensures.word next in
    subst (λ b. AreReadTo form (i + 1) c.push.new.self.items b) (ap (λ b. c.loop-index.has_branch || b) (sym c.is_branch-has_branch.ensures))
    (subst (λ ws. AreReadTo form (i + 1) ws (c.loop-index.has_branch || is_branch_word w)) (sym c.in_ok-push.ensures.items) read)

pub returns-clause-words : goal.returns-clause-words
returns-clause-words c =
    let text = c.args.text.now in
    let form = sexp_form text c.args.form.now in
    let parts = c.in-Some.parts.now in
    let is = c.in-Some.ensures.parts text in
    let count = count_form text form (place_of form) parts is in
    let i = c.loop-index.index in
    let most : length (parts_of form) ≤ i = (let f = c.loop-index-test.false in omega (arith, f, count)) in
    subst (WritesWords form) (sym c.from.ensures)
    (words_written form c.words_and_instructions.ensures.forth (place_of form) i (sexp_forms text parts) c.loop-index.words.items c.loop-index.has_branch is c.loop-index.invariant most)

pub returns-clause-clear : goal.returns-clause-clear
returns-clause-clear c =
    let text = c.args.text.now in
    let form = sexp_form text c.args.form.now in
    let parts = c.in-Some.parts.now in
    let is = c.in-Some.ensures.parts text in
    let count = count_form text form (place_of form) parts is in
    let i = c.loop-index.index in
    let most : length (parts_of form) ≤ i = (let f = c.loop-index-test.false in omega (arith, f, count)) in
    words_clear form i c.loop-index.words.items c.loop-index.has_branch c.loop-index.invariant (ap is_list is) most
