use Rattle.std.proofs.Common.{◌+◌, ◌<◌, ◌∙◌, length, sym, ap, subst, arith}
use Rattle.text_core.specs.LineTexts.{Words}
use Rattle.text_core.specs.Lines.{line_at}
use Rattle.axiom_library.specs.Names.{family_named}
use Rattle.answer_texts.proofs.FamilyLoops.{AreNamedBy, all_named, none_named, not_named, one_more_named}
use Rattle.answer_texts.proofs.library_lines.families_named.Goals as goal

pub loop-word-init : goal.loop-word-init
loop-word-init c =
    let words : Words = (line_at c.args.text.now c.args.line).words in
    (omega arith, subst (AreNamedBy words 1) (sym c.new-families.ensures) (none_named words))

pub returns-in-None : goal.returns-in-None
returns-in-None c =
    let words : Words = (line_at c.args.text.now c.args.line).words in
    let lt : c.loop-word.word < length words = (let n = c.words-word-end.ensures.count in let l = c.loop-word-test.true in omega arith) in
    not_named c.families_have_names.ensures.found words c.loop-word.word c.loop-word.invariant.0 lt
    (ap family_named (sym c.word.ensures.value) ∙ sym c.family_named.ensures ∙ c.in-None.is)

pub loop-word-preserved : goal.loop-word-preserved
loop-word-preserved c =
    let words : Words = (line_at c.args.text.now c.args.line).words in
    let low = c.loop-word.invariant.0 in
    let lt : c.loop-word.word < length words = (let n = c.words-word-end.ensures.count in let l = c.loop-word-test.true in omega arith) in
    let is = c.families_have_names.ensures.own c.word.result.now c.in-Some.family (sym c.family_named.ensures ∙ c.in-Some.is) in (
      omega (arith, low),
      subst (AreNamedBy words (c.loop-word.word + 1)) (sym c.in_ok-push-in-Some.ensures.ok)
          (one_more_named words c.loop-word.word c.loop-word.families c.in-Some.family low lt c.loop-word.invariant.1
          (sym c.word.ensures.value ∙ is)),
    )

pub returns : goal.returns
returns c =
    let words : Words = (line_at c.args.text.now c.args.line).words in
    all_named words c.loop-word.word c.loop-word.families
    (let n = c.words-word-end.ensures.count in let l = c.loop-word-test.false in omega arith) c.loop-word.invariant.1
