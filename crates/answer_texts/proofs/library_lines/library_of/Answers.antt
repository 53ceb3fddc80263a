use Rattle.std.proofs.Common.{◌≡◌, ◌+◌, suc, drop, get_or, sym, ap, ◌∙◌, arith}
use Rattle.std.proofs.lemmas.List.{drop_all}
use Rattle.std.proofs.Math.Seq.{drop-cons}
use Rattle.axiom_library.specs.Libraries.{with_families, with_family}
use Rattle.axiom_library.specs.declared.families.Family.TheVariants.{Bytes}
use Rattle.answer_texts.proofs.library_lines.library_of.Goals as goal

pub loop-family-preserved : goal.loop-family-preserved
loop-family-preserved c =
    let i = c.loop-family.family-index in
    let families = c.args.families.now in
    let x = get_or families i Bytes in
    let next : i + 1 ≡ suc i = omega arith in
    ap (λ l. with_families l (drop (i + 1) families)) c.with-library.ensures
    ∙ ap (λ n. with_families (with_family c.loop-family.library x) (drop n families)) next
    ∙ sym (ap (with_families c.loop-family.library) (drop-cons families i Bytes c.loop-family-test.true))
    ∙ c.loop-family.invariant

pub returns : goal.returns
returns c =
    sym (ap (with_families c.loop-family.library) (drop_all c.loop-family.family-index c.args.families.now c.loop-family-test.false))
    ∙ c.loop-family.invariant
