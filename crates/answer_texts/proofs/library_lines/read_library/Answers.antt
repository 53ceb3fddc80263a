use Rattle.std.proofs.Common.{◌≡◌, ◌+◌, ◌<◌, List, sym, ap, subst, ◌∙◌, arith, refl}
use Rattle.std.proofs.lemmas.Bool.{false≢true}
use Rattle.std.specs.Prelude.{Option, MatchOption}
use Rattle.text_core.specs.LineTexts.{SaysNone}
use Rattle.text_core.specs.Lines.{line_at}
use Rattle.axiom_library.specs.Libraries.{no_library}
use Rattle.answer_texts.specs.AnswerParts.{IsLibrary, LibraryPart, line, no_line}
use Rattle.answer_texts.proofs.library_lines.read_library.Goals as goal

pub returns-then-from-count-clause-ok : goal.returns-then-from-count-clause-ok
returns-then-from-count-clause-ok c =
    subst (LibraryPart c.args.text.now c.args.from c.args.from) (sym c.none.ensures)
    (no_line (λ begins. let within = begins.within in let end = c.if-from-count.true in let is = c.count.ensures in omega (arith, within)))

pub returns-then-not-begins_with-clause-ok : goal.returns-then-not-begins_with-clause-ok
returns-then-not-begins_with-clause-ok c =
    subst (LibraryPart c.args.text.now c.args.from c.args.from) (sym c.none-then-not-begins_with.ensures)
    (no_line (λ begins. false≢true (sym c.if-not-begins_with.true ∙ c.begins_with.ensures.1 begins.begins)))

pub returns-in-Some-clause-ok : goal.returns-in-Some-clause-ok
returns-in-Some-clause-ok c =
    line (record {
      within = omega arith;
      is = subst (λ o. MatchOption o (SaysNone IsLibrary (line_at c.args.text.now c.args.from).words) (IsLibrary (line_at c.args.text.now c.args.from).words))
          c.in-Some.is c.in_ok-library.ensures;
      behind = refl;
    })
