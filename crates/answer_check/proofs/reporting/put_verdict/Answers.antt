use Rattle.std.proofs.Common.{◌≡◌, [], ◌∷◌, ◌++◌, codes, decimal, sym, subst}
use Rattle.std.specs.Prelude.{OnOk}
use Rattle.text_core.specs.LineTexts.{line_text}
use Rattle.answer_check.specs.Reports.{verdict_words}
use Rattle.answer_check.specs.declared.verdicts.Verdict.{Verdict}
use Rattle.answer_check.proofs.reporting.put_verdict.Goals as goal

pub returns-in-Refutation : goal.returns-in-Refutation
returns-in-Refutation c =
    let put = c.put_line-in-Refutation in
    let start = c.args.text.now.items in
    let name = c.args.goal.now.name in
    let k = c.from-in-Refutation.result in
    let line = c.from-in-Refutation-2.result in
    subst (λ (v : Verdict). OnOk put.result (put.new.text.items ≡ start ++ line_text (verdict_words c.args.goal.now v)))
    (sym c.in-Refutation.is)
    (subst (λ n. OnOk put.result (put.new.text.items ≡ start ++ line_text (codes "no" ∷ name ∷ codes "refutation"
    ∷ decimal n ∷ decimal c.in-Refutation.line ∷ decimal c.in-Refutation.why ∷ []))) c.from-in-Refutation.ensures
    (subst (λ n. OnOk put.result (put.new.text.items ≡ start ++ line_text (codes "no" ∷ name ∷ codes "refutation"
    ∷ decimal k ∷ decimal n ∷ decimal c.in-Refutation.why ∷ []))) c.from-in-Refutation-2.ensures
    (subst (λ n. OnOk put.result (put.new.text.items ≡ start ++ line_text (codes "no" ∷ name ∷ codes "refutation"
    ∷ decimal k ∷ decimal line ∷ decimal n ∷ []))) c.from-in-Refutation-3.ensures
    put.ensures)))
