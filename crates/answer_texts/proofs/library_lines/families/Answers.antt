use Rattle.std.proofs.Common.{◌≡◌, [], ◌∷◌, ◌++◌, cond, filter, get_or, take, sym, ap, ◌∙◌}
use Rattle.std.proofs.lemmas.List.{append-nil, take_all}
use Rattle.std.proofs.lemmas.List.Elements.{filter_more}
use Rattle.axiom_library.specs.Families.{all_families}
use Rattle.axiom_library.specs.Libraries.{has_family}
use Rattle.axiom_library.specs.declared.families.Family.TheVariants.{Bytes}
use Rattle.answer_texts.specs.AnswerLines.{listed_families}
use Rattle.answer_texts.proofs.library_lines.families.Goals as goal
use Rattle.answer_texts.proofs.library_lines.families.Goals.{then-has+in_ok-push, else-has}

pub loop-family-preserved : goal.loop-family-preserved
loop-family-preserved c =
    let i = c.loop-family.family-index in
    let family = get_or all_families i Bytes in
    let before = filter (has_family c.args.library) (take i all_families) in
    let more = filter_more (has_family c.args.library) all_families i Bytes c.loop-family-test.true in
    elim c.if-has.branch [
      | then-has+in_ok-push w ↦
          w.families-is ∙ w.in_ok-push.ensures.ok ∙ ap (λ xs. xs ++ family ∷ []) c.loop-family.invariant
          ∙ sym (more ∙ ap (λ b. before ++ cond b (family ∷ []) []) (sym c.has.ensures ∙ w.if-has.true))
      | else-has w ↦
          w.families-is ∙ c.loop-family.invariant ∙ sym (append-nil before)
          ∙ sym (more ∙ ap (λ b. before ++ cond b (family ∷ []) []) (sym c.has.ensures ∙ w.if-has.false))
    ]

pub returns : goal.returns
unfolding listed_families
returns c =
    c.loop-family.invariant
    ∙ ap (filter (has_family c.args.library)) (take_all c.loop-family.family-index all_families c.loop-family-test.false)
