use Rattle.std.proofs.Common.{◌≡◌, ◌+◌, ◌<◌, ◌++◌, ◌∷◌, [], map, length, take, refl, sym, ap, ◌∙◌, subst, arith}
use Rattle.std.proofs.lemmas.List.{take_all, take_more}
use Rattle.std.proofs.lemmas.Option.{MatchOption-at_some, MatchOption-at_none, get_or_from_slice_get}
use Rattle.word_ops.specs.Operators.{operators}
use Rattle.axiom_base.specs.Schemes.{folding}
use Rattle.pattern_match.specs.Listing.{Chosen, nothing}
use Rattle.pattern_match.specs.Matches.{IsFoldOf, AreNeeds}
use Rattle.pattern_match.proofs.Choosing.{chosen_takes, chosen_skips}
use Rattle.pattern_match.proofs.FoldNeeds.{folds_need}
use Rattle.pattern_match.proofs.folding.folds.Goals as goal
use Rattle.pattern_match.proofs.folding.folds.Goals.{in-Some+in_ok-push, in_default}

pub loop-at-init : goal.loop-at-init
loop-at-init c = subst (Chosen (IsFoldOf c.args.graph.now) []) (sym c.new-found.ensures.items) nothing

pub folded-requires-clause-row : goal.folded-requires-clause-row
folded-requires-clause-row c =
    let rows = c.args.graph.now.rows in
    let row = c.row-row.result.now in
    (c.loop-at.at, omega (arith, c.loop-at-test.true, c.rows-at-end.ensures.value), get_or_from_slice_get rows c.loop-at.at row row c.row-row.ensures.row)

pub loop-at-preserved : goal.loop-at-preserved
loop-at-preserved c =
    let g = c.args.graph.now in
    let rows = g.rows in
    let at = c.loop-at.at in
    let row = c.row-row.result.now in
    let l : at < length rows = omega (arith, c.loop-at-test.true, c.rows-at-end.ensures.value) in
    let more : take (at + 1) rows ≡ take at rows ++ row ∷ [] = take_more rows at row l ∙ ap (λ x. take at rows ++ x ∷ []) (get_or_from_slice_get rows at row row c.row-row.ensures.row) in
    elim c.match-branch-2.branch [
      | in-Some+in_ok-push w ↦
          (let unmet = MatchOption-at_some _ _ w.in-Some.value w.in-Some.is c.in_ok-value.ensures in
          let after = chosen_takes (IsFoldOf g) (take at rows) c.loop-at.found.items row (record { class = row.class; value = w.in-Some.value }) c.loop-at.invariant (record { class_is = refl; unmet = unmet }) in
          subst (λ xs. Chosen (IsFoldOf g) xs c.match-branch-2.found.items) (sym more)
          (subst (λ f. Chosen (IsFoldOf g) (take at rows ++ row ∷ []) f.items) (sym w.found-is) (subst (Chosen (IsFoldOf g) (take at rows ++ row ∷ [])) (sym w.in_ok-push.ensures.items) after)))
      | in_default w ↦
          (let none = MatchOption-at_none _ _ w.in_default.is c.in_ok-value.ensures in
          let same = chosen_skips (IsFoldOf g) (take at rows) c.loop-at.found.items row c.loop-at.invariant (λ y r. none y.value r.unmet) in
          subst (λ xs. Chosen (IsFoldOf g) xs c.match-branch-2.found.items) (sym more)
          (subst (λ f. Chosen (IsFoldOf g) (take at rows ++ row ∷ []) f.items) (sym w.found-is) same))
    ]

pub returns-clause-need : goal.returns-clause-need
returns-clause-need c =
    let g = c.args.graph.now in
    let end = take_all c.loop-at.at g.rows (omega (arith, c.loop-at-test.false, c.rows-at-end.ensures.value)) in
    let chosen = subst (λ xs. Chosen (IsFoldOf g) xs c.loop-at.found.items) end c.loop-at.invariant in
    subst (λ xs. AreNeeds g (map folding operators) (length xs)) (sym c.from.ensures) (folds_need g c.rows-at-end.ensures.graph.distinct chosen)
