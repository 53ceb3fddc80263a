use Rattle.std.proofs.Common.{◌≡◌, ◌<◌, get_or, length, map, take, ◌++◌, ◌∷◌, [], sym, ap, ◌∙◌, arith}
use Rattle.std.proofs.lemmas.List.{map_more}
use Rattle.std.proofs.lemmas.Option.{get_or_from_slice_get}
use Rattle.code_check.proofs.Aligning.{shown_row}
use Rattle.code_check.proofs.trapping.launch_rows.Goals as goal

pub loop-at-preserved : goal.loop-at-preserved
loop-at-preserved c =
    let rows = c.args.graph.now.rows in
    let at = c.loop-at.at in
    let row = c.row.result.now in
    let lt : at < length rows = omega (arith, c.loop-at-test.true, c.rows-at-end.ensures.value) in
    let is : get_or rows at row ≡ row = get_or_from_slice_get rows at row row c.row.ensures.row in
    c.in_ok-push.ensures.items
    ∙ ap (λ rs. rs ++ c.in_ok-launch_row.field-0 ∷ []) c.loop-at.invariant
    ∙ ap (λ r. map shown_row (take at rows) ++ r ∷ []) c.in_ok-launch_row.ensures
    ∙ ap (λ r. map shown_row (take at rows) ++ shown_row r ∷ []) (sym is)
    ∙ sym (map_more shown_row rows at row lt)
