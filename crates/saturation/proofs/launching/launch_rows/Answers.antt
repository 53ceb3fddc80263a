use Rattle.std.proofs.Common.{◌≡◌, ◌<◌, get_or, length, map, take, ◌++◌, ◌∷◌, [], sym, ap, ◌∙◌, arith}
use Rattle.std.proofs.lemmas.List.{map_more}
use Rattle.std.proofs.lemmas.Option.{get_or_from_slice_get}
use Rattle.saturation.specs.Numbered.{launched_row}
use Rattle.saturation.proofs.launching.launch_rows.Goals as goal

pub loop-at-preserved : goal.loop-at-preserved
loop-at-preserved c =
    let rows = c.args.graph.now.rows in
    let at = c.loop-at.at in
    let row = c.row.result.now in
    let f = launched_row c.args.numbers.now c.args.used.now c.args.declared.now in
    let lt : at < length rows = omega (arith, c.loop-at-test.true, c.rows-at-end.ensures.value) in
    let is : get_or rows at row ≡ row = get_or_from_slice_get rows at row row c.row.ensures.row in
    c.in_ok-push.ensures.items
    ∙ ap (λ rs. rs ++ c.in_ok-launch_row.field-0 ∷ []) c.loop-at.invariant
    ∙ ap (λ r. map f (take at rows) ++ r ∷ []) c.in_ok-launch_row.ensures
    ∙ ap (λ r. map f (take at rows) ++ f r ∷ []) (sym is)
    ∙ sym (map_more f rows at row lt)
