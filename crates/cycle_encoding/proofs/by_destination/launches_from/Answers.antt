use Rattle.std.proofs.Common.{ℕ, List, Option, ◌++◌, ◌∙◌, ap, sym}
use Rattle.std.specs.List.{flat_map, range_with_len}
use Rattle.schedule_meaning.specs.declared.schedules.Launch.{Launch}
use Rattle.cycle_encoding.specs.CycleFormula.{allocation_in, first_cycle_in}
use Rattle.cycle_encoding.specs.Variables.{row_launches}
use Rattle.cycle_encoding.proofs.Destined.{rows_more}
use Rattle.cycle_encoding.proofs.by_destination.launches_from.Goals as goal

pub loop-row-preserved : goal.loop-row-preserved
loop-row-preserved c =
    let g = c.args.frame.now.facts.now in
    let table = c.args.frame.now.table.now in
    let k = c.args.frame.now.k in
    let row = c.loop-row.row in
    let a = allocation_in c.args.frame.now.scope.now in
    let before : List Launch = flat_map (λ row. row_launches g table a k (first_cycle_in c.args.frame.now.scope.now row) row) (range_with_len 0 row) in
    c.in_ok-push_row.ensures
    ∙ ap (λ (ls : List Launch). ls ++ row_launches g table a k c.first-first.result row) c.loop-row.invariant
    ∙ ap (λ (o : Option ℕ). before ++ row_launches g table a k o row) c.first-first.ensures
    ∙ sym (rows_more g table a k (first_cycle_in c.args.frame.now.scope.now) row)
