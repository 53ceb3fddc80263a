use Rattle.std.proofs.Common.{◌≡◌, ◌∙◌, arith}
use Rattle.cycle_encoding.proofs.Tallies.{sum_more}
use Rattle.least_launch.proofs.CountsOf.{row_size, rows_are}
use Rattle.least_launch.proofs.counting.launch_count.Goals as goal

pub loop-row-preserved : goal.loop-row-preserved
loop-row-preserved c =
    let more = sum_more (row_size c.args.facts.now c.args.table.now c.args.k c.args.scope.now) c.loop-row.row in
    let now = c.row_launches-count.ensures.value in
    let few = c.row_launches-count.ensures.few in
    let before = c.loop-row.invariant.is in
    let small = c.loop-row.invariant.small in
    record { is = omega (arith, more, now, before); small = omega (arith, few, small) }

pub returns-clause-value : goal.returns-clause-value
returns-clause-value c =
    c.loop-row.invariant.is
    ∙ rows_are c.args.facts.now c.args.table.now c.args.k c.args.scope.now c.loop-row.row
    (let end : c.loop-row.row ≡ c.row_numbers-row-end.result = omega arith in end ∙ c.row_numbers-row-end.ensures.value)
