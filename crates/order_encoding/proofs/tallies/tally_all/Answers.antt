use Rattle.std.proofs.Common.{◌≤◌, ◌+◌, ◌*◌, ◌∙◌, ℕ, ap, arith}
use Rattle.std.specs.List.{sum_by}
use Rattle.std.proofs.lemmas.Nat.{mul-le}
use Rattle.cycle_encoding.specs.Counts.{row_count, row_destinations}
use Rattle.cycle_encoding.specs.CycleFormula.{allocation_in}
use Rattle.cycle_encoding.proofs.RowSums.{row_more}
use Rattle.order_encoding.specs.Tallies.{tallied}
use Rattle.order_encoding.proofs.tallies.tally_all.Goals as goal

pub loop-row-preserved : goal.loop-row-preserved
loop-row-preserved c =
    let g = c.args.frame.now.facts.now in
    let n = c.loop-row.row in
    let a = allocation_in c.args.frame.now.scope.now in
    let A : ℕ → ℕ = λ row. row_count g c.args.frame.now.table.now c.args.frame.now.k c.args.frame.now.scope.now row in
    let B : ℕ → ℕ = λ row. sum_by (tallied c.args.tally g row) (row_destinations g a row) in
    let small : (old x : ℕ) → old ≤ n * 19200 → x ≤ 19200 → old + x ≤ (n + 1) * 19200 = λ old x p q. omega arith in
    record {
      is = row_more A B n c.loop-row.count c.row_count.result c.tally_of.result c.loop-row.invariant.is c.row_count.ensures.value (c.tally_of.ensures.value ∙ ap (λ x. sum_by (tallied c.args.tally g n) (row_destinations g x n)) c.allocation.ensures);
      small = small c.loop-row.count (c.row_count.result * c.tally_of.result) c.loop-row.invariant.small (mul-le c.row_count.result c.tally_of.result 200 96 c.row_count.ensures.few c.tally_of.ensures.few);
    }
