use Rattle.std.proofs.Common.{◌≤◌, ◌+◌, ◌*◌, ◌∙◌, ℕ, sym, ap, arith}
use Rattle.std.specs.List.{count_by, sum_by}
use Rattle.std.proofs.lemmas.Nat.{mul-le}
use Rattle.schedule_meaning.specs.Launches.{operands_at}
use Rattle.cycle_encoding.specs.CycleFormula.{allocation_in}
use Rattle.cycle_encoding.specs.Counts.{row_count, row_destinations, needs_clause}
use Rattle.cycle_encoding.proofs.RowSums.{row_more}
use Rattle.cycle_encoding.proofs.needs_counts.needs_count.Goals as goal

pub loop-row-preserved : goal.loop-row-preserved
loop-row-preserved c =
    let g = c.args.frame.now.facts.now in
    let n = c.loop-row.row in
    let A : ℕ → ℕ = λ row. row_count g c.args.frame.now.table.now c.args.frame.now.k c.args.frame.now.scope.now row in
    let B : ℕ → ℕ = λ row. sum_by (λ to. count_by (needs_clause g to) (operands_at g row)) (row_destinations g (allocation_in c.args.frame.now.scope.now) row) in
    let small : (old x : ℕ) → old ≤ n * 25600 → x ≤ 25600 → old + x ≤ (n + 1) * 25600 = λ old x p q. omega arith in
    record {
      is = row_more A B n c.loop-row.count c.row_count.result c.row_needs.result c.loop-row.invariant.is c.row_count.ensures.value
          (c.row_needs.ensures.value
          ∙ ap (λ x. sum_by (λ to. count_by (needs_clause g to) (operands_at g n)) (row_destinations g x n)) c.allocation.ensures);
      small = small c.loop-row.count (c.row_count.result * c.row_needs.result) c.loop-row.invariant.small (mul-le c.row_count.result c.row_needs.result 200 128 c.row_count.ensures.few c.row_needs.ensures.few);
    }
