use Rattle.std.proofs.Common.{◌≡◌, ◌≤◌, ◌+◌, ◌*◌, ◌∙◌, ℕ, sym, ap, arith}
use Rattle.std.specs.Prelude.{length}
use Rattle.std.specs.List.{count_by, sum_by}
use Rattle.std.proofs.lemmas.Nat.{mul-le}
use Rattle.schedule_meaning.specs.Launches.{operands_at}
use Rattle.cycle_encoding.specs.CycleFormula.{allocation_in}
use Rattle.cycle_encoding.specs.Counts.{row_count, row_destinations}
use Rattle.cycle_encoding.proofs.RowSums.{row_more}
use Rattle.order_encoding.specs.OrderCounts.{is_pooled_operand_in}
use Rattle.order_encoding.proofs.DestinedSteps.{sum_same}
use Rattle.order_encoding.proofs.live_counts.need_count.Goals as goal

pub loop-row-preserved : goal.loop-row-preserved
loop-row-preserved c =
    let g = c.args.pooled.now.frame.facts.now in
    let n = c.loop-row.row in
    let a = allocation_in c.args.pooled.now.frame.scope.now in
    let A : ℕ → ℕ = λ row. row_count g c.args.pooled.now.frame.table.now c.args.pooled.now.frame.k c.args.pooled.now.frame.scope.now row in
    let P : ℕ → ℕ = λ row. count_by (is_pooled_operand_in g c.args.pooled.now.frame.table.now c.args.pooled.now.frame.k c.args.pooled.now.frame.scope.now) (operands_at g row) in
    let B : ℕ → ℕ = λ row. sum_by (λ to. P row) (row_destinations g a row) in
    let small : (old x : ℕ) → old ≤ n * 25600 → x ≤ 25600 → old + x ≤ (n + 1) * 25600 = λ old x p q. omega arith in
    let swap : (x y : ℕ) → x * y ≡ y * x = λ x y. omega arith in
    let places : c.destination_count.result ≡ length (row_destinations g a n) = c.destination_count.ensures.value ∙ ap (λ x. length (row_destinations g x n)) c.allocation.ensures in
    let product : c.row_needs.result * c.destination_count.result ≡ B n = ap (λ x. x * c.destination_count.result) c.row_needs.ensures.value ∙ ap (λ x. P n * x) places ∙ swap (P n) (length (row_destinations g a n)) ∙ sym (sum_same g a n (P n)) in
    let inner : c.row_needs.result * c.destination_count.result ≤ 128 = mul-le c.row_needs.result c.destination_count.result 4 32 c.row_needs.ensures.few c.destination_count.ensures.few in
    record {
      is = row_more A B n c.loop-row.count c.row_count.result (c.row_needs.result * c.destination_count.result) c.loop-row.invariant.is c.row_count.ensures.value product;
      small = small c.loop-row.count (c.row_count.result * (c.row_needs.result * c.destination_count.result)) c.loop-row.invariant.small (mul-le c.row_count.result (c.row_needs.result * c.destination_count.result) 200 128 c.row_count.ensures.few inner);
    }
