use Rattle.std.proofs.Common.{◌≤◌, ◌+◌, ◌*◌, ◌∙◌, ℕ, ap, arith}
use Rattle.std.specs.Prelude.{length}
use Rattle.std.proofs.lemmas.Nat.{mul-le}
use Rattle.order_encoding.specs.OrderCounts.{row_stores}
use Rattle.cycle_encoding.specs.Counts.{row_destinations}
use Rattle.cycle_encoding.proofs.RowSums.{row_more}
use Rattle.cycle_encoding.specs.CycleFormula.{allocation_in}
use Rattle.order_encoding.proofs.sizes.store_count.Goals as goal

pub loop-row-preserved : goal.loop-row-preserved
loop-row-preserved c =
    let g = c.args.frame.now.facts.now in
    let n = c.loop-row.row in
    let A : ℕ → ℕ = λ row. row_stores g c.args.frame.now.table.now c.args.frame.now.k c.args.frame.now.scope.now c.args.cycle row in
    let B : ℕ → ℕ = λ row. length (row_destinations g (allocation_in c.args.frame.now.scope.now) row) in
    let small : (old x : ℕ) → old ≤ n * 256 → x ≤ 256 → old + x ≤ (n + 1) * 256 = λ old x p q. omega arith in
    record {
      is = row_more A B n c.loop-row.count c.row_stores.result c.destination_count.result c.loop-row.invariant.is c.row_stores.ensures.value (c.destination_count.ensures.value ∙ ap (λ x. length (row_destinations g x n)) c.allocation.ensures);
      small = small c.loop-row.count (c.row_stores.result * c.destination_count.result) c.loop-row.invariant.small (mul-le c.row_stores.result c.destination_count.result 8 32 c.row_stores.ensures.few c.destination_count.ensures.few);
    }
