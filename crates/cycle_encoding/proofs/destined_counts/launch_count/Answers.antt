use Rattle.std.proofs.Common.{◌≤◌, ◌+◌, ◌*◌, ◌∙◌, ℕ, length, sym, ap, arith}
use Rattle.std.specs.List.{count_by, sum_by}
use Rattle.std.proofs.lemmas.Nat.{mul-le}
use Rattle.cycle_encoding.specs.CycleFormula.{allocation_in}
use Rattle.cycle_encoding.proofs.RowPlaces.{sum_ones}
use Rattle.cycle_encoding.specs.Counts.{row_count, row_destinations, needs_clause}
use Rattle.cycle_encoding.proofs.RowSums.{row_more}
use Rattle.cycle_encoding.proofs.destined_counts.launch_count.Goals as goal

pub loop-row-preserved : goal.loop-row-preserved
loop-row-preserved c =
    let g = c.args.frame.now.facts.now in
    let n = c.loop-row.row in
    let A : ℕ → ℕ = λ row. row_count g c.args.frame.now.table.now c.args.frame.now.k c.args.frame.now.scope.now row in
    let B : ℕ → ℕ = λ row. sum_by (λ to. 1) (row_destinations g (allocation_in c.args.frame.now.scope.now) row) in
    let small : (old x : ℕ) → old ≤ n * 6400 → x ≤ 6400 → old + x ≤ (n + 1) * 6400 = λ old x p q. omega arith in
    record {
      is = row_more A B n c.loop-row.count c.row_count.result c.destination_count.result c.loop-row.invariant.is c.row_count.ensures.value (c.destination_count.ensures.value ∙ ap (λ x. length (row_destinations g x n)) c.allocation.ensures
          ∙ sym (sum_ones g (allocation_in c.args.frame.now.scope.now) n));
      small = small c.loop-row.count (c.row_count.result * c.destination_count.result) c.loop-row.invariant.small (mul-le c.row_count.result c.destination_count.result 200 32 c.row_count.ensures.few c.destination_count.ensures.few);
    }
