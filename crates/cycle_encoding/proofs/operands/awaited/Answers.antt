use Rattle.std.proofs.Common.{◌≡◌, ◌∙◌, ◌+◌, ap, map, arith}
use Rattle.std.specs.Prelude.{length}
use Rattle.std.specs.List.{range_with_len}
use Rattle.cycle_encoding.specs.Coming.{start_needs}
use Rattle.cycle_encoding.proofs.operands.awaited.Goals as goal

pub returns : goal.returns
returns c =
    let g = c.args.facts.now in
    let end : c.loop-row.row ≡ length g.rows + 1 + length g.sets = (let a = c.loop-row-test.false in let b = c.loop-row.auto.row-end in let n = c.row_numbers-row-end.ensures.value in omega arith) in
    c.loop-row.invariant ∙ ap (λ n. map (start_needs g c.args.allocation) (range_with_len 0 n)) end
