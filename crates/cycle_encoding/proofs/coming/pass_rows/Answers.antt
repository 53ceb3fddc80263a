use Rattle.std.proofs.Common.{ℕ, ◌∙◌, ◌+◌, List, ap, arith}
use Rattle.std.specs.Prelude.{length, get_or}
use Rattle.std.proofs.lemmas.List.FromFn.{length-map-range_with_len, get_or-map-range_with_len}
use Rattle.cycle_encoding.specs.Coming.{start_needs}
use Rattle.cycle_encoding.proofs.PinnedRows.{within}
use Rattle.cycle_encoding.proofs.ComeSteps.{delay-out, one-more-row}
use Rattle.cycle_encoding.proofs.coming.pass_rows.Goals as goal

pub bounds-needs-row : goal.bounds-needs-row
bounds-needs-row c =
    let g = c.args.rows.now.facts.now in
    let size = ap (λ (xs : List (List ℕ)). length xs) c.requires.needs ∙ length-map-range_with_len (start_needs g c.args.rows.now.allocation) 0 (length g.rows + 1 + length g.sets) in
    let rows = c.row_numbers-row-end.ensures.value in
    let lt = c.loop-row-test.true in
    omega arith

pub pass_row-requires-clause-needs : goal.pass_row-requires-clause-needs
pass_row-requires-clause-needs c =
    let g = c.args.rows.now.facts.now in
    let rows = c.row_numbers-row-end.ensures.value in
    let lt = c.loop-row-test.true in
    let row = c.loop-row.row in
    c.as_slice.ensures ∙ c.index-needs-row.is
    ∙ ap (λ (xs : List (List ℕ)). get_or xs row c.index-needs-row.result) c.requires.needs
    ∙ get_or-map-range_with_len (start_needs g c.args.rows.now.allocation) 0 (length g.rows + 1 + length g.sets) row row c.index-needs-row.result (omega arith) (omega arith)

pub loop-row-preserved : goal.loop-row-preserved
loop-row-preserved c =
    let i = c.loop-row.invariant in
    let e = c.pass_row.ensures in
    record {
      long = e.long ∙ i.long;
      sound = e.sound;
      still = λ t class h. e.still t class (i.still t class h);
      passed = one-more-row c.args.rows.now.facts.now c.args.rows.now.table.now c.args.rows.now.allocation c.loop-row.come.items c.pass_row.new.come.items e.still c.args.cycle c.loop-row.row e.passed i.passed;
    }

pub returns-clause-passed : goal.returns-clause-passed
returns-clause-passed c =
    let g = c.args.rows.now.facts.now in
    let rows = c.row_numbers-row-end.ensures.value in
    let done = c.loop-row-test.false in
    λ row n e start.
    let l = delay-out g c.args.rows.now.table.now c.args.rows.now.allocation row n e in
    let bound = within g row l.0 l.2 in
    c.loop-row.invariant.passed row (omega arith) n e start
