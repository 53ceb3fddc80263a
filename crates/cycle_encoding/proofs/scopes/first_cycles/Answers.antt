use Rattle.std.proofs.Common.{◌∙◌, ◌+◌, ap, List, ℕ, arith}
use Rattle.std.specs.Prelude.{length, get_or}
use Rattle.std.proofs.lemmas.List.FromFn.{length-map-range_with_len, get_or-map-range_with_len}
use Rattle.cycle_encoding.specs.Coming.{start_needs}
use Rattle.cycle_encoding.proofs.scopes.first_cycles.Goals as goal

pub bounds-needs-row : goal.bounds-needs-row
bounds-needs-row c =
    let g = c.args.rows.now.facts.now in
    let size = ap (λ (xs : List (List ℕ)). length xs) c.requires.needs ∙ length-map-range_with_len (start_needs g c.args.rows.now.allocation) 0 (length g.rows + 1 + length g.sets) in
    let rows = c.row_numbers-row-end.ensures.value in
    let lt = c.loop-row-test.true in
    omega arith

pub first_cycle-first-requires : goal.first_cycle-first-requires
first_cycle-first-requires c =
    let g = c.args.rows.now.facts.now in
    let rows = c.row_numbers-row-end.ensures.value in
    let lt = c.loop-row-test.true in
    let row = c.loop-row.row in
    record {
      needs = c.as_slice-awaited.ensures ∙ c.index-needs-row.is
          ∙ ap (λ (xs : List (List ℕ)). get_or xs row c.index-needs-row.result) c.requires.needs
          ∙ get_or-map-range_with_len (start_needs g c.args.rows.now.allocation) 0 (length g.rows + 1 + length g.sets) row row c.index-needs-row.result (omega arith) (omega arith);
    }
