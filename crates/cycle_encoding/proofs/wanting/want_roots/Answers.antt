use Rattle.std.proofs.Common.{◌∙◌, ◌+◌, ap, List, ℕ, arith}
use Rattle.std.specs.Prelude.{length, get_or}
use Rattle.std.proofs.lemmas.List.FromFn.{length-map-range_with_len, get_or-map-range_with_len}
use Rattle.cycle_encoding.specs.Wanting.{wanted_needs}
use Rattle.cycle_encoding.proofs.Members.{range-out}
use Rattle.cycle_encoding.proofs.WantSteps.{more-roots}
use Rattle.cycle_encoding.proofs.wanting.want_roots.Goals as goal

pub bounds-needs-row : goal.bounds-needs-row
bounds-needs-row c =
    let g = c.args.facts.now in
    let size = ap (λ (xs : List (List ℕ)). length xs) c.requires.needs ∙ length-map-range_with_len (wanted_needs g) 0 (length g.rows + 1 + length g.sets) in
    let rows = c.row_numbers-row-end.ensures.value in
    let lt = c.loop-row-test.true in
    omega arith

pub want_root-requires-clause-needs : goal.want_root-requires-clause-needs
want_root-requires-clause-needs c =
    let g = c.args.facts.now in
    let rows = c.row_numbers-row-end.ensures.value in
    let lt = c.loop-row-test.true in
    let row = c.loop-row.row in
    c.as_slice.ensures ∙ c.index-needs-row.is
    ∙ ap (λ (xs : List (List ℕ)). get_or xs row c.index-needs-row.result) c.requires.needs
    ∙ get_or-map-range_with_len (wanted_needs g) 0 (length g.rows + 1 + length g.sets) row row c.index-needs-row.result (omega arith) (omega arith)

pub loop-row-preserved : goal.loop-row-preserved
loop-row-preserved c =
    let i = c.loop-row.invariant in
    let e = c.in_ok-want_root.ensures in
    record {
      size = e.size ∙ i.size;
      marks = e.marks;
      still = λ class h. e.still class (i.still class h);
      has = more-roots c.args.facts.now c.loop-row.wants.marks.items c.want_root.new.wants.marks.items c.loop-row.row e.still e.size i.has e.has;
    }

pub returns-clause-has : goal.returns-clause-has
returns-clause-has c =
    let g = c.args.facts.now in
    let rows = c.row_numbers-row-end.ensures.value in
    let done = c.loop-row-test.false in
    λ row h t. c.loop-row.invariant.has row (let b = (range-out 0 (length g.rows + 1 + length g.sets) row h).1 in omega arith) t
