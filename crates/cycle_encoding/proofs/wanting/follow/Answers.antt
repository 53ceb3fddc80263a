use Rattle.std.proofs.Common.{◌∙◌, ◌+◌, ap, sym, subst, List, ℕ, length, get_or, arith}
use Rattle.std.specs.Prelude.{Contains}
use Rattle.std.proofs.lemmas.List.{take_all}
use Rattle.std.proofs.lemmas.List.Elements.{Contains-get_or}
use Rattle.std.proofs.lemmas.List.FromFn.{length-map-range_with_len, get_or-map-range_with_len}
use Rattle.cycle_encoding.specs.Wanting.{giving_rows, AreAllMarked, wanted_needs}
use Rattle.cycle_encoding.proofs.Members.{range-out}
use Rattle.cycle_encoding.proofs.WantSteps.{giving-out, follow-wanted, longer-both, more-rows}
use Rattle.cycle_encoding.proofs.wanting.follow.Goals as goal

pub bounds-needs-row : goal.bounds-needs-row
bounds-needs-row c =
    let g = c.args.facts.now in
    let i = c.loop-row.row-index in
    let row = get_or c.args.rows.now i 0 in
    let member : Contains (giving_rows g c.args.class) row = subst (λ (xs : List ℕ). Contains xs row) c.requires.rows (Contains-get_or c.args.rows.now i 0 c.loop-row-test.true) in
    let low = (range-out 0 (length g.rows + 1 + length g.sets) row (giving-out g c.args.class row member).0).1 in
    let size = ap (λ (xs : List (List ℕ)). length xs) c.requires.needs ∙ length-map-range_with_len (wanted_needs g) 0 (length g.rows + 1 + length g.sets) in
    omega arith

pub want_all-requires-clause-wanted : goal.want_all-requires-clause-wanted
want_all-requires-clause-wanted c =
    let g = c.args.facts.now in
    let i = c.loop-row.row-index in
    let row = get_or c.args.rows.now i 0 in
    let member : Contains (giving_rows g c.args.class) row = subst (λ (xs : List ℕ). Contains xs row) c.requires.rows (Contains-get_or c.args.rows.now i 0 c.loop-row-test.true) in
    let low = (range-out 0 (length g.rows + 1 + length g.sets) row (giving-out g c.args.class row member).0).1 in
    let e =
    c.as_slice.ensures ∙ c.index-needs-row.is
    ∙ ap (λ (xs : List (List ℕ)). get_or xs row c.index-needs-row.result) c.requires.needs
    ∙ get_or-map-range_with_len (wanted_needs g) 0 (length g.rows + 1 + length g.sets) row row c.index-needs-row.result (omega arith) (omega arith) in
    λ class h. follow-wanted g c.args.class row class c.requires.wanted member (subst (λ (cs : List ℕ). Contains cs class) e h)

pub loop-row-preserved : goal.loop-row-preserved
loop-row-preserved c =
    let g = c.args.facts.now in
    let i = c.loop-row.row-index in
    let row = get_or c.args.rows.now i 0 in
    let member : Contains (giving_rows g c.args.class) row = subst (λ (xs : List ℕ). Contains xs row) c.requires.rows (Contains-get_or c.args.rows.now i 0 c.loop-row-test.true) in
    let low = (range-out 0 (length g.rows + 1 + length g.sets) row (giving-out g c.args.class row member).0).1 in
    let e =
    c.as_slice.ensures ∙ c.index-needs-row.is
    ∙ ap (λ (xs : List (List ℕ)). get_or xs row c.index-needs-row.result) c.requires.needs
    ∙ get_or-map-range_with_len (wanted_needs g) 0 (length g.rows + 1 + length g.sets) row row c.index-needs-row.result (omega arith) (omega arith) in
    let v = c.loop-row.invariant in
    let n = c.in_ok-want_all.ensures in
    record {
      size = n.size ∙ v.size;
      marks = n.marks;
      longer = longer-both c.args.wants.now.order.items c.loop-row.wants.order.items c.want_all.new.wants.order.items v.longer n.longer;
      still = λ class h. n.still class (v.still class h);
      has = more-rows g c.loop-row.wants.marks.items c.want_all.new.wants.marks.items c.args.rows.now i 0 c.loop-row-test.true n.still n.size v.has (subst (λ (cs : List ℕ). AreAllMarked c.want_all.new.wants.marks.items cs) e n.has);
    }

pub returns-clause-followed : goal.returns-clause-followed
returns-clause-followed c =
    let g = c.args.facts.now in
    let all = take_all c.loop-row.row-index c.args.rows.now c.loop-row-test.false ∙ c.requires.rows in
    λ row h. c.loop-row.invariant.has row (subst (λ (rs : List ℕ). Contains rs row) (sym all) h)
