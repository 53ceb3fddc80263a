use Rattle.std.proofs.Common.{◌<◌, ◌+◌, ◌++◌, false, length, map, refl, sym, ap, ◌∙◌, subst, subst₂, arith}
use Rattle.std.proofs.lemmas.Option.{get_or_from_slice_get, slice_get_within}
use Rattle.word_terms.specs.Tree.{application, operands_of}
use Rattle.word_terms.specs.View.{trees_of}
use Rattle.egraph.specs.declared.rows.Row.{Row}
use Rattle.word_ops.specs.declared.sorts.Op.{Op}
use Rattle.pattern_match.specs.Bindings.{AreMatches, IsSubstitutionByRow, ExtendedAll, CanExtendAll, substitution_match}
use Rattle.pattern_match.specs.ByOperator.{IsNextRow, IsRowOf}
use Rattle.pattern_match.proofs.RowSteps.{walked_to, walked_all, walked_more, next_is, row_read, rows_left, fewer_left, place_none}
use Rattle.pattern_match.proofs.Substitutions.{operands_can_start, among_none, among_skip, among_more, among_skips, among_all}
use Rattle.pattern_match.proofs.Walking.{count_is}
use Rattle.pattern_match.proofs.searching.among_rows.Goals as goal
use Rattle.pattern_match.proofs.searching.among_rows.Goals.{In-Some, then-len-operands+in_ok-found+in_ok-add_matches, else-len-operands}

pub loop-place-init : goal.loop-place-init
loop-place-init c =
    let g = c.args.graph.now in
    let op = c.args.op in
    let ts = operands_of (trees_of c.args.operands.now) in
    record {
      end = 0;
      within = omega arith;
      next = subst (IsNextRow false g op 0 0) (sym c.first-place.ensures) (c.requires.tables.by_operator.firsts_are op 0);
      before = subst (λ xs. AreMatches g (application op ts) (IsSubstitutionByRow g op ts c.args.count 0) xs) (sym c.new-out.ensures.items) (among_none g c.requires.graph op ts c.args.count);
    }

-- the next row, and what is found before it
next_row : (c : In-Some) → IsRowOf false c.args.graph.now c.args.op 0 c.in-Some.at × AreMatches c.args.graph.now (application c.args.op (operands_of (trees_of c.args.operands.now))) (IsSubstitutionByRow c.args.graph.now c.args.op (operands_of (trees_of c.args.operands.now)) c.args.count c.in-Some.at) c.loop-place.out.items
next_row c =
    let g = c.args.graph.now in
    let op = c.args.op in
    let ts = operands_of (trees_of c.args.operands.now) in
    walked_to false g op 0 (λ end. AreMatches g (application op ts) (IsSubstitutionByRow g op ts c.args.count end) c.loop-place.out.items) (among_skips g c.requires.graph op ts c.args.count c.loop-place.out.items) c.loop-place.place c.in-Some.at c.in-Some.is c.loop-place.invariant

pub row-row-requires : goal.row-row-requires
row-row-requires c = let r = (next_row c).0 in slice_get_within c.args.graph.now.rows c.in-Some.at r.row r.there

pub extend_all-requires-clause-can : goal.extend_all-requires-clause-can
extend_all-requires-clause-can c =
    let ts = operands_of (trees_of c.args.operands.now) in
    let s = c.in_ok-start.ensures in
    subst (CanExtendAll ts) (sym (c.deref.ensures.value ∙ s.2)) (operands_can_start ts c.args.count s.0 c.requires.below s.1)

pub extend_all-requires-clause-count : goal.extend_all-requires-clause-count
extend_all-requires-clause-count c = ap length c.as_slice-classes.ensures ∙ sym c.len.ensures ∙ c.if-len-operands.true

pub loop-place-preserved : goal.loop-place-preserved
loop-place-preserved c =
    let g = c.args.graph.now in
    let op = c.args.op in
    let items = c.args.operands.now in
    let ts = operands_of (trees_of items) in
    let n = c.args.count in
    let at = c.in-Some.at in
    let row = c.row-row.result.now in
    let out = c.loop-place.out.items in
    let lists = c.args.tables.now.by_operator in
    let is = c.requires.graph in
    let w = walked_to false g op 0 (λ end. AreMatches g (application op ts) (IsSubstitutionByRow g op ts n end) out) (among_skips g is op ts n out) c.loop-place.place at c.in-Some.is c.loop-place.invariant in
    let of = row_read false g op 0 at row c.row-row.ensures.row w.0 in
    let there = λ (d : Row Op). get_or_from_slice_get g.rows at row d c.row-row.ensures.row in
    let within = slice_get_within g.rows at row c.row-row.ensures.row in
    walked_more false g op 0 (λ end. AreMatches g (application op ts) (IsSubstitutionByRow g op ts n end) c.if-len-operands.out.items) at row lists.firsts.entries lists.nexts.items c.next-place.result c.requires.tables.by_operator c.row-row.ensures.row of.0 refl c.next-place.ensures (elim c.if-len-operands.branch [
      | then-len-operands+in_ok-found+in_ok-add_matches h ↦
          (let s = c.in_ok-start.ensures in
          let found = subst₂ (λ ds bs. ExtendedAll g ts ds bs h.in_ok-found.found.items) h.as_slice-classes.ensures (h.deref.ensures.value ∙ s.2) h.in_ok-found.ensures in
          let more = among_more g is op ts n at row there out w.1 s.0 h.in_ok-found.found.items within of.0 s.1 c.requires.all found in
          subst (λ o. AreMatches g (application op ts) (IsSubstitutionByRow g op ts n (at + 1)) o.items) (sym h.out-is)
          (subst (AreMatches g (application op ts) (IsSubstitutionByRow g op ts n (at + 1))) (sym (h.in_ok-add_matches.ensures ∙ ap (λ bs. out ++ map (substitution_match row.class) bs) h.deref-then-len-operands.ensures.value)) more))
      | else-len-operands h ↦
          (let skip = among_skip g is op ts n at row there out w.1 (length items) (count_is items) (λ k. h.if-len-operands.false (c.len.ensures ∙ k)) in
          subst (λ o. AreMatches g (application op ts) (IsSubstitutionByRow g op ts n (at + 1)) o.items) (sym h.out-is) skip)
    ])

pub loop-place-smaller : goal.loop-place-smaller
loop-place-smaller c =
    let g = c.args.graph.now in
    let op = c.args.op in
    let at = c.in-Some.at in
    let row = c.row-row.result.now in
    let lists = c.args.tables.now.by_operator in
    let r = (next_row (goal.at.loop-place-smaller c).In-Some).0 in
    let of = row_read false g op 0 at row c.row-row.ensures.row r in
    let next = next_is false g op 0 at row lists.firsts.entries lists.nexts.items c.next-place.result c.requires.tables.by_operator c.row-row.ensures.row of.0 refl c.next-place.ensures in
    subst (λ o. rows_left (length g.rows) c.next-place.result < rows_left (length g.rows) o) (sym c.in-Some.is) (fewer_left false g op 0 at c.next-place.result (slice_get_within g.rows at row c.row-row.ensures.row) next)

pub returns : goal.returns
returns c =
    let g = c.args.graph.now in
    let op = c.args.op in
    let ts = operands_of (trees_of c.args.operands.now) in
    let n = c.args.count in
    let out = c.loop-place.out.items in
    let all = walked_all false g op 0 (λ end. AreMatches g (application op ts) (IsSubstitutionByRow g op ts n end) out) (among_skips g c.requires.graph op ts n out) c.loop-place.place (place_none c.loop-place.place c.in_default.not-Some) c.loop-place.invariant in
    record { exact = among_all g c.requires.graph op ts n out all }
