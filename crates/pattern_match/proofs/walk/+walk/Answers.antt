use Rattle.std.proofs.Common.{true, ◌≡◌, ◌+◌, ◌<◌, [], length, take, get_or, sym, ap, ◌∙◌, subst, subst₂, refl, arith}
use Rattle.std.proofs.lemmas.Option.{get_or_from_slice_get, slice_get_within}
use Rattle.std.proofs.lemmas.Result.{IfOk-weaker}
use Rattle.word_ops.specs.declared.sorts.Op.{Op}
use Rattle.word_terms.specs.Tree.{none, operands_of}
use Rattle.word_terms.specs.View.{tree_of, trees_of}
use Rattle.std.specs.declared.vec.Vec.{Vec}
use Rattle.std.specs.declared.alloc.Global.{Global}
use Rattle.word_terms.specs.declared.term.Term.{Term}
use Rattle.word_terms.specs.declared.term.Term.TheVariants.{App}
use Rattle.egraph.specs.declared.rows.Row.{Row}
use Rattle.pattern_match.specs.Bindings.{CanExtend, Extended, ExtendedAll, ExtendedBefore}
use Rattle.pattern_match.specs.ByOperator.{IsNextRow, IsRowOf}
use Rattle.pattern_match.proofs.RowSteps.{WalkedTo, walked_to, walked_all, walked_more, next_is, row_read, rows_left, fewer_left, skip_rows, place_none, root}
use Rattle.pattern_match.proofs.Walking.{rows_none, rows_skip, rows_more, rows_all, all_none, variable_can, variable_is, application_is, operands_can, count_is, operands_smaller, operand_smaller, next_can, next_extended, all_extended}
use Rattle.pattern_match.proofs.walk.+walk.Goals as goal
use Rattle.pattern_match.proofs.walk.+walk.Goals.{extend-In-Some, extend-then-len+in_ok-found-in-App+in_ok-append-in-App, extend-else-len}

root_is : (p : Term Op) (op : Op) (v : Vec (Term Op) Global) → p ≡ App op v → root (tree_of p) ≡ op
root_is p op v is = ap root (application_is p op v is)

pub extend-bind-requires : goal.extend-bind-requires
extend-bind-requires t c = variable_can c.args.pattern.now c.in-Var.n c.args.list.now c.in-Var.is c.requires.can

pub extend-returns-in-Var : goal.extend-returns-in-Var
extend-returns-in-Var t c =
    let g = c.args.graph.now in
    let is = variable_is c.args.pattern.now c.in-Var.n c.in-Var.is in
    IfOk-weaker c.bind.result _ _ (λ out h. subst (λ p. Extended g p c.args.class c.args.list.now out.items) (sym is) (h g)) c.bind.ensures

pub extend-loop-place-init : goal.extend-loop-place-init
extend-loop-place-init t c =
    let g = c.args.graph.now in
    let op = c.in-App.op in
    let ts = operands_of (trees_of c.in-App.operands.items) in
    let start : WalkedTo true g op c.args.class c.first-place.result (λ end. ExtendedBefore g op ts c.args.class end c.args.list.now c.new-out.result.items) = record {
      end = 0;
      within = omega arith;
      next = subst (IsNextRow true g op c.args.class 0) (sym c.first-place.ensures) (c.requires.lists.firsts_are op c.args.class);
      before = subst (ExtendedBefore g op ts c.args.class 0 c.args.list.now) (sym c.new-out.ensures.items) (rows_none g op ts c.args.class c.args.list.now);
    } in
    subst (λ o. WalkedTo true g o c.args.class c.first-place.result (λ end. ExtendedBefore g o ts c.args.class end c.args.list.now c.new-out.result.items)) (sym (root_is c.args.pattern.now op c.in-App.operands c.in-App.is)) start

-- the next row, and what is found before it
next_row : (t : _) (c : extend-In-Some t) → IsRowOf true c.args.graph.now c.in-App.op c.args.class c.in-Some.at × ExtendedBefore c.args.graph.now c.in-App.op (operands_of (trees_of c.in-App.operands.items)) c.args.class c.in-Some.at c.args.list.now c.loop-place.out.items
next_row t c =
    let g = c.args.graph.now in
    let op = c.in-App.op in
    let ts = operands_of (trees_of c.in-App.operands.items) in
    let inv = subst (λ o. WalkedTo true g o c.args.class c.loop-place.place (λ end. ExtendedBefore g o ts c.args.class end c.args.list.now c.loop-place.out.items)) (root_is c.args.pattern.now op c.in-App.operands c.in-App.is) c.loop-place.invariant in
    walked_to true g op c.args.class (λ end. ExtendedBefore g op ts c.args.class end c.args.list.now c.loop-place.out.items) (skip_rows g op ts c.args.class c.args.list.now c.loop-place.out.items) c.loop-place.place c.in-Some.at c.in-Some.is inv

pub extend-row-row-requires : goal.extend-row-row-requires
extend-row-row-requires t c = let r = (next_row t c).0 in slice_get_within c.args.graph.now.rows c.in-Some.at r.row r.there

pub extend-extend_all-requires : goal.extend-extend_all-requires
extend-extend_all-requires t c =
    let at = c.in-App in
    let items = c.deref in
    let smaller = operands_smaller c.args.pattern.now at.op at.operands items.result.now at.is items.ensures.value in (
      omega (arith, smaller, c.decreases),
      (
        c.requires.graph,
        (
          c.requires.lists,
          (
            operands_can c.args.pattern.now at.op at.operands items.result.now c.args.list.now at.is items.ensures.value c.requires.can,
            ap length c.as_slice-classes.ensures ∙ sym c.len.ensures ∙ c.if-len.true ∙ c.len-in-Some.ensures ∙ at.operands.ok.0 ∙ ap length (sym items.ensures.value),
          ),
        ),
      ),
    )

pub extend-loop-place-preserved : goal.extend-loop-place-preserved
extend-loop-place-preserved t c =
    let g = c.args.graph.now in
    let op = c.in-App.op in
    let v = c.in-App.operands in
    let ts = operands_of (trees_of v.items) in
    let class = c.args.class in
    let at = c.in-Some.at in
    let bs = c.args.list.now in
    let row = c.row-row.result.now in
    let out = c.loop-place.out.items in
    let lists = c.args.lists.now in
    let is_root = root_is c.args.pattern.now op v c.in-App.is in
    let w = walked_to true g op class (λ end. ExtendedBefore g op ts class end bs out) (skip_rows g op ts class bs out) c.loop-place.place at c.in-Some.is (subst (λ o. WalkedTo true g o class c.loop-place.place (λ end. ExtendedBefore g o ts class end bs out)) is_root c.loop-place.invariant) in
    let of = row_read true g op class at row c.row-row.ensures.row w.0 in
    let there = λ (d : Row Op). get_or_from_slice_get g.rows at row d c.row-row.ensures.row in
    let more = walked_more true g op class (λ end. ExtendedBefore g op ts class end bs c.if-len.out.items) at row lists.firsts.entries lists.nexts.items c.next-place.result c.requires.lists c.row-row.ensures.row of.0 of.1 c.next-place.ensures (elim c.if-len.branch [
      | extend-then-len+in_ok-found-in-App+in_ok-append-in-App h ↦
          (let found : ExtendedAll g ts row.operands bs h.in_ok-found-in-App.found.items =
          subst₂ (λ xs ds. ExtendedAll g (operands_of (trees_of xs)) ds bs h.in_ok-found-in-App.found.items) h.deref.ensures.value h.as_slice-classes.ensures h.in_ok-found-in-App.ensures in
          let step = rows_more g op ts class bs at row there out w.1 h.in_ok-found-in-App.found.items c.requires.graph (slice_get_within g.rows at row c.row-row.ensures.row) of.0 of.1 found in
          subst (λ o. ExtendedBefore g op ts class (at + 1) bs o.items) (sym h.out-is) (subst (ExtendedBefore g op ts class (at + 1) bs) (sym h.in_ok-append-in-App.ensures.items) step))
      | extend-else-len h ↦
          (let step = rows_skip g op ts class bs at row there out w.1 c.len-in-Some.result (count_is v.items ∙ sym (c.len-in-Some.ensures ∙ v.ok.0)) (λ k. h.if-len.false (c.len.ensures ∙ k.2)) in
          subst (λ o. ExtendedBefore g op ts class (at + 1) bs o.items) (sym h.out-is) step)
    ]) in
    subst (λ o. WalkedTo true g o class c.next-place.result (λ end. ExtendedBefore g o ts class end bs c.if-len.out.items)) (sym is_root) more

pub extend-loop-place-smaller : goal.extend-loop-place-smaller
extend-loop-place-smaller t c =
    let g = c.args.graph.now in
    let op = c.in-App.op in
    let v = c.in-App.operands in
    let ts = operands_of (trees_of v.items) in
    let class = c.args.class in
    let at = c.in-Some.at in
    let bs = c.args.list.now in
    let row = c.row-row.result.now in
    let out = c.loop-place.out.items in
    let lists = c.args.lists.now in
    let w = walked_to true g op class (λ end. ExtendedBefore g op ts class end bs out) (skip_rows g op ts class bs out) c.loop-place.place at c.in-Some.is (subst (λ o. WalkedTo true g o class c.loop-place.place (λ end. ExtendedBefore g o ts class end bs out)) (root_is c.args.pattern.now op v c.in-App.is) c.loop-place.invariant) in
    let of = row_read true g op class at row c.row-row.ensures.row w.0 in
    let next = next_is true g op class at row lists.firsts.entries lists.nexts.items c.next-place.result c.requires.lists c.row-row.ensures.row of.0 of.1 c.next-place.ensures in
    subst (λ o. rows_left (length g.rows) c.next-place.result < rows_left (length g.rows) o) (sym c.in-Some.is) (fewer_left true g op class at c.next-place.result (slice_get_within g.rows at row c.row-row.ensures.row) next)

pub extend-returns-in_default : goal.extend-returns-in_default
extend-returns-in_default t c =
    let g = c.args.graph.now in
    let op = c.in-App.op in
    let ts = operands_of (trees_of c.in-App.operands.items) in
    let is = application_is c.args.pattern.now op c.in-App.operands c.in-App.is in
    let inv = subst (λ o. WalkedTo true g o c.args.class c.loop-place.place (λ end. ExtendedBefore g o ts c.args.class end c.args.list.now c.loop-place.out.items)) (root_is c.args.pattern.now op c.in-App.operands c.in-App.is) c.loop-place.invariant in
    let all = walked_all true g op c.args.class (λ end. ExtendedBefore g op ts c.args.class end c.args.list.now c.loop-place.out.items) (skip_rows g op ts c.args.class c.args.list.now c.loop-place.out.items) c.loop-place.place (place_none c.loop-place.place c.in_default.not-Some) inv in
    subst (λ p. Extended g p c.args.class c.args.list.now c.loop-place.out.items) (sym is) (rows_all g op ts c.args.class c.args.list.now (length g.rows) c.loop-place.out.items refl all)

pub extend_all-loop-at-init : goal.extend_all-loop-at-init
extend_all-loop-at-init t c = subst (ExtendedAll c.args.graph.now none [] c.args.list.now) (sym c.in_ok-found.ensures) (all_none c.args.graph.now c.args.list.now c.requires.can.apart)

pub extend_all-extend-requires : goal.extend_all-extend-requires
extend_all-extend-requires t c =
    let items = c.args.operands.now in
    let x = c.index-operands-at.result in
    let k = c.loop-at.at in
    let smaller = operand_smaller items k x c.loop-at-test.true c.index-operands-at.is in
    let can = next_can items k x c.loop-at-test.true c.index-operands-at.is c.args.graph.now c.args.list.now c.loop-at.found.items (take k c.args.classes.now) c.requires.can c.loop-at.invariant in
    (omega (arith, smaller, c.decreases), (c.requires.graph, (c.requires.lists, subst (CanExtend (tree_of x)) (sym c.deref.ensures.value) can)))

pub extend_all-loop-at-preserved : goal.extend_all-loop-at-preserved
extend_all-loop-at-preserved t c =
    let items = c.args.operands.now in
    let x = c.index-operands-at.result in
    let k = c.loop-at.at in
    let g = c.args.graph.now in
    let h : Extended g (tree_of x) (get_or c.args.classes.now k 0) c.loop-at.found.items c.in_ok-found-2.found.items =
    subst (λ bs. Extended g (tree_of x) (get_or c.args.classes.now k 0) bs c.in_ok-found-2.found.items) c.deref.ensures.value c.in_ok-found-2.ensures in
    next_extended items k x c.loop-at-test.true c.index-operands-at.is g c.args.classes.now c.args.list.now c.loop-at.found.items c.in_ok-found-2.found.items c.requires.count c.loop-at.invariant h

pub extend_all-returns : goal.extend_all-returns
extend_all-returns t c = all_extended c.args.graph.now c.args.operands.now c.loop-at.at c.args.classes.now c.args.list.now c.loop-at.found.items c.loop-at-test.false c.requires.count c.loop-at.invariant
