use Rattle.std.proofs.Common.{rules, ◌≡◌, [], ◌∷◌, ◌++◌, map, length, slice_index, All, Some, IsSome, refl, sym, subst, ap, ◌∙◌, inl, inr}
use Rattle.slab.specs.Slab.{get}
use Rattle.word_ops.specs.Worlds.{Value}
use Rattle.egraph.specs.declared.rows.Row.{Row}
use Rattle.egraph.specs.Graph.{Graph, IsGraph, HasRow, IsInserted}
use Rattle.egraph.specs.Sorts.{KeepsSorts}
use Rattle.egraph.specs.Tables.{IsOrder, rows_in}
use Rattle.egraph.proofs.Inserting.{inserted_view, stays_graph}
use Rattle.egraph.proofs.KeptValues.{extends_values}
use Rattle.egraph.proofs.Sorts.{insert_keeps_sorts, inserted_of_sort}
use Rattle.egraph.proofs.KeptGraphs.{has_row, lacks_row, rows_made, rows_added, added_order, kept_as_before, same_view}
use Rattle.egraph.proofs.graph.Egraph.insert.Goals as goal

pub returns-in-Some-clause-ok : goal.returns-in-Some-clause-ok
returns-in-Some-clause-ok g c =
    let s = g.O.Operator.signature in
    let t = c.self.inside.tables in
    let op = c.args.op in
    let operands = c.args.operands.now in
    let class = c.in-Some.class in
    let e = ap (λ cs. map (slice_index cs) operands) c.deref.ensures.value in
    let there = subst (λ xs. get t.rows c.in-Some.ensures.0 ≡ Some (record { op = op; operands = xs; class = class })) e c.in-Some.ensures.1 in
    let inside = has_row s t.rows c.self.inside.order.items c.self.invariant.in_order (record { op = op; operands = map (slice_index t.current.items) operands; class = class }) c.in-Some.ensures.0 there in
    inl (subst (λ (x : Graph g.row.O.Denot). HasRow x.rows op (map (slice_index x.current) operands) class) c.self.view_is inside, refl)

pub returns-in-Some-clause-sort : goal.returns-in-Some-clause-sort
returns-in-Some-clause-sort g c =
    let s = g.O.Operator.signature in
    let old : Graph g.row.O.Denot = c.args.self.now in
    let is : IsGraph s old = subst (IsGraph s) c.self.view_is c.self.invariant.graph in
    inserted_of_sort s old c.args.op c.args.operands.now c.in-Some.class old is (returns-in-Some-clause-ok g c)

pub add_row-requires-clause-made : goal.add_row-requires-clause-made
add_row-requires-clause-made g c = rows_made g.O.Operator.signature c.self.inside.tables.rows c.self.inside.tables.current.items c.self.inside.order.items c.self.invariant.graph c.self.invariant.in_order

pub invariant_of-self-in_err-place : goal.invariant_of-self-in_err-place
invariant_of-self-in_err-place g c =
    let t = c.self.inside.tables in
    let n = c.add_row.new.tables in
    kept_as_before g.O.Operator.signature t.rows n.rows t.index n.index t.own n.own t.uses n.uses t.members n.members t.constants.items n.constants.items t.current.items n.current.items c.self.inside.order.items c.reserve.new.self.items
    c.self.invariant c.in_err-place.ensures.err_rows c.in_err-place.ensures.err_current c.in_ok-reserve.ensures.items c.in_err-place.ensures.listed c.in_err-place.ensures.indexed

pub returns-in_err-place-clause-keeps_sorts : goal.returns-in_err-place-clause-keeps_sorts
returns-in_err-place-clause-keeps_sorts g c =
    let t = c.self.inside.tables in
    let n = c.add_row.new.tables in
    let e = same_view t.rows n.rows t.current.items n.current.items c.self.inside.order.items c.reserve.new.self.items c.in_err-place.ensures.err_rows c.in_err-place.ensures.err_current c.in_ok-reserve.ensures.items in
    subst (KeepsSorts g.O.Operator.signature c.args.self.now) (sym c.self.view_is ∙ sym e) (λ class sort h. h)

pub returns-in_err-place-clause-graph : goal.returns-in_err-place-clause-graph
returns-in_err-place-clause-graph g c = (invariant_of-self-in_err-place g c).graph

pub returns-clause-ok : goal.returns-clause-ok
returns-clause-ok g c =
    let s = g.O.Operator.signature in
    let t = c.self.inside.tables in
    let n = c.add_row.new.tables in
    let m = c.in_ok-place.ensures in
    let place = c.in_ok-place.place in
    let op = c.args.op in
    let operands = c.args.operands.now in
    let order = c.self.inside.order.items in
    let current = t.current.items in
    let eo : c.push.new.self.items ≡ order ++ place ∷ [] = c.in_ok-push.ensures.items ∙ ap (λ xs. xs ++ place ∷ []) c.in_ok-reserve.ensures.items in
    let row : Row g.row.O.Denot = record { op = op; operands = c.in_ok-present.present.items; class = length current } in
    let er = ap (rows_in n.rows) eo ∙ rows_added s t.rows n.rows order place row c.self.invariant.occupied m.vacant m.row m.others in
    let class : c.len-class.result ≡ length current = c.len-class.ensures ∙ t.current.ok.0 in
    let present : c.in_ok-present.present.items ≡ map (slice_index current) operands = c.in_ok-present.ensures ∙ ap (λ cs. map (slice_index cs) operands) c.deref-2.ensures.value in
    let er' = subst (λ k. rows_in n.rows c.push.new.self.items ≡ rows_in t.rows order ++ record { op = op; operands = c.in_ok-present.present.items; class = k } ∷ []) (sym class) er in
    let ec' = subst (λ k. n.current.items ≡ current ++ k ∷ []) (sym class) m.current in
    let e = inserted_view (rows_in t.rows order) (rows_in n.rows c.push.new.self.items) current n.current.items op operands c.in_ok-present.present.items c.len-class.result er' ec' present class in
    let absent = lacks_row s t.rows order op (map (slice_index current) operands) (λ p r h o k. c.in_default.ensures p r h o (k ∙ ap (λ cs. map (slice_index cs) operands) (sym c.deref.ensures.value))) in
    let P : Graph g.row.O.Denot → Type 0 = λ x. IsInserted x op operands c.len-class.result (record { rows = rows_in n.rows c.push.new.self.items; current = n.current.items }) in
    subst P c.self.view_is (inr (absent, class, e))

stays : goal.returns-clause-graph
stays g c =
    let s = g.O.Operator.signature in
    let is : IsGraph s c.args.self.now = subst (IsGraph s) c.self.view_is c.self.invariant.graph in
    stays_graph s c.args.self.now is c.args.op c.args.operands.now c.requires.arity c.requires.made c.requires.sorts (search rules) c.requires.few c.len-class.result _ (returns-clause-ok g c)

pub returns-clause-graph : goal.returns-clause-graph
returns-clause-graph g c = stays g c

pub invariant_of-self-2 : goal.invariant_of-self-2
invariant_of-self-2 g c =
    let s = g.O.Operator.signature in
    let t = c.self.inside.tables in
    let n = c.add_row.new.tables in
    let m = c.in_ok-place.ensures in
    let place = c.in_ok-place.place in
    let order = c.self.inside.order.items in
    let eo : c.push.new.self.items ≡ order ++ place ∷ [] = c.in_ok-push.ensures.items ∙ ap (λ xs. xs ++ place ∷ []) c.in_ok-reserve.ensures.items in
    let row : Row g.row.O.Denot = record { op = c.args.op; operands = c.in_ok-present.present.items; class = length t.current.items } in
    let both = added_order s t.rows n.rows order place row c.self.invariant.in_order c.self.invariant.occupied m.vacant m.row m.others in
    record {
      graph = stays g c;
      listed = m.listed;
      indexed = m.indexed;
      in_order = subst (IsOrder n.rows) (sym eo) both.0;
      occupied = subst (All (λ k. IsSome (get n.rows k))) (sym eo) both.1;
    }

pub returns-clause-values : goal.returns-clause-values
returns-clause-values g c =
    let s = g.O.Operator.signature in
    let is : IsGraph s c.args.self.now = subst (IsGraph s) c.self.view_is c.self.invariant.graph in
    extends_values Value s c.args.self.now is c.args.op c.args.operands.now c.requires.made c.len-class.result _ (returns-clause-ok g c)

pub returns-clause-keeps_sorts : goal.returns-clause-keeps_sorts
returns-clause-keeps_sorts g c = insert_keeps_sorts g.O.Operator.signature c.args.self.now c.args.op c.args.operands.now c.len-class.result _ (returns-clause-ok g c)

pub returns-clause-sort : goal.returns-clause-sort
returns-clause-sort g c = inserted_of_sort g.O.Operator.signature c.args.self.now c.args.op c.args.operands.now c.len-class.result _ (stays g c) (returns-clause-ok g c)
