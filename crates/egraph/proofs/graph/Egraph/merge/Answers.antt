use Rattle.std.proofs.Common.{◌≡◌, ◌<◌, ℕ, List, length, get_or, AllPairs, All, IsSome, IfSome, IfNone, Option, Some, None, Contains, ◌≢◌, refl, filter, is_some, sym, subst, subst₂, ap, ◌∙◌, ◌⊎◌, inl, true≢false, arith}
use Rattle.std.proofs.lemmas.List.{get_or_read}
use Rattle.std.proofs.lemmas.List.Kept.{AllPairs-filter}
use Rattle.word_terms.specs.Signature.{Signature}
use Rattle.word_ops.specs.Worlds.{Value}
use Rattle.slab.specs.Slab.{Slab, get}
use Rattle.egraph.specs.declared.row_index.RowKey.{RowKey}
use Rattle.egraph.specs.declared.rows.Row.{Row}
use Rattle.egraph.specs.Graph.{Graph, IsGraph, Agree}
use Rattle.egraph.specs.Faults.{FaultIs}
use Rattle.egraph.specs.Tables.{IsOrder, IsIndexed, Twins, TwoConstants, rows_in}
use Rattle.egraph.proofs.Merging.{IsMerging, start, is_graph, is_merged}
use Rattle.egraph.proofs.MergeSteps.{first_may_join, no_clash}
use Rattle.egraph.proofs.KeptValues.{keeps_values, joined_have_one_value}
use Rattle.egraph.proofs.Sorts.{merge_keeps_sorts}
use Rattle.egraph.proofs.KeptGraphs.{one_constant_each}
use Rattle.egraph.proofs.Orders.{rows_kept, all_held, still_listed}
use Rattle.egraph.proofs.TableSteps.{back_may_join, joined_merging, fault_is, twins_may_join, thinner, low_from, joined_row, twins_equal, joined_pair, first_pair, joined_order, joined_held, gone_order, gone_tracked, gone_listed, same_class, all_indexed, kept_apart, graph_of, JoinedEither}
use Rattle.egraph.proofs.graph.Egraph.merge.Goals as goal

pub loop-waiting-init : goal.loop-waiting-init
loop-waiting-init g c =
    let s = g.O.Operator.signature in
    let a = c.args.a in
    let b = c.args.b in
    let t = c.self.inside.tables in
    let n = c.join_classes.new.tables in
    let order = c.self.inside.order.items in
    let current = t.current.items in
    let old : Graph g.row.O.Denot = graph_of t.rows order current in
    let is : IsGraph s old = c.self.invariant.graph in
    let la : a < length current = subst (λ x. a < length x.current) (sym c.self.view_is) c.requires.a_made in
    let lb : b < length current = subst (λ x. b < length x.current) (sym c.self.view_is) c.requires.b_made in
    let ex : c.index-x.result.now ≡ get_or current a 0 = get_or_read current a c.index-x.result.now la c.index-x.ensures 0 in
    let ey : c.index-y.result.now ≡ get_or current b 0 = get_or_read current b c.index-y.result.now lb c.index-y.ensures 0 in
    let either = subst₂ (λ p q. JoinedEither p q t.rows n.rows current n.current.items) ex ey c.in_default.ensures.joined in
    record {
      graph = subst (IsGraph s) c.self.view_is is;
      merging = subst (λ x. IsMerging x a b (graph_of n.rows order n.current.items)) c.self.view_is
          (joined_merging s old is a b t.rows order current (start s old is a b) (get_or current a 0) (get_or current b 0) n.rows n.current.items (first_may_join s old is a b la lb) (back_may_join s old is a b la lb) either);
      pair = first_pair a b t.rows n.rows current n.current.items la lb either;
      listed = c.in_default.ensures.listed;
      tracked = λ place. c.in_default.ensures.tracked place (λ r e. inl (c.self.invariant.indexed place r e));
      in_order = joined_order (get_or current a 0) (get_or current b 0) t.rows n.rows current n.current.items order either c.self.invariant.in_order;
      held = λ none. joined_held (get_or current a 0) (get_or current b 0) t.rows n.rows current n.current.items order either c.self.invariant.occupied;
    }

pub returns-in-Err-clause-fault : goal.returns-in-Err-clause-fault
returns-in-Err-clause-fault g c =
    let s = g.O.Operator.signature in
    let a = c.args.a in
    let b = c.args.b in
    let t = c.self.inside.tables in
    let n = c.join_classes.new.tables in
    let order = c.self.inside.order.items in
    let current = t.current.items in
    let old : Graph g.row.O.Denot = graph_of t.rows order current in
    let is : IsGraph s old = c.self.invariant.graph in
    let la : a < length current = subst (λ x. a < length x.current) (sym c.self.view_is) c.requires.a_made in
    let lb : b < length current = subst (λ x. b < length x.current) (sym c.self.view_is) c.requires.b_made in
    let ex : c.index-x.result.now ≡ get_or current a 0 = get_or_read current a c.index-x.result.now la c.index-x.ensures 0 in
    let ey : c.index-y.result.now ≡ get_or current b 0 = get_or_read current b c.index-y.result.now lb c.index-y.ensures 0 in
    let fault = c.in-Err.fault in
    let two = subst₂ (λ p q. TwoConstants t.constants.items p q fault ⊎ TwoConstants t.constants.items q p fault) ex ey c.in-Err.ensures.fault in
    subst (λ x. FaultIs s x a b fault) c.self.view_is
    (fault_is s old is a b t.rows order current (start s old is a b) t.own t.uses t.members t.constants.items c.self.invariant.listed c.self.invariant.in_order (get_or current a 0) (get_or current b 0) (first_may_join s old is a b la lb) (back_may_join s old is a b la lb) fault two)

pub returns-in-Err-clause-low : goal.returns-in-Err-clause-low
returns-in-Err-clause-low g c =
    let s = g.O.Operator.signature in
    low_from s c.args.self (subst (IsGraph s) c.self.view_is c.self.invariant.graph) c.args.a c.args.b c.requires.a_made c.requires.b_made c.in-Err.fault (returns-in-Err-clause-fault g c)

pub returns-in-Err-clause-joined_values : goal.returns-in-Err-clause-joined_values
returns-in-Err-clause-joined_values g c =
    let s = g.O.Operator.signature in
    joined_have_one_value Value s c.args.self (subst (IsGraph s) c.self.view_is c.self.invariant.graph) c.args.a c.args.b

pub returns-in_err-first-clause-joined_values : goal.returns-in_err-first-clause-joined_values
returns-in_err-first-clause-joined_values g c = joined_have_one_value Value g.O.Operator.signature c.args.self c.loop-waiting.invariant.graph c.args.a c.args.b

pub returns-in-Err-join_classes-clause-joined_values : goal.returns-in-Err-join_classes-clause-joined_values
returns-in-Err-join_classes-clause-joined_values g c = joined_have_one_value Value g.O.Operator.signature c.args.self c.loop-waiting.invariant.graph c.args.a c.args.b

pub returns-in_err-order-clause-joined_values : goal.returns-in_err-order-clause-joined_values
returns-in_err-order-clause-joined_values g c = joined_have_one_value Value g.O.Operator.signature c.args.self c.loop-waiting.invariant.graph c.args.a c.args.b

pub returns-clause-joined_values : goal.returns-clause-joined_values
returns-clause-joined_values g c = joined_have_one_value Value g.O.Operator.signature c.args.self c.loop-waiting.invariant.graph c.args.a c.args.b

pub returns-in-Err-join_classes-clause-fault : goal.returns-in-Err-join_classes-clause-fault
returns-in-Err-join_classes-clause-fault g c =
    let s = g.O.Operator.signature in
    let l = c.loop-waiting.tables in
    let inv = c.loop-waiting.invariant in
    let order = c.self.inside.order.items in
    let fault = c.in-Err-join_classes.fault in
    let twins : Twins l.rows c.in-Some.first c.in-Some.second = subst (λ o. IfSome o (λ p. Twins l.rows p.0 p.1)) c.in-Some.is c.in_ok-first.ensures.found in
    let may = twins_may_join s c.args.self inv.graph c.args.a c.args.b l.rows order l.current.items inv.merging c.in-Some.first c.in-Some.second twins inv.in_order in
    let two = subst₂ (λ p q. TwoConstants l.constants.items p q fault ⊎ TwoConstants l.constants.items q p fault) (same_class l.rows c.in-Some.first c.index.result.now twins.row c.index.ensures twins.row_there) (same_class l.rows c.in-Some.second c.index-in-Some.result.now twins.other c.index-in-Some.ensures twins.other_there) c.in-Err-join_classes.ensures.fault in
    fault_is s c.args.self inv.graph c.args.a c.args.b l.rows order l.current.items inv.merging l.own l.uses l.members l.constants.items inv.listed inv.in_order twins.row.class twins.other.class may.0 may.1 fault two

pub returns-in-Err-join_classes-clause-low : goal.returns-in-Err-join_classes-clause-low
returns-in-Err-join_classes-clause-low g c =
    low_from g.O.Operator.signature c.args.self c.loop-waiting.invariant.graph c.args.a c.args.b c.requires.a_made c.requires.b_made c.in-Err-join_classes.fault (returns-in-Err-join_classes-clause-fault g c)

pub remove-requires : goal.remove-requires
remove-requires g c =
    let l = c.loop-waiting.tables in
    let n = c.join_classes-in-Some.new.tables in
    joined_row c.index.result.now.class c.index-in-Some.result.now.class l.rows n.rows l.current.items n.current.items c.in_default-join_classes.ensures.joined c.in-Some.second c.index-in-Some.result.now c.index-in-Some.ensures

pub loop-waiting-preserved : goal.loop-waiting-preserved
loop-waiting-preserved g c =
    let s = g.O.Operator.signature in
    let a = c.args.a in
    let b = c.args.b in
    let l = c.loop-waiting.tables in
    let n = c.join_classes-in-Some.new.tables in
    let rows = c.remove.new.self in
    let inv = c.loop-waiting.invariant in
    let order = c.self.inside.order.items in
    let first = c.in-Some.first in
    let second = c.in-Some.second in
    let twins : Twins l.rows first second = subst (λ o. IfSome o (λ p. Twins l.rows p.0 p.1)) c.in-Some.is c.in_ok-first.ensures.found in
    let x = twins.row.class in
    let y = twins.other.class in
    let may = twins_may_join s c.args.self inv.graph a b l.rows order l.current.items inv.merging first second twins inv.in_order in
    let either = subst₂ (λ p q. JoinedEither p q l.rows n.rows l.current.items n.current.items) (same_class l.rows first c.index.result.now twins.row c.index.ensures twins.row_there) (same_class l.rows second c.index-in-Some.result.now twins.other c.index-in-Some.ensures twins.other_there) c.in_default-join_classes.ensures.joined in
    let joined = joined_merging s c.args.self inv.graph a b l.rows order l.current.items inv.merging x y n.rows n.current.items may.0 may.1 either in
    let one = twins_equal l.rows n.rows l.current.items n.current.items first second twins either in
    let in_order = joined_order x y l.rows n.rows l.current.items n.current.items order either inv.in_order in
    let gone = c.remove.ensures.updates in
    record {
      graph = inv.graph;
      merging = thinner s c.args.self inv.graph a b n.rows order n.current.items joined rows first second one.0 twins.differ one.1 one.2 in_order gone.changed gone.others;
      pair = joined_pair x y l.rows n.rows l.current.items n.current.items either a b (omega (arith, inv.merging.made, c.requires.a_made)) (omega (arith, inv.merging.made, c.requires.b_made)) inv.pair;
      listed = gone_listed s n.rows rows first second one.0 twins.differ one.1 one.2 gone.changed gone.others n.own n.uses n.members n.constants.items n.current.items c.in_default-join_classes.ensures.listed;
      tracked = λ place. gone_tracked s n.rows rows first second one.0 twins.differ one.1 one.2 gone.changed gone.others n.index c.join_classes-in-Some.new.waiting.items place (c.in_default-join_classes.ensures.tracked place (c.in_ok-first.ensures.tracked place (inv.tracked place)));
      in_order = gone_order s n.rows rows first second one.0 twins.differ one.1 one.2 gone.changed gone.others order in_order;
      held = λ none. absurd (true≢false none);
    }

pub without_dropped-requires : goal.without_dropped-requires
without_dropped-requires g c = c.loop-waiting.invariant.held

none_left : {X P : Type 0} (o : Option X) → ((x : X) → o ≡ Some x → ⊥) → IfNone o P → P
none_left None n h = h
none_left (Some x) n h = absurd (n x refl)

-- what is known at the end
module _ {O : Type 0} (s : Signature O) (old : Graph O) (is : IsGraph s old) (a b : ℕ) (rows : Slab (Row O)) (order new current : List ℕ) (index : List (RowKey × ℕ))
    (m : IsMerging old a b (graph_of rows order current)) (e : new ≡ filter (λ k. is_some (get rows k)) order) (in_order : IsOrder rows order) (indexed : IsIndexed s rows index) where
  end_merging : IsMerging old a b (graph_of rows new current)
  end_merging = subst (λ rs. IsMerging old a b (record { rows = rs; current = current })) (sym (ap (rows_in rows) e ∙ rows_kept rows order)) m

  end_held : All (λ k. IsSome (get rows k)) new
  end_held = subst (All (λ k. IsSome (get rows k))) (sym e) (all_held rows order)

  end_order : IsOrder rows new
  end_order = record {
    listed = λ place r h. subst (λ xs. Contains xs place) (sym e) (still_listed rows order place r h (in_order.listed place r h));
    once = subst (AllPairs (λ x y. x ≢ y)) (sym e) (AllPairs-filter (λ x y. x ≢ y) (λ k. is_some (get rows k)) order in_order.once);
  }

  end_apart : AllPairs (λ r t. ¬ Agree r t) (rows_in rows new)
  end_apart = kept_apart s rows index new indexed end_held end_order.once

pub invariant_of-result : goal.invariant_of-result
invariant_of-result g c =
    let s = g.O.Operator.signature in
    let l = c.loop-waiting.tables in
    let inv = c.loop-waiting.invariant in
    let new = c.in_ok-order.order.items in
    let old = c.args.self in
    let order = c.self.inside.order.items in
    let e : new ≡ filter (λ k. is_some (get l.rows k)) order = c.in_ok-order.ensures in
    let none = none_left c.in_ok-first.field-0 c.in_default-2.not-Some c.in_ok-first.ensures.done in
    let indexed = all_indexed s l.rows c.next_twins.new.index c.next_twins.new.waiting.items none (λ place. c.in_ok-first.ensures.tracked place (inv.tracked place)) in
    let m = end_merging s old inv.graph c.args.a c.args.b l.rows order new l.current.items c.next_twins.new.index inv.merging e inv.in_order indexed in
    record {
      graph = is_graph s old inv.graph c.args.a c.args.b (graph_of l.rows new l.current.items) m inv.pair
          (end_apart s old inv.graph c.args.a c.args.b l.rows order new l.current.items c.next_twins.new.index inv.merging e inv.in_order indexed) c.requires.a_made c.requires.b_made c.requires.one_sort
          (one_constant_each s l.rows new l.constants.items inv.listed.constant_of);
      listed = inv.listed;
      indexed = indexed;
      in_order = end_order s old inv.graph c.args.a c.args.b l.rows order new l.current.items c.next_twins.new.index inv.merging e inv.in_order indexed;
      occupied = end_held s old inv.graph c.args.a c.args.b l.rows order new l.current.items c.next_twins.new.index inv.merging e inv.in_order indexed;
    }

pub returns-clause-graph : goal.returns-clause-graph
returns-clause-graph g c =
    let s = g.O.Operator.signature in
    let l = c.loop-waiting.tables in
    let inv = c.loop-waiting.invariant in
    let new = c.in_ok-order.order.items in
    let old = c.args.self in
    let order = c.self.inside.order.items in
    let e : new ≡ filter (λ k. is_some (get l.rows k)) order = c.in_ok-order.ensures in
    let none = none_left c.in_ok-first.field-0 c.in_default-2.not-Some c.in_ok-first.ensures.done in
    let indexed = all_indexed s l.rows c.next_twins.new.index c.next_twins.new.waiting.items none (λ place. c.in_ok-first.ensures.tracked place (inv.tracked place)) in
    let m = end_merging s old inv.graph c.args.a c.args.b l.rows order new l.current.items c.next_twins.new.index inv.merging e inv.in_order indexed in
    let apart = end_apart s old inv.graph c.args.a c.args.b l.rows order new l.current.items c.next_twins.new.index inv.merging e inv.in_order indexed in
    is_graph s old inv.graph c.args.a c.args.b (graph_of l.rows new l.current.items) m inv.pair apart c.requires.a_made c.requires.b_made c.requires.one_sort (one_constant_each s l.rows new l.constants.items inv.listed.constant_of)

pub returns-clause-merged : goal.returns-clause-merged
returns-clause-merged g c =
    let s = g.O.Operator.signature in
    let l = c.loop-waiting.tables in
    let inv = c.loop-waiting.invariant in
    let new = c.in_ok-order.order.items in
    let old = c.args.self in
    let order = c.self.inside.order.items in
    let e : new ≡ filter (λ k. is_some (get l.rows k)) order = c.in_ok-order.ensures in
    let none = none_left c.in_ok-first.field-0 c.in_default-2.not-Some c.in_ok-first.ensures.done in
    let indexed = all_indexed s l.rows c.next_twins.new.index c.next_twins.new.waiting.items none (λ place. c.in_ok-first.ensures.tracked place (inv.tracked place)) in
    let m = end_merging s old inv.graph c.args.a c.args.b l.rows order new l.current.items c.next_twins.new.index inv.merging e inv.in_order indexed in
    let apart = end_apart s old inv.graph c.args.a c.args.b l.rows order new l.current.items c.next_twins.new.index inv.merging e inv.in_order indexed in
    is_merged s old inv.graph c.args.a c.args.b (graph_of l.rows new l.current.items) m inv.pair apart

pub returns-clause-values : goal.returns-clause-values
returns-clause-values g c =
    let s = g.O.Operator.signature in
    let l = c.loop-waiting.tables in
    let inv = c.loop-waiting.invariant in
    let new = c.in_ok-order.order.items in
    keeps_values Value s c.args.self inv.graph c.args.a c.args.b (graph_of l.rows new l.current.items) (returns-clause-merged g c)

pub returns-clause-keeps_sorts : goal.returns-clause-keeps_sorts
returns-clause-keeps_sorts g c =
    let s = g.O.Operator.signature in
    let l = c.loop-waiting.tables in
    let inv = c.loop-waiting.invariant in
    let new = c.in_ok-order.order.items in
    merge_keeps_sorts s c.args.self inv.graph c.args.a c.args.b (graph_of l.rows new l.current.items) (returns-clause-merged g c)

pub returns-clause-no_clash : goal.returns-clause-no_clash
returns-clause-no_clash g c =
    let s = g.O.Operator.signature in
    let l = c.loop-waiting.tables in
    let inv = c.loop-waiting.invariant in
    let new = c.in_ok-order.order.items in
    no_clash s c.args.self inv.graph c.args.a c.args.b (graph_of l.rows new l.current.items) (returns-clause-merged g c) (one_constant_each s l.rows new l.constants.items inv.listed.constant_of)
