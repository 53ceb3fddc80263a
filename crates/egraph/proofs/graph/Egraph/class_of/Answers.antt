use Rattle.std.proofs.Common.{List, ℕ, MatchOption, ◌≡◌, ◌≢◌, Some, map, slice_index, ap, subst}
use Rattle.slab.specs.Slab.{get}
use Rattle.egraph.specs.declared.rows.Row.{Row}
use Rattle.egraph.specs.Graph.{Graph, LacksRow, HasRow, read_through}
use Rattle.egraph.proofs.KeptGraphs.{row_answer}
use Rattle.egraph.proofs.graph.Egraph.class_of.Goals as goal

pub returns : goal.returns
returns g c =
    let t = c.self.inside.tables in
    let op = c.args.op in
    let operands = c.args.operands.now in
    let o = c.find_class.result in
    let Found : List ℕ → Type 0 = λ xs. MatchOption o ((place : ℕ) (r : Row g.row.O.Denot) → get t.rows place ≡ Some r → r.op ≡ op → r.operands ≢ xs) (λ class. (place : ℕ) × (get t.rows place ≡ Some (record { op = op; operands = xs; class = class }))) in
    let h = subst Found (ap (λ cs. map (slice_index cs) operands) c.deref.ensures.value) c.find_class.ensures in
    let answer = row_answer g.O.Operator.signature t.rows c.self.inside.order.items c.self.invariant.in_order op (map (slice_index t.current.items) operands) o h in
    record { row = subst (λ (x : Graph g.row.O.Denot). MatchOption o (LacksRow x.rows op (read_through x operands)) (HasRow x.rows op (read_through x operands))) c.self.view_is answer }
