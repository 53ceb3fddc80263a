use Rattle.std.proofs.Common.{◌∙◌, ap, sym, length, arith}
use Rattle.egraph.proofs.Orders.{rows_length}
use Rattle.egraph.proofs.graph.Egraph.rows.Goals as goal

pub overflow_cast-result : goal.overflow_cast-result
overflow_cast-result g c =
    let order = c.self.inside.order in
    let n = rows_length c.self.inside.tables.rows order.items c.self.invariant.occupied in
    omega (arith, n, order.ok.0, c.len.ensures, c.self.invariant.graph.few_rows, c.self.invariant.graph.few)

pub returns-clause-value : goal.returns-clause-value
returns-clause-value g c =
    let order = c.self.inside.order in
    c.len.ensures ∙ order.ok.0 ∙ sym (rows_length c.self.inside.tables.rows order.items c.self.invariant.occupied) ∙ ap (λ x. length x.rows) c.self.view_is
