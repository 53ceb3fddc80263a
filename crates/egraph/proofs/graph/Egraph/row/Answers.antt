use Rattle.std.proofs.Common.{◌<◌, ◌∙◌, ap, sym, subst, slice_get, IsSome, length, arith}
use Rattle.std.proofs.lemmas.List.{get_or_read}
use Rattle.std.proofs.lemmas.List.Elements.{All-get_or}
use Rattle.slab.specs.Slab.{get}
use Rattle.egraph.proofs.Orders.{rows_length, row_of}
use Rattle.egraph.proofs.graph.Egraph.row.Goals as goal

within : goal.index-requires
within g c =
    let order = c.self.inside.order in
    let l : c.args.at < length order.items = subst (λ n. c.args.at < n) (rows_length c.self.inside.tables.rows order.items c.self.invariant.occupied) (subst (λ x. c.args.at < length x.rows) (sym c.self.view_is) c.requires) in
    omega (arith, l, order.ok.0)

pub index-requires : goal.index-requires
index-requires g c = within g c

pub index-requires-2 : goal.index-requires-2
index-requires-2 g c =
    let order = c.self.inside.order in
    let rows = c.self.inside.tables.rows in
    let l : c.args.at < length order.items = subst (λ n. c.args.at < n) (rows_length rows order.items c.self.invariant.occupied) (subst (λ x. c.args.at < length x.rows) (sym c.self.view_is) c.requires) in
    let e = get_or_read order.items c.args.at c.index.result.now l c.index.ensures 0 in
    subst (λ k. IsSome (get rows k)) (sym e) (All-get_or (λ k. IsSome (get rows k)) order.items c.args.at 0 l c.self.invariant.occupied)

pub returns : goal.returns
returns g c =
    let order = c.self.inside.order in
    let rows = c.self.inside.tables.rows in
    let l : c.args.at < length order.items = subst (λ n. c.args.at < n) (rows_length rows order.items c.self.invariant.occupied) (subst (λ x. c.args.at < length x.rows) (sym c.self.view_is) c.requires) in
    let e = get_or_read order.items c.args.at c.index.result.now l c.index.ensures 0 in
    record { row = ap (λ x. slice_get x.rows c.args.at) (sym c.self.view_is) ∙ row_of rows order.items c.self.invariant.occupied c.args.at l ∙ ap (get rows) (sym e) ∙ c.index-2.ensures }
