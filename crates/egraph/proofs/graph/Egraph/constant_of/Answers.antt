use Rattle.std.proofs.Common.{◌≡◌, ◌<◌, ◌∙◌, length, get_or, sym, subst, ap}
use Rattle.std.proofs.lemmas.List.{get_or_read}
use Rattle.egraph.specs.Keys.{constant_at}
use Rattle.egraph.proofs.KeptGraphs.{constant_answer}
use Rattle.egraph.proofs.graph.Egraph.constant_of.Goals as goal

pub returns : goal.returns
returns g c =
    let t = c.self.inside.tables in
    let current = t.current.items in
    let order = c.self.inside.order.items in
    let made : c.args.class < length current = subst (λ x. c.args.class < length x.current) (sym c.self.view_is) c.requires.made in
    let class : c.index.result.now ≡ get_or current c.args.class 0 = get_or_read current c.args.class c.index.result.now made c.index.ensures 0 in
    let e = c.constant_of.ensures ∙ ap (λ cs. constant_at cs c.index.result.now) c.deref.ensures.value ∙ ap (constant_at t.constants.items) class in
    record { constant = rw (← c.self.view_is) (constant_answer g.O.Operator.signature t.rows order t.own t.uses t.members t.constants.items current c.self.invariant.listed c.self.invariant.in_order (get_or current c.args.class 0) c.constant_of.result e) }
