use Rattle.std.proofs.Common.{◌∙◌, ◌+◌, ◌∷◌, [], arith}
use Rattle.std.specs.List.{range_with_len}
use Rattle.cycle_encoding.specs.Shapes.{numbered, negative, implied, vars_of}
use Rattle.order_encoding.specs.OrderFamilies.{stores_at, store_clause}
use Rattle.order_encoding.proofs.AddSteps.{put_together, then_is}
use Rattle.order_encoding.proofs.Found.{stores_are, implies_exist}
use Rattle.order_encoding.proofs.HeldSteps.{stored_is}
use Rattle.order_encoding.proofs.memory.add_stored.Goals as goal

pub add-requires-clause-exist : goal.add-requires-clause-exist
add-requires-clause-exist c =
    let g = c.args.vars.now.facts.now in
    let t = c.args.cycle in
    let ls = c.args.vars.now.launches.now in
    let var = c.args.vars.now.stores + t + 1 in
    let is = put_together c.new-clause.result.items c.push.new.self.items c.push_stores.new.lits.items _ (vars_of (stores_at g t) (numbered 0 ls)) (negative var) c.new-clause.ensures.items c.in_ok-push.ensures.items c.in_ok-push_stores.ensures (stores_are g ls c.args.vars.now.found.now t c.requires.found) in
    let a = c.requires.launches in
    let b = c.requires.cycles in
    let lt = c.requires.cycle in
    implies_exist (stores_at g t) c.args.cnf.now.vars var ls c.deref.result.now (c.deref.ensures.value ∙ is) (omega arith) (omega arith) (omega arith)

pub returns : goal.returns
returns c =
    let g = c.args.vars.now.facts.now in
    let t = c.args.cycle in
    let ls = c.args.vars.now.launches.now in
    let var = c.args.vars.now.stores + t + 1 in
    let is = put_together c.new-clause.result.items c.push.new.self.items c.push_stores.new.lits.items _ (vars_of (stores_at g t) (numbered 0 ls)) (negative var) c.new-clause.ensures.items c.in_ok-push.ensures.items c.in_ok-push_stores.ensures (stores_are g ls c.args.vars.now.found.now t c.requires.found) in
    then_is c.add.result c.args.cnf.now c.add.new.self (c.deref.result.now ∷ []) (implied (numbered c.args.vars.now.stores (range_with_len 0 c.args.vars.now.held.cycles)) (store_clause g (numbered 0 ls) t)) (stored_is g (numbered 0 ls) c.args.vars.now.stores c.args.vars.now.held.cycles t c.deref.result.now c.requires.cycle (c.deref.ensures.value ∙ is)) c.add.ensures.ok
