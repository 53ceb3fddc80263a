use Rattle.std.proofs.Common.{◌∙◌, ℕ, List, ap, arith}
use Rattle.std.specs.Prelude.{length}
use Rattle.cnf_core.specs.declared.literal.Lit.{Lit}
use Rattle.cycle_encoding.specs.Shapes.{numbered, vars_of}
use Rattle.cycle_encoding.proofs.Blocks.{vars-over}
use Rattle.cycle_encoding.proofs.Rows.{vars-short}
use Rattle.order_encoding.specs.OrderFamilies.{stores_at}
use Rattle.order_encoding.proofs.AddSteps.{put_all}
use Rattle.order_encoding.proofs.Counters.{one_more, next_vars, next_room, next_exist}
use Rattle.order_encoding.proofs.Found.{stores_are}
use Rattle.order_encoding.proofs.memory.add_store_counters.Goals as goal

pub at_most_one-requires-clause-exist : goal.at_most_one-requires-clause-exist
at_most_one-requires-clause-exist c =
    let ls = c.args.vars.now.launches.now in
    let group = λ (t : ℕ). vars_of (stores_at c.args.vars.now.facts.now t) (numbered 0 ls) in
    let is = c.deref.ensures.value ∙ put_all c.new-lits.result.items c.push_stores.new.lits.items _ (group c.loop-cycle.cycle) c.new-lits.ensures.items c.in_ok-push_stores.ensures (stores_are c.args.vars.now.facts.now ls c.args.vars.now.found.now c.loop-cycle.cycle c.requires.found) in
    next_exist group c.args.cnf.now c.loop-cycle.cnf c.loop-cycle.cycle c.deref.result.now c.loop-cycle.invariant is (length ls) c.requires.exist (λ m le. vars-over (stores_at c.args.vars.now.facts.now c.loop-cycle.cycle) 0 m ls (omega arith))

pub at_most_one-requires-clause-short : goal.at_most_one-requires-clause-short
at_most_one-requires-clause-short c =
    let ls = c.args.vars.now.launches.now in
    let group = λ (t : ℕ). vars_of (stores_at c.args.vars.now.facts.now t) (numbered 0 ls) in
    let is = c.deref.ensures.value ∙ put_all c.new-lits.result.items c.push_stores.new.lits.items _ (group c.loop-cycle.cycle) c.new-lits.ensures.items c.in_ok-push_stores.ensures (stores_are c.args.vars.now.facts.now ls c.args.vars.now.found.now c.loop-cycle.cycle c.requires.found) in
    let a = vars-short (stores_at c.args.vars.now.facts.now c.loop-cycle.cycle) 0 ls in
    let b = ap (λ (ls : List Lit). length ls) is in
    let d = c.requires.exist in
    let e = c.requires.vars in
    omega arith

pub at_most_one-requires-clause-vars : goal.at_most_one-requires-clause-vars
at_most_one-requires-clause-vars c =
    let ls = c.args.vars.now.launches.now in
    let group = λ (t : ℕ). vars_of (stores_at c.args.vars.now.facts.now t) (numbered 0 ls) in
    let is = c.deref.ensures.value ∙ put_all c.new-lits.result.items c.push_stores.new.lits.items _ (group c.loop-cycle.cycle) c.new-lits.ensures.items c.in_ok-push_stores.ensures (stores_are c.args.vars.now.facts.now ls c.args.vars.now.found.now c.loop-cycle.cycle c.requires.found) in
    next_vars group c.args.cnf.now c.loop-cycle.cnf c.loop-cycle.cycle c.deref.result.now c.loop-cycle.invariant is c.args.k c.loop-cycle-test.true c.requires.vars

pub at_most_one-requires-clause-room : goal.at_most_one-requires-clause-room
at_most_one-requires-clause-room c =
    let ls = c.args.vars.now.launches.now in
    let group = λ (t : ℕ). vars_of (stores_at c.args.vars.now.facts.now t) (numbered 0 ls) in
    let is = c.deref.ensures.value ∙ put_all c.new-lits.result.items c.push_stores.new.lits.items _ (group c.loop-cycle.cycle) c.new-lits.ensures.items c.in_ok-push_stores.ensures (stores_are c.args.vars.now.facts.now ls c.args.vars.now.found.now c.loop-cycle.cycle c.requires.found) in
    next_room group c.args.cnf.now c.loop-cycle.cnf c.loop-cycle.cycle c.deref.result.now c.loop-cycle.invariant is c.counters_count.ensures.size c.args.k c.loop-cycle-test.true c.requires.room

pub loop-cycle-preserved : goal.loop-cycle-preserved
loop-cycle-preserved c =
    let ls = c.args.vars.now.launches.now in
    let group = λ (t : ℕ). vars_of (stores_at c.args.vars.now.facts.now t) (numbered 0 ls) in
    let is = c.deref.ensures.value ∙ put_all c.new-lits.result.items c.push_stores.new.lits.items _ (group c.loop-cycle.cycle) c.new-lits.ensures.items c.in_ok-push_stores.ensures (stores_are c.args.vars.now.facts.now ls c.args.vars.now.found.now c.loop-cycle.cycle c.requires.found) in
    c.in_ok-at_most_one.ensures.exact ∙ one_more group c.args.cnf.now c.loop-cycle.cnf c.loop-cycle.cycle c.deref.result.now c.loop-cycle.invariant is
