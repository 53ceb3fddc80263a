use Rattle.std.proofs.Common.{◌∙◌, ◌+◌, ◌==◌, ℕ, List, ap, arith}
use Rattle.std.specs.Prelude.{length}
use Rattle.cnf_core.specs.declared.literal.Lit.{Lit}
use Rattle.cycle_encoding.specs.Shapes.{numbered, vars_of}
use Rattle.cycle_encoding.proofs.Blocks.{vars-over}
use Rattle.cycle_encoding.proofs.Rows.{vars-short}
use Rattle.order_encoding.specs.OrderVariables.{Held, all_held}
use Rattle.order_encoding.proofs.Counters.{one_more, next_vars, next_room, next_exist}
use Rattle.order_encoding.proofs.held_memory.add_held_counters.Goals as goal

pub at_most_one-requires-clause-exist : goal.at_most_one-requires-clause-exist
at_most_one-requires-clause-exist c =
    let held = all_held c.args.facts.now c.args.held.now.cycles in
    let group = λ (t : ℕ). vars_of (λ (m : Held). m.cycle == t) (numbered c.args.held.now.first held) in
    next_exist group c.args.cnf.now c.loop-cycle.cnf c.loop-cycle.cycle c.deref.result.now c.loop-cycle.invariant (c.deref.ensures.value ∙ c.in_ok-lits.ensures) (c.args.held.now.first + length held) c.requires.exist (λ m le. vars-over (λ (m : Held). m.cycle == c.loop-cycle.cycle) c.args.held.now.first m held le)

pub at_most_one-requires-clause-short : goal.at_most_one-requires-clause-short
at_most_one-requires-clause-short c =
    let held = all_held c.args.facts.now c.args.held.now.cycles in
    let a = vars-short (λ (m : Held). m.cycle == c.loop-cycle.cycle) c.args.held.now.first held in
    let b = ap (λ (ls : List Lit). length ls) (c.deref.ensures.value ∙ c.in_ok-lits.ensures) in
    let d = c.requires.exist in
    let e = c.requires.vars in
    omega arith

pub at_most_one-requires-clause-vars : goal.at_most_one-requires-clause-vars
at_most_one-requires-clause-vars c =
    let held = all_held c.args.facts.now c.args.held.now.cycles in
    let group = λ (t : ℕ). vars_of (λ (m : Held). m.cycle == t) (numbered c.args.held.now.first held) in
    next_vars group c.args.cnf.now c.loop-cycle.cnf c.loop-cycle.cycle c.deref.result.now c.loop-cycle.invariant (c.deref.ensures.value ∙ c.in_ok-lits.ensures) (c.args.held.now.cycles + 1) c.loop-cycle-test.true c.requires.vars

pub at_most_one-requires-clause-room : goal.at_most_one-requires-clause-room
at_most_one-requires-clause-room c =
    let held = all_held c.args.facts.now c.args.held.now.cycles in
    let group = λ (t : ℕ). vars_of (λ (m : Held). m.cycle == t) (numbered c.args.held.now.first held) in
    next_room group c.args.cnf.now c.loop-cycle.cnf c.loop-cycle.cycle c.deref.result.now c.loop-cycle.invariant (c.deref.ensures.value ∙ c.in_ok-lits.ensures) c.counters_count.ensures.size (c.args.held.now.cycles + 1) c.loop-cycle-test.true c.requires.room

pub loop-cycle-preserved : goal.loop-cycle-preserved
loop-cycle-preserved c =
    let held = all_held c.args.facts.now c.args.held.now.cycles in
    let group = λ (t : ℕ). vars_of (λ (m : Held). m.cycle == t) (numbered c.args.held.now.first held) in
    c.in_ok-at_most_one.ensures.exact ∙ one_more group c.args.cnf.now c.loop-cycle.cnf c.loop-cycle.cycle c.deref.result.now c.loop-cycle.invariant (c.deref.ensures.value ∙ c.in_ok-lits.ensures)
