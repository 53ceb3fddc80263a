use Rattle.std.proofs.Common.{◌≡◌, ◌∙◌, ◌+◌, ◌==◌, ℕ, List, sym, ap, arith}
use Rattle.std.specs.Prelude.{length}
use Rattle.cnf_core.specs.declared.literal.Lit.{Lit}
use Rattle.cnf_core.specs.Counter.{at_most_clauses, at_most_size, at_most_vars}
use Rattle.graph_meaning.specs.declared.graphs.LaunchGraph.{LaunchGraph}
use Rattle.cycle_encoding.specs.Shapes.{numbered}
use Rattle.cycle_encoding.proofs.Blocks.{vars-over}
use Rattle.cycle_encoding.proofs.Rows.{vars-short}
use Rattle.order_encoding.specs.LiveVariables.{Hold, all_holds}
use Rattle.order_encoding.proofs.CountersUpTo.{next_exist, next_room, next_vars, none_yet, one_more, up_to}
use Rattle.order_encoding.proofs.LiveExtended.{held_group}
use Rattle.order_encoding.proofs.holds.add_hold_counters.Goals as goal

pub loop-cycle-init : goal.loop-cycle-init
loop-cycle-init c = none_yet (length c.args.facts.now.pool) (held_group (numbered c.args.holds.now.first (all_holds c.args.holds.now.table.now c.args.holds.now.k))) c.args.cnf.now

pub at_most-requires-clause-exist : goal.at_most-requires-clause-exist
at_most-requires-clause-exist c =
    let g = c.args.facts.now in
    let k = c.args.holds.now.k in
    let holds = all_holds c.args.holds.now.table.now k in
    let hs = numbered c.args.holds.now.first holds in
    let p = length g.pool in
    let group = held_group hs in
    let q = c.registers-most.result in
    let f = c.args.cnf.now in
    let h = c.loop-cycle.cnf in
    let i = c.loop-cycle.cycle in
    let lits = c.deref.result.now in
    let are = c.deref.ensures.value ∙ c.in_ok-lits.ensures in
    let pool = ap (λ (x : LaunchGraph). length x.pool) c.graph.ensures in
    let n = c.len.result in
    let long : length lits ≡ n = ap (λ (ls : List Lit). length ls) c.deref.ensures.value ∙ sym (c.len.ensures ∙ c.in_ok-lits.lits.ok.0) in
    let sv : at_most_vars q (length lits) ≡ at_most_vars p (length lits) = ap (λ m. at_most_vars q m) long ∙ c.registers-most.ensures.vars ∙ ap (λ x. at_most_vars x n) pool ∙ ap (at_most_vars p) (sym long) in
    let ss : at_most_size q (length lits) ≡ at_most_size p (length lits) = ap (λ m. at_most_size q m) long ∙ c.registers-most.ensures.size ∙ ap (λ x. at_most_size x n) pool ∙ ap (at_most_size p) (sym long) in
    let sc : (old : ℕ) → at_most_clauses old q lits ≡ at_most_clauses old p lits = λ old. c.registers-most.ensures.clauses old lits long ∙ ap (λ x. at_most_clauses old x lits) pool in
    next_exist p group q f h i lits c.loop-cycle.invariant are (c.args.holds.now.first + length holds) c.requires.exist (λ m le. vars-over (λ (x : Hold). x.cycle == i) c.args.holds.now.first m holds le)

pub at_most-requires-clause-short : goal.at_most-requires-clause-short
at_most-requires-clause-short c =
    let g = c.args.facts.now in
    let k = c.args.holds.now.k in
    let holds = all_holds c.args.holds.now.table.now k in
    let hs = numbered c.args.holds.now.first holds in
    let p = length g.pool in
    let group = held_group hs in
    let q = c.registers-most.result in
    let f = c.args.cnf.now in
    let h = c.loop-cycle.cnf in
    let i = c.loop-cycle.cycle in
    let lits = c.deref.result.now in
    let are = c.deref.ensures.value ∙ c.in_ok-lits.ensures in
    let pool = ap (λ (x : LaunchGraph). length x.pool) c.graph.ensures in
    let n = c.len.result in
    let long : length lits ≡ n = ap (λ (ls : List Lit). length ls) c.deref.ensures.value ∙ sym (c.len.ensures ∙ c.in_ok-lits.lits.ok.0) in
    let sv : at_most_vars q (length lits) ≡ at_most_vars p (length lits) = ap (λ m. at_most_vars q m) long ∙ c.registers-most.ensures.vars ∙ ap (λ x. at_most_vars x n) pool ∙ ap (at_most_vars p) (sym long) in
    let ss : at_most_size q (length lits) ≡ at_most_size p (length lits) = ap (λ m. at_most_size q m) long ∙ c.registers-most.ensures.size ∙ ap (λ x. at_most_size x n) pool ∙ ap (at_most_size p) (sym long) in
    let sc : (old : ℕ) → at_most_clauses old q lits ≡ at_most_clauses old p lits = λ old. c.registers-most.ensures.clauses old lits long ∙ ap (λ x. at_most_clauses old x lits) pool in
    let a = vars-short (λ (x : Hold). x.cycle == i) c.args.holds.now.first holds in
    let b = ap (λ (ls : List Lit). length ls) are in
    let d = c.requires.exist in
    let e = c.requires.vars in
    omega (arith, a, b, d, e)

pub at_most-requires-clause-vars : goal.at_most-requires-clause-vars
at_most-requires-clause-vars c =
    let g = c.args.facts.now in
    let k = c.args.holds.now.k in
    let holds = all_holds c.args.holds.now.table.now k in
    let hs = numbered c.args.holds.now.first holds in
    let p = length g.pool in
    let group = held_group hs in
    let q = c.registers-most.result in
    let f = c.args.cnf.now in
    let h = c.loop-cycle.cnf in
    let i = c.loop-cycle.cycle in
    let lits = c.deref.result.now in
    let are = c.deref.ensures.value ∙ c.in_ok-lits.ensures in
    let pool = ap (λ (x : LaunchGraph). length x.pool) c.graph.ensures in
    let n = c.len.result in
    let long : length lits ≡ n = ap (λ (ls : List Lit). length ls) c.deref.ensures.value ∙ sym (c.len.ensures ∙ c.in_ok-lits.lits.ok.0) in
    let sv : at_most_vars q (length lits) ≡ at_most_vars p (length lits) = ap (λ m. at_most_vars q m) long ∙ c.registers-most.ensures.vars ∙ ap (λ x. at_most_vars x n) pool ∙ ap (at_most_vars p) (sym long) in
    let ss : at_most_size q (length lits) ≡ at_most_size p (length lits) = ap (λ m. at_most_size q m) long ∙ c.registers-most.ensures.size ∙ ap (λ x. at_most_size x n) pool ∙ ap (at_most_size p) (sym long) in
    let sc : (old : ℕ) → at_most_clauses old q lits ≡ at_most_clauses old p lits = λ old. c.registers-most.ensures.clauses old lits long ∙ ap (λ x. at_most_clauses old x lits) pool in
    next_vars p group q f h i lits c.loop-cycle.invariant are sv k c.loop-cycle-test.true c.requires.vars

pub at_most-requires-clause-room : goal.at_most-requires-clause-room
at_most-requires-clause-room c =
    let g = c.args.facts.now in
    let k = c.args.holds.now.k in
    let holds = all_holds c.args.holds.now.table.now k in
    let hs = numbered c.args.holds.now.first holds in
    let p = length g.pool in
    let group = held_group hs in
    let q = c.registers-most.result in
    let f = c.args.cnf.now in
    let h = c.loop-cycle.cnf in
    let i = c.loop-cycle.cycle in
    let lits = c.deref.result.now in
    let are = c.deref.ensures.value ∙ c.in_ok-lits.ensures in
    let pool = ap (λ (x : LaunchGraph). length x.pool) c.graph.ensures in
    let n = c.len.result in
    let long : length lits ≡ n = ap (λ (ls : List Lit). length ls) c.deref.ensures.value ∙ sym (c.len.ensures ∙ c.in_ok-lits.lits.ok.0) in
    let sv : at_most_vars q (length lits) ≡ at_most_vars p (length lits) = ap (λ m. at_most_vars q m) long ∙ c.registers-most.ensures.vars ∙ ap (λ x. at_most_vars x n) pool ∙ ap (at_most_vars p) (sym long) in
    let ss : at_most_size q (length lits) ≡ at_most_size p (length lits) = ap (λ m. at_most_size q m) long ∙ c.registers-most.ensures.size ∙ ap (λ x. at_most_size x n) pool ∙ ap (at_most_size p) (sym long) in
    let sc : (old : ℕ) → at_most_clauses old q lits ≡ at_most_clauses old p lits = λ old. c.registers-most.ensures.clauses old lits long ∙ ap (λ x. at_most_clauses old x lits) pool in
    next_room p group q f h i lits c.loop-cycle.invariant are ss c.counters_count.ensures.size k c.loop-cycle-test.true c.requires.room

pub loop-cycle-preserved : goal.loop-cycle-preserved
loop-cycle-preserved c =
    let g = c.args.facts.now in
    let k = c.args.holds.now.k in
    let holds = all_holds c.args.holds.now.table.now k in
    let hs = numbered c.args.holds.now.first holds in
    let p = length g.pool in
    let group = held_group hs in
    let q = c.registers-most.result in
    let f = c.args.cnf.now in
    let h = c.loop-cycle.cnf in
    let i = c.loop-cycle.cycle in
    let lits = c.deref.result.now in
    let are = c.deref.ensures.value ∙ c.in_ok-lits.ensures in
    let pool = ap (λ (x : LaunchGraph). length x.pool) c.graph.ensures in
    let n = c.len.result in
    let long : length lits ≡ n = ap (λ (ls : List Lit). length ls) c.deref.ensures.value ∙ sym (c.len.ensures ∙ c.in_ok-lits.lits.ok.0) in
    let sv : at_most_vars q (length lits) ≡ at_most_vars p (length lits) = ap (λ m. at_most_vars q m) long ∙ c.registers-most.ensures.vars ∙ ap (λ x. at_most_vars x n) pool ∙ ap (at_most_vars p) (sym long) in
    let ss : at_most_size q (length lits) ≡ at_most_size p (length lits) = ap (λ m. at_most_size q m) long ∙ c.registers-most.ensures.size ∙ ap (λ x. at_most_size x n) pool ∙ ap (at_most_size p) (sym long) in
    let sc : (old : ℕ) → at_most_clauses old q lits ≡ at_most_clauses old p lits = λ old. c.registers-most.ensures.clauses old lits long ∙ ap (λ x. at_most_clauses old x lits) pool in
    c.in_ok-at_most.ensures.exact ∙ one_more p group q f h i lits c.loop-cycle.invariant are sv sc

pub returns : goal.returns
returns c =
    let end : c.loop-cycle.cycle ≡ c.args.holds.now.k = (let a = c.loop-cycle-test.false in let b = c.loop-cycle.auto.cycle-end in omega arith) in
    c.loop-cycle.invariant ∙ ap (up_to (length c.args.facts.now.pool) (held_group (numbered c.args.holds.now.first (all_holds c.args.holds.now.table.now c.args.holds.now.k))) c.args.cnf.now) end

pub overflow_cast-len : goal.overflow_cast-len
overflow_cast-len c =
    let holds = all_holds c.args.holds.now.table.now c.args.holds.now.k in
    let i = c.loop-cycle.cycle in
    let a = vars-short (λ (x : Hold). x.cycle == i) c.args.holds.now.first holds in
    let b = ap (λ (ls : List Lit). length ls) c.in_ok-lits.ensures in
    let n = c.len.ensures ∙ c.in_ok-lits.lits.ok.0 in
    let d = c.requires.exist in
    let e = c.requires.vars in
    omega (arith, a, b, n, d, e)
