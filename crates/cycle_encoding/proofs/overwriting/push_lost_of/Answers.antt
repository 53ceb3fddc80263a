use Rattle.std.proofs.Common.{◌<◌, ◌≤◌, ◌++◌, ◌∙◌, List, sym, ap, arith}
use Rattle.std.proofs.lemmas.List.{append-nil}
use Rattle.cnf_core.specs.declared.literal.Lit.{Lit}
use Rattle.cycle_encoding.proofs.Lost.{kept-late, kept-other, lost-one}
use Rattle.cycle_encoding.proofs.overwriting.push_lost_of.Goals as goal

pub returns-then-cycle-from : goal.returns-then-cycle-from
returns-then-cycle-from c =
    let lt : c.args.one.cycles < c.args.cycle = (let a = c.if-cycle-from.true in let b = c.from.ensures in omega arith) in
    sym (append-nil c.args.clause.now.items) ∙ ap (λ (ls : List Lit). c.args.clause.now.items ++ ls) (kept-late c.args.facts.now c.args.class c.args.cycle c.args.one.cycles c.args.one.set c.args.one.first lt)

pub returns-then-not-takes_input : goal.returns-then-not-takes_input
returns-then-not-takes_input c =
    sym (append-nil c.args.clause.now.items)
    ∙ ap (λ (ls : List Lit). c.args.clause.now.items ++ ls) (kept-other c.args.facts.now c.args.class c.args.cycle c.args.one.cycles c.args.one.set c.args.one.first (sym c.takes_input.ensures ∙ c.if-not-takes_input.true))

pub returns : goal.returns
returns c =
    let le : c.args.cycle ≤ c.args.one.cycles = (let a = c.if-cycle-from.false in let b = c.from.ensures in omega arith) in
    c.in_ok-push.ensures.items
    ∙ ap (λ (ls : List Lit). c.args.clause.now.items ++ ls) (lost-one c.args.facts.now c.args.class c.args.cycle c.args.one.cycles c.args.one.set c.args.one.first (sym c.takes_input.ensures ∙ c.if-not-takes_input.false) le)
