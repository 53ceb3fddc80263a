use Rattle.std.proofs.Common.{◌≡◌, ◌∙◌, ◌+◌, ◌++◌, ℕ, List, sym, ap, append_assoc, arith}
use Rattle.std.specs.List.{flat_map, range_with_len}
use Rattle.cnf_core.specs.declared.literal.Lit.{Lit}
use Rattle.cycle_encoding.specs.Shapes.{numbered, vars_of}
use Rattle.cycle_encoding.proofs.Listed.{flat_more}
use Rattle.order_encoding.specs.LiveVariables.{all_holds}
use Rattle.order_encoding.specs.LiveFamilies.{is_hold_at}
use Rattle.order_encoding.proofs.holds.push_slot_lits.Goals as goal

pub loop-start-preserved : goal.loop-start-preserved
loop-start-preserved c =
    let hs = numbered c.args.holds.now.first (all_holds c.args.holds.now.table.now c.args.holds.now.k) in
    let one : ℕ → List Lit = λ start. vars_of (is_hold_at c.args.slot start c.args.cycle) hs in
    let n = c.loop-start.start in
    let old = c.args.lits.now.items in
    c.in_ok-push_lit.ensures ∙ ap (λ (ls : List Lit). c.loop-start.lits.items ++ ls) c.hold_var.ensures
    ∙ ap (λ (ls : List Lit). ls ++ one n) c.loop-start.invariant ∙ append_assoc old (flat_map one (range_with_len 0 n)) (one n) ∙ ap (λ (ls : List Lit). old ++ ls) (sym (flat_more one n))

pub returns : goal.returns
returns c =
    let hs = numbered c.args.holds.now.first (all_holds c.args.holds.now.table.now c.args.holds.now.k) in
    let one : ℕ → List Lit = λ start. vars_of (is_hold_at c.args.slot start c.args.cycle) hs in
    let end : c.loop-start.start ≡ c.args.cycle + 1 = (let a = c.loop-start-test.false in let b = c.loop-start.auto.start-end in omega arith) in
    c.loop-start.invariant ∙ ap (λ n. c.args.lits.now.items ++ flat_map one (range_with_len 0 n)) end
