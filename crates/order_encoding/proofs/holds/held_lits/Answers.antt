use Rattle.std.proofs.Common.{◌≡◌, ◌∙◌, ◌++◌, List, sym, ap, arith}
use Rattle.std.specs.Prelude.{length}
use Rattle.std.specs.List.{flat_map, range_with_len}
use Rattle.cnf_core.specs.declared.literal.Lit.{Lit}
use Rattle.cycle_encoding.specs.Shapes.{numbered}
use Rattle.cycle_encoding.proofs.Listed.{flat_more}
use Rattle.order_encoding.specs.LiveVariables.{all_holds}
use Rattle.order_encoding.specs.OrderSteps.{slot_lits}
use Rattle.order_encoding.proofs.HoldSteps.{cycle-lits}
use Rattle.order_encoding.proofs.holds.held_lits.Goals as goal

pub loop-slot-preserved : goal.loop-slot-preserved
loop-slot-preserved c =
    let hs = numbered c.args.holds.now.first (all_holds c.args.holds.now.table.now c.args.holds.now.k) in
    let n = c.loop-slot.slot in
    c.in_ok-push_slot_lits.ensures ∙ ap (λ (ls : List Lit). ls ++ slot_lits c.args.cycle hs n) c.loop-slot.invariant ∙ sym (flat_more (slot_lits c.args.cycle hs) n)

pub returns : goal.returns
returns c =
    let table = c.args.holds.now.table.now in
    let hs = numbered c.args.holds.now.first (all_holds table c.args.holds.now.k) in
    let end : c.loop-slot.slot ≡ length table.slots = (let a = c.loop-slot-test.false in let b = c.loop-slot.auto.slot-end in let d = c.len-slot-end.ensures in omega arith) in
    c.loop-slot.invariant ∙ ap (λ n. flat_map (slot_lits c.args.cycle hs) (range_with_len 0 n)) end ∙ cycle-lits table c.args.holds.now.k c.args.holds.now.first c.args.cycle c.requires.cycle
