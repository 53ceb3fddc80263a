use Rattle.std.proofs.Common.{◌≡◌, ◌∙◌, ◌+◌, ◌*◌, ◌-◌, ◌<◌, ◌∷◌, [], ap, inl, inr, arith}
use Rattle.std.specs.Prelude.{length}
use Rattle.cycle_encoding.specs.Shapes.{positive}
use Rattle.order_encoding.specs.OrderSteps.{starts_before}
use Rattle.order_encoding.proofs.HoldPlaces.{no-hold-slot, no-hold-cycle, hold-is}
use Rattle.order_encoding.proofs.holds.hold_var.Goals as goal

pub returns-then-slot-len : goal.returns-then-slot-len
returns-then-slot-len c = no-hold-slot c.args.holds.now.k c.args.slot c.args.start c.args.cycle c.args.holds.now.table.now c.args.holds.now.first (omega (arith, c.len.ensures, c.if-slot-len.true))

pub returns-then-cycle-start : goal.returns-then-cycle-start
returns-then-cycle-start c = no-hold-cycle c.args.holds.now.k c.args.slot c.args.start c.args.cycle c.args.holds.now.table.now c.args.holds.now.first (inl c.if-cycle-start.true)

pub returns-then-cycle-holds : goal.returns-then-cycle-holds
returns-then-cycle-holds c = no-hold-cycle c.args.holds.now.k c.args.slot c.args.start c.args.cycle c.args.holds.now.table.now c.args.holds.now.first (inr c.if-cycle-holds.true)

pub returns : goal.returns
returns c =
    let table = c.args.holds.now.table.now in
    let k = c.args.holds.now.k in
    let slot = c.args.slot in
    let start = c.args.start in
    let cycle = c.args.cycle in
    let ls : slot < length table.slots = omega (arith, c.len.ensures, c.if-slot-len.false) in
    let place : slot * c.starts_before.result + c.starts_before-2.result ≡ slot * starts_before k k + starts_before k start = ap (λ n. slot * n + c.starts_before-2.result) c.starts_before.ensures.value ∙ ap (λ n. slot * starts_before k k + n) c.starts_before-2.ensures.value in
    ap (λ n. positive (c.args.holds.now.first + n + (cycle - start) + 1) ∷ []) place ∙ hold-is k slot start cycle table c.args.holds.now.first ls c.if-cycle-start.false c.if-cycle-holds.false
