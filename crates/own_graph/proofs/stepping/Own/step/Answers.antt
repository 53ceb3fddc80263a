use Rattle.std.proofs.Common.{◌+◌, ◌≡◌, length, sym, ap, ◌∙◌, arith}
use Rattle.code_lift.specs.LiftingView.{lifting_view}
use Rattle.own_graph.specs.Own.{operand_parts}
use Rattle.own_graph.specs.OwnView.{own_view}
use Rattle.own_graph.proofs.OwnSteps.{few_operands, own_one}
use Rattle.own_graph.proofs.Rooms.{less_room}
use Rattle.own_graph.proofs.stepping.Own.step.Goals as goal

pub place_applied-requires : goal.place_applied-requires
place_applied-requires c =
    let s = lifting_view c.args.lifting.now in
    let values = c.args.self.now.values.items in
    let few = few_operands s values c.args.instr in
    let same : length c.deref.result.now ≡ length (operand_parts s values c.args.instr) = ap length c.deref.ensures.value ∙ ap length c.in_ok-parts.ensures in
    less_room (length c.deref.result.now + 1) 5 c.args.self.now.rows.items (omega (arith, few, same)) c.requires.room

pub returns : goal.returns
returns c =
    own_one (lifting_view c.args.lifting.now) c.args.instr (own_view c.args.self.now) (record { rows = c.place_applied.new.rows.items; values = c.push.new.self.items })
    c.own_op.result c.deref.result.now c.in_ok-class.class (sym c.counts.ensures ∙ c.if-not-counts.false) c.own_op.ensures
    (c.deref.ensures.value ∙ c.in_ok-parts.ensures) c.in_ok-class.ensures.rows c.in_ok-class.ensures.class c.in_ok-push.ensures.items
