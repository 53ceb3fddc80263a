use Rattle.std.proofs.Common.{◌≡◌, ◌+◌, length, take, ap, sym, ◌∙◌, subst, arith}
use Rattle.std.proofs.lemmas.List.{length-take-le, take_all}
use Rattle.own_graph.specs.Rows.{HasRoom, classes_of, with_leaves}
use Rattle.own_graph.specs.declared.operands.Part.TheVariants.{Class}
use Rattle.own_graph.proofs.Placed.{classes_more, rows_more}
use Rattle.own_graph.proofs.Rooms.{leaves_room, less_room}
use Rattle.own_graph.proofs.rows.place_parts.Goals as goal

pub place_part-requires : goal.place_part-requires
place_part-requires c =
    let at = c.loop-part.part-index in
    let front = take at c.args.parts.now in
    let count = length-take-le at c.args.parts.now (omega arith) in
    subst (HasRoom 1) (sym c.loop-part.invariant.rows)
    (leaves_room 1 c.args.rows.now.items front (less_room (1 + length front) (length c.args.parts.now) c.args.rows.now.items (omega (arith, count)) c.requires))

pub loop-part-preserved : goal.loop-part-preserved
loop-part-preserved c =
    let rows = c.args.rows.now.items in
    let parts = c.args.parts.now in
    let at = c.loop-part.part-index in
    let old = c.loop-part.invariant in
    let made = c.in_ok-place_part.ensures in
    record {
      rows = rows_more rows parts at (Class 0) c.loop-part-test.true c.loop-part.rows.items c.place_part.new.rows.items old.rows made.rows;
      classes = classes_more rows parts at (Class 0) c.loop-part-test.true c.loop-part.rows.items c.loop-part.classes.items c.push.new.self.items c.in_ok-place_part.field-0 old.rows old.classes made.class c.in_ok-push.ensures.items;
    }

pub returns : goal.returns
returns c =
    let all : take c.loop-part.part-index c.args.parts.now ≡ c.args.parts.now = take_all c.loop-part.part-index c.args.parts.now c.loop-part-test.false in
    record {
      rows = c.loop-part.invariant.rows ∙ ap (with_leaves c.args.rows.now.items) all;
      classes = c.loop-part.invariant.classes ∙ ap (λ parts. classes_of (with_leaves c.args.rows.now.items parts) parts) all;
    }
