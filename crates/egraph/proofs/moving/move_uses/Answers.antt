use Rattle.std.proofs.Common.{get_or, refl, ◌∙◌}
use Rattle.egraph.proofs.Places.{uses_start, more_uses_done, still_tracked}
use Rattle.egraph.proofs.moving.move_uses.Goals as goal

pub loop-place-init : goal.loop-place-init
loop-place-init g c = record {
  each = uses_start c.args.rows.now c.args.places.now c.args.from c.args.to c.requires.listed;
  tracked = λ k h. h;
  len = refl;
}

pub loop-place-preserved : goal.loop-place-preserved
loop-place-preserved g c =
    let s = g.O.Operator.signature in
    let i = c.loop-place.place-index in
    let places = c.args.places.now in
    let p = get_or places i 0 in
    let inv = c.loop-place.invariant in
    let now = c.loop-place.rows in
    let next = c.move_operands.new.rows in
    record {
      each = more_uses_done c.args.from c.args.to c.args.rows.now now next places i p c.loop-place-test.true refl inv.each c.move_operands.ensures.becomes c.move_operands.ensures.others;
      tracked = λ k h. still_tracked s now next c.loop-place.index c.forget_row.new.index c.loop-place.waiting.items c.push.new.self.items p c.move_operands.ensures.others c.forget_row.ensures c.in_ok-push.ensures.items k (inv.tracked k h);
      len = c.move_operands.ensures.len ∙ inv.len;
    }
