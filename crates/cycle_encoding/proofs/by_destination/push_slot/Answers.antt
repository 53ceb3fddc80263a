use Rattle.std.proofs.Common.{◌+◌}
use Rattle.cycle_encoding.specs.Facts.{cycle_launches, destined_slot}
use Rattle.cycle_encoding.proofs.Tables.{grown}
use Rattle.cycle_encoding.proofs.Destined.{cycle_more}
use Rattle.cycle_encoding.proofs.by_destination.push_slot.Goals as goal

pub loop-step-preserved : goal.loop-step-preserved
loop-step-preserved c =
    let tos = c.args.tos.now in
    let first = c.args.first in
    let n = c.loop-step.step in
    grown c.args.launches.now.items c.loop-step.launches.items c.push_cycle.new.launches.items (cycle_launches c.args.place.row c.args.place.slot tos (first + n)) (destined_slot c.args.place.row first n tos c.args.place.slot) (destined_slot c.args.place.row first (n + 1) tos c.args.place.slot) c.loop-step.invariant c.in_ok-push_cycle.ensures (cycle_more c.args.place.row c.args.place.slot first n tos)
