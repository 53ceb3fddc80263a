use Rattle.std.proofs.Common.{◌↔◌, sym, subst}
use Rattle.std.specs.Prelude.{IsTrue}
use Rattle.schedule_meaning.specs.Fits.{HasRoom}
use Rattle.schedule_meaning.specs.declared.schedules.Allocation.{Allocation}
use Rattle.schedule_meaning.proofs.testing.has_room.Goals as goal

pub returns-in-Live : goal.returns-in-Live
returns-in-Live c =
    subst
    (λ (allocation : Allocation). IsTrue c.has_room_in_each.result
    ↔ HasRoom c.args.graph.now allocation c.args.k c.args.list.now) (sym c.in-Live.is) c.has_room_in_each.ensures
