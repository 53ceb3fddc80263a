use Rattle.std.proofs.Common.{◌+◌, length, subst, sym, arith}
use Rattle.own_graph.specs.Rows.{HasRoom}
use Rattle.own_graph.proofs.Rooms.{leaves_room, less_room}
use Rattle.own_graph.proofs.rows.place_applied.Goals as goal

pub place_row-requires : goal.place_row-requires
place_row-requires c =
    let rows = c.args.rows.now.items in
    let parts = c.args.parts.now in
    subst (HasRoom 1) (sym c.in_ok-classes.ensures.rows)
    (leaves_room 1 rows parts (less_room (1 + length parts) (length parts + 1) rows (omega arith) c.requires))
