use Rattle.std.proofs.Common.{◌≡◌, ◌+◌, ◌*◌, length, take, subst, sym, arith}
use Rattle.std.proofs.lemmas.List.{length-take-le}
use Rattle.own_graph.specs.Rows.{HasRoom}
use Rattle.own_graph.proofs.Placed.{multiples_room}
use Rattle.own_graph.proofs.Rooms.{less_room}
use Rattle.own_graph.proofs.multiples.place_multiples.Goals as goal

pub place_multiple-requires-clause-room : goal.place_multiple-requires-clause-room
place_multiple-requires-clause-room c =
    let at = c.loop-address.address-index in
    let front = take at c.args.addresses.now in
    let rows = c.args.rows.now.items in
    let count : length front ≡ at = length-take-le at c.args.addresses.now (omega arith) in
    let within = c.loop-address-test.true in
    subst (HasRoom 6) (sym c.loop-address.invariant)
    (multiples_room 6 c.args.values.now rows front (less_room (6 + 7 * length front) (7 * length c.args.addresses.now) rows (omega (arith, count, within)) c.requires.room))
