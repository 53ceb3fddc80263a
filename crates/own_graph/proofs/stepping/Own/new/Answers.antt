use Rattle.std.proofs.Common.{◌+◌, ◌≡◌, [], ◌∷◌, length, take, subst, sym, arith}
use Rattle.std.proofs.lemmas.List.{length-take-le}
use Rattle.word_ops.specs.declared.sorts.Op.TheVariants.{Entry}
use Rattle.graph_meaning.specs.Graphs.{plain_row}
use Rattle.own_graph.specs.Rows.{HasRoom}
use Rattle.own_graph.proofs.Rooms.{entry_room, inputs_room}
use Rattle.own_graph.proofs.stepping.Own.new.Goals as goal

pub place_row-requires-in-loop-register : goal.place_row-requires-in-loop-register
place_row-requires-in-loop-register c =
    let front = take c.loop-register.register-index c.args.inputs.now in
    let count : length front ≡ c.loop-register.register-index = length-take-le c.loop-register.register-index c.args.inputs.now (omega arith) in
    subst (HasRoom 1) (sym c.loop-register.invariant) (inputs_room 1 (plain_row 0 Entry [] ∷ []) front (entry_room (1 + length front) (omega (arith, count))))
