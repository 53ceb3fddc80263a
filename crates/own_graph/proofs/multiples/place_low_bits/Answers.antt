use Rattle.std.proofs.Common.{◌≡◌, OnOk, subst}
use Rattle.own_graph.proofs.Placed.{low_bits_are}
use Rattle.own_graph.proofs.multiples.place_low_bits.Goals as goal

pub returns : goal.returns
returns c =
    let rows = c.args.rows.now.items in
    let made = c.in_ok-classes.ensures in
    subst (λ rs. OnOk c.place_zero.result (c.place_zero.new.rows.items ≡ rs))
    (low_bits_are rows c.place_parts.new.rows.items c.args.address c.number.result c.number-2.result c.args.mask c.in_ok-classes.classes.items
    c.index.result.now c.index-2.result.now c.index-3.result.now c.number.ensures c.number-2.ensures made.rows made.classes c.index.ensures c.index-2.ensures c.index-3.ensures)
    c.place_zero.ensures
