use Rattle.std.proofs.Common.{◌≡◌, ◌-◌, ◌^◌, OnOk, ap, ap₂, ◌∙◌, subst, sym}
use Rattle.own_graph.specs.Own.{address_part, value_part, with_address, with_low_bits}
use Rattle.own_graph.specs.Rows.{HasRoom}
use Rattle.own_graph.proofs.Placed.{address_room, mask_is}
use Rattle.own_graph.proofs.multiples.place_multiple.Goals as goal

pub place_low_bits-requires : goal.place_low_bits-requires
place_low_bits-requires c =
    subst (HasRoom 3) (sym c.in_ok-part.ensures.rows)
    (address_room 3 c.args.rows.now.items c.value_part-base.result c.args.address.displacement c.requires.room)

pub returns : goal.returns
returns c =
    let rows = c.args.rows.now.items in
    let a = c.args.address in
    let base = c.value_part-base.ensures in
    let made = c.in_ok-part.ensures in
    let rows_are = made.rows ∙ ap (λ part. with_address rows part a.displacement) base in
    let part_is = made.part ∙ ap (λ part. address_part rows part a.displacement) base in
    subst (λ rs. OnOk c.place_low_bits.result (c.place_low_bits.new.rows.items ≡ rs))
    (ap₂ (λ rs mask. with_low_bits rs c.in_ok-part.part mask) rows_are (mask_is a.power c.requires.power)
    ∙ ap (λ part. with_low_bits (with_address rows (value_part c.args.values.now a.value) a.displacement) part (2 ^ a.power - 1)) part_is)
    c.place_low_bits.ensures
