use Rattle.std.proofs.Common.{◌≡◌, fold, take}
use Rattle.own_graph.specs.Own.{with_multiple}
use Rattle.own_graph.proofs.multiples.place_multiples.Given as goal

abbrev pub invariant-loop-address : goal.invariant-loop-address
invariant-loop-address l = l.rows.items ≡ fold (with_multiple l.values) l.initial.rows.items (take l.address-index l.addresses)
