use Rattle.std.proofs.Common.{◌≡◌, drop}
use Rattle.launch_graph.specs.GraphStages.{has_pin, pins_among}
use Rattle.launch_graph.proofs.behind_rows.repeats_pin.Given as goal

abbrev pub invariant-loop-earlier : goal.invariant-loop-earlier
invariant-loop-earlier l = has_pin (pins_among l.sets) l.register ≡ has_pin (pins_among (drop l.earlier-index l.sets)) l.register
