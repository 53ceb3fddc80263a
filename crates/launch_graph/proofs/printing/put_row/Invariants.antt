use Rattle.std.proofs.Common.{◌≡◌, ◌++◌, take, codes, decimal}
use Rattle.std.specs.List.{flat_map}
use Rattle.launch_graph.proofs.printing.put_row.Given as goal

abbrev pub invariant-loop-class : goal.invariant-loop-class
invariant-loop-class l =
    l.text.items ≡ l.initial.text.items ++ flat_map (λ n. codes " " ++ decimal n) (take l.class-index l.row.operands)
