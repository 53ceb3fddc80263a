use Rattle.std.proofs.Common.{◌≡◌, ◌++◌, take, codes, decimal}
use Rattle.std.specs.List.{flat_map}
use Rattle.launch_graph.proofs.printing.put_pool.Given as goal

abbrev pub invariant-loop-register : goal.invariant-loop-register
invariant-loop-register l =
    l.text.items ≡ l.initial.text.items ++ flat_map (λ n. codes " " ++ decimal n) (take l.register-index l.pool)
