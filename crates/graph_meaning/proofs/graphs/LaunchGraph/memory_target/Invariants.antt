use Rattle.std.proofs.Common.{◌≡◌, drop}
use Rattle.std.specs.Prelude.{find}
use Rattle.graph_meaning.specs.Graphs.{is_memory_name}
use Rattle.graph_meaning.proofs.graphs.LaunchGraph.memory_target.Given as goal

-- No set so far is the memory.
abbrev pub invariant-loop-set : goal.invariant-loop-set
invariant-loop-set l =
    find (λ s. is_memory_name s.name) l.self.sets ≡ find (λ s. is_memory_name s.name) (drop l.set-index l.self.sets)
