use Rattle.std.proofs.Common.{◌≡◌, take}
use Rattle.std.specs.Prelude.{All}
use Rattle.schedule_meaning.proofs.targets.has_input_in.Given as goal

-- No input so far is of the class and in the register.
abbrev pub invariant-loop-input : goal.invariant-loop-input
invariant-loop-input l = All (λ i. ¬ ((i.class ≡ l.class) × (i.reg ≡ l.register))) (take l.input-index l.graph.inputs)
