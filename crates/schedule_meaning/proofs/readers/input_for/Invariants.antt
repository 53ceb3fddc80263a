use Rattle.std.proofs.Common.{◌≡◌, drop}
use Rattle.std.specs.Prelude.{◌&&◌, ◌==◌, find}
use Rattle.schedule_meaning.specs.Readers.{is_intact}
use Rattle.schedule_meaning.proofs.readers.input_for.Given as goal

-- No input so far is of the class and holds what it had.
abbrev pub invariant-loop-input : goal.invariant-loop-input
invariant-loop-input l = find (λ i. (i.class == l.class) && is_intact l.graph l.list l.reader i.reg) l.graph.inputs ≡ find (λ i. (i.class == l.class) && is_intact l.graph l.list l.reader i.reg) (drop l.input-index l.graph.inputs)
