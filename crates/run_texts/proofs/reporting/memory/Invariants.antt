use Rattle.std.proofs.Common.{◌≡◌, take}
use Rattle.run_texts.specs.Reports.{start_memory}
use Rattle.run_texts.proofs.reporting.memory.Given as goal

-- The memory holds what was given so far.
abbrev pub invariant-loop-p : goal.invariant-loop-p
invariant-loop-p l = l.memory ≡ start_memory (take l.p-index l.given)
