use Rattle.word_ops.proofs.Stored.{IsMemory-empty}
use Rattle.word_ops.proofs.memory.Mem.new.Goals as goal

pub invariant_of-result : goal.invariant_of-result
invariant_of-result c = rw c.new.ensures.empty IsMemory-empty

pub returns-clause-is_memory : goal.returns-clause-is_memory
returns-clause-is_memory c = invariant_of-result c
