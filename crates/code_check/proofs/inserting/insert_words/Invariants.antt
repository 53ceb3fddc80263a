use Rattle.code_check.proofs.Stages.{Stage}
use Rattle.code_check.proofs.inserting.insert_words.Given as goal

abbrev pub invariant-loop-word : goal.invariant-loop-word
invariant-loop-word l = Stage l.fn.graph l.fn.classes l.fn.memory l.words l.graph l.classes l.memory l.addresses.items l.word-index
