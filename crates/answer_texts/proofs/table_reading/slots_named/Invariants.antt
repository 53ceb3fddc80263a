use Rattle.text_core.specs.Lines.{line_at}
use Rattle.answer_texts.proofs.TableNumbers.{AreNamed}
use Rattle.answer_texts.proofs.table_reading.slots_named.Given as goal

-- The numbers so far have the names so far.
abbrev pub invariant-loop-at : goal.invariant-loop-at
invariant-loop-at l = AreNamed l.slots (line_at l.text l.line).words l.at l.named
