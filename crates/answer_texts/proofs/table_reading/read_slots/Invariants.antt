use Rattle.answer_texts.specs.AnswerLines.{slot_words}
use Rattle.answer_texts.specs.AnswerParts.{AreNamedSlots}
use Rattle.answer_texts.specs.LineParts.{AreLinesTo}
use Rattle.answer_texts.proofs.table_reading.read_slots.Given as goal

-- The lines so far are those of the slots so far.
abbrev pub invariant-loop-line : goal.invariant-loop-line
invariant-loop-line l = AreLinesTo slot_words AreNamedSlots l.text l.fn.from l.line l.slots
