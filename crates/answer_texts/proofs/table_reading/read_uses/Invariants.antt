use Rattle.answer_texts.specs.AnswerLines.{inst_words}
use Rattle.answer_texts.specs.AnswerParts.{AreTableUses}
use Rattle.answer_texts.specs.LineParts.{AreLinesTo}
use Rattle.answer_texts.proofs.table_reading.read_uses.Given as goal

-- The lines so far are those of the instructions so far.
abbrev pub invariant-loop-line : goal.invariant-loop-line
invariant-loop-line l = AreLinesTo (inst_words l.slots) (AreTableUses l.slots l.fn.cross) l.text l.fn.from l.line l.uses
