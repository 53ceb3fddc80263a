use Rattle.answer_texts.specs.AnswerLines.{word_words}
use Rattle.answer_texts.specs.AnswerParts.{AreCodes}
use Rattle.answer_texts.specs.LineParts.{AreLinesTo}
use Rattle.answer_texts.proofs.schedule_reading.read_codes.Given as goal

abbrev pub invariant-loop-line : goal.invariant-loop-line
invariant-loop-line l = AreLinesTo word_words AreCodes l.text l.from l.line l.words
