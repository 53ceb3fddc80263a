use Rattle.answer_texts.specs.AnswerLines.{where_words}
use Rattle.answer_texts.specs.AnswerParts.{AreWherePlaces}
use Rattle.answer_texts.specs.LineParts.{AreLinesTo}
use Rattle.answer_texts.proofs.schedule_reading.read_places.Given as goal

abbrev pub invariant-loop-line : goal.invariant-loop-line
invariant-loop-line l = AreLinesTo where_words AreWherePlaces l.text l.from l.line l.places
