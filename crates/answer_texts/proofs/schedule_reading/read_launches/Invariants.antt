use Rattle.answer_texts.specs.AnswerLines.{launch_words}
use Rattle.answer_texts.specs.AnswerParts.{AreLaunches}
use Rattle.answer_texts.specs.LineParts.{AreLinesTo}
use Rattle.answer_texts.proofs.schedule_reading.read_launches.Given as goal

abbrev pub invariant-loop-line : goal.invariant-loop-line
invariant-loop-line l = AreLinesTo (launch_words l.table l.graph) (AreLaunches l.table l.graph) l.text l.from l.line l.launches
