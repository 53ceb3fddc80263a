use Rattle.least_launch.specs.TailedAnswers.{bytes_in_front}
use Rattle.least_launch.proofs.Reported.{are_said}
use Rattle.least_launch.proofs.Behind.{front_few}
use Rattle.least_launch.proofs.check_reporting.check_least_text.Goals as goal

pub check_tailed-requires-clause-answer : goal.check_tailed-requires-clause-answer
check_tailed-requires-clause-answer c =
    let read = c.in_ok-tailed.ensures.ok in
    c.read_answers_are_well_formed.ensures (bytes_in_front c.args.text.now read.lines read.at) c.in_ok-tailed.tailed.answer
    (front_few c.args.text.now read.lines read.at read.split read.begins.within c.requires.few) read.front

pub check_tailed-requires-clause-said : goal.check_tailed-requires-clause-said
check_tailed-requires-clause-said c =
    let read = c.in_ok-tailed.ensures.ok in
    are_said read.lines _ _ c.in_ok-tailed.tailed.answer.goals c.in_ok-tailed.tailed.said read.says c.in_ok-tailed.ensures.few
