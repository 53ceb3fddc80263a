use Rattle.forms.proofs.Told.{gives}
use Rattle.code_lift.specs.LiftGrammar.{IsFirstLiftFault, ReadsLifts}
use Rattle.code_lift.specs.Views.{lifts_view}
use Rattle.code_lift.proofs.reading.read.Goals as goal

pub returns-clause-read : goal.returns-clause-read
returns-clause-read c =
    let text = c.args.bytes.now in
    let law = c.lifts_have_one_reading.ensures in
    gives lifts_view (ReadsLifts text) (IsFirstLiftFault text) (law.once text) (law.apart text) (law.first text) c.read_text.result c.read_text.ensures.lifts c.read_text.ensures.fault
