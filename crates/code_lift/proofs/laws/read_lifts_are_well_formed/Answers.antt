use Rattle.goal_reader.proofs.FormsPrint.{text_prints}
use Rattle.code_lift.proofs.LiftKeeps.{text_keeps}
use Rattle.code_lift.proofs.laws.read_lifts_are_well_formed.Goals as goal

pub returns : goal.returns
returns c = λ text lifts r.
    let lexing = c.one_lexing.ensures in
    text_keeps c.printed_tables_are_read.ensures.read (text_prints lexing.named lexing.each) c.tables_keep_limits.ensures.built_in text r.trees r.has lifts r.written
