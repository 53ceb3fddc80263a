use Rattle.goal_reader.proofs.TextEnd.{one_text_fault}
use Rattle.goal_reader.proofs.laws.texts_have_one_first_fault.Goals as goal

pub returns : goal.returns
returns c = λ text place other kind another f g.
    one_text_fault text (c.one_reading.ensures.trees text) (c.one_reading.ensures.apart text) (c.one_reading.ensures.first text) place other kind another f g
