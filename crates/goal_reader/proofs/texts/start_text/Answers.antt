use Rattle.goal_reader.proofs.TextForms.{empty_text}
use Rattle.goal_reader.proofs.texts.start_text.Goals as goal

pub returns-clause-written : goal.returns-clause-written
returns-clause-written c = empty_text c.new.result c.new-2.result c.new-3.result c.new.ensures c.new-2.ensures c.new-3.ensures
