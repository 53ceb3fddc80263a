use Rattle.goal_reader.proofs.Apart.{writes_clear}
use Rattle.goal_reader.proofs.OneTerm.{term_once}
use Rattle.goal_reader.proofs.laws.terms_have_one_reading.Goals as goal

pub returns-clause-once : goal.returns-clause-once
returns-clause-once c = λ scope wanted form t u one two. term_once scope wanted form t u one two

pub returns-clause-clear : goal.returns-clause-clear
returns-clause-clear c = λ scope wanted form t place kind w fault. writes_clear w.writes wanted w.wanted_one place kind fault
