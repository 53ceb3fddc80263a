use Rattle.proc_goal.proofs.ProcGoals.{goals_well_formed}
use Rattle.proc_goal.proofs.laws.goals_of_procs_are_well_formed.Goals as goal

pub returns : goal.returns
returns c = λ p is. goals_well_formed p is
