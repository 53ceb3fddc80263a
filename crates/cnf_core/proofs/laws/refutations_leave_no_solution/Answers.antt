use Rattle.cnf_core.proofs.Sound.{refutes_sound}
use Rattle.cnf_core.proofs.laws.refutations_leave_no_solution.Goals as goal

pub returns : goal.returns
returns c = refutes_sound
