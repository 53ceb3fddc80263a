-- What the invariant says of the fields holds of what callers see.
use Rattle.std.proofs.Common.{subst}
use Rattle.alpha_machine.specs.States.{IsState}
use Rattle.alpha_machine.proofs.states.State.memory.Goals as goal

pub returns-clause-state : goal.returns-clause-state
returns-clause-state c = subst IsState c.self.view_is c.self.invariant
