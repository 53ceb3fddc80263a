use Rattle.alpha_machine.proofs.StepsOfRuns.{after_sum, after_more, stepped_on, stays, stays_trapped}
use Rattle.alpha_machine.proofs.laws.steps_add_up.Goals as goal

pub returns : goal.returns
returns c = record { sums = after_sum; last = after_more; steps = stepped_on; stays = stays; trapped = stays_trapped }
