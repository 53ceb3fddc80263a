use Rattle.std.specs.Prelude.{option_to_list}
use Rattle.order_encoding.proofs.AddSteps.{cycle_exists}
use Rattle.order_encoding.proofs.guard.add_wait.Goals as goal

pub add_implied-requires-clause-lit : goal.add_implied-requires-clause-lit
add_implied-requires-clause-lit c = cycle_exists c.args.first c.args.plan.now.frame.k c.args.cnf.now.vars c.args.made.launch.cycle (option_to_list c.cycle_var.result) c.cycle_var.ensures c.requires.exist
