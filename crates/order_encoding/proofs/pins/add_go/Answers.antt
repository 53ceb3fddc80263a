use Rattle.std.specs.Prelude.{option_to_list}
use Rattle.std.proofs.Common.{◌+◌}
use Rattle.order_encoding.proofs.AddSteps.{cycle_exists}
use Rattle.order_encoding.proofs.pins.add_go.Goals as goal

pub add_implied-requires-clause-lit : goal.add_implied-requires-clause-lit
add_implied-requires-clause-lit c = cycle_exists c.args.before (c.args.plan.now.frame.k + 1) c.args.cnf.now.vars (c.args.made.launch.cycle + 1) (option_to_list c.var_after.result) c.var_after.ensures c.requires.exist
