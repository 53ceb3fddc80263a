use Rattle.std.specs.Prelude.{option_to_list}
use Rattle.order_encoding.specs.OrderVariables.{all_held}
use Rattle.order_encoding.specs.OrderFamilies.{is_held_at}
use Rattle.order_encoding.proofs.AddSteps.{lits_exist}
use Rattle.order_encoding.proofs.memory.add_read.Goals as goal

pub add_implied-requires-clause-lit : goal.add_implied-requires-clause-lit
add_implied-requires-clause-lit c = lits_exist (is_held_at _ c.args.made.launch.cycle) c.args.vars.now.held.first c.args.cnf.now.vars (all_held c.args.vars.now.facts.now c.args.vars.now.held.cycles) (option_to_list c.held_var.result) c.held_var.ensures c.requires.exist
