use Rattle.std.specs.Prelude.{option_to_list}
use Rattle.order_encoding.specs.OrderVariables.{all_taken}
use Rattle.order_encoding.specs.OrderFamilies.{is_taken_at}
use Rattle.order_encoding.proofs.AddSteps.{lits_exist}
use Rattle.order_encoding.proofs.pool.add_take.Goals as goal

pub add_implied-requires-clause-lit : goal.add_implied-requires-clause-lit
add_implied-requires-clause-lit c = lits_exist (is_taken_at c.args.made.launch.slot c.args.made.launch.cycle) c.args.taken.now.first c.args.cnf.now.vars (all_taken c.args.taken.now.table.now c.args.taken.now.k) (option_to_list c.taken_var.result) c.taken_var.ensures c.requires.exist
