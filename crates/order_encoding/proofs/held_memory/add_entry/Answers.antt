use Rattle.std.specs.Prelude.{option_to_list}
use Rattle.order_encoding.specs.OrderVariables.{all_held}
use Rattle.order_encoding.specs.OrderFamilies.{is_held_at}
use Rattle.order_encoding.proofs.AddSteps.{lits_exist}
use Rattle.order_encoding.proofs.held_memory.add_entry.Goals as goal

pub add_option-requires-clause-lit : goal.add_option-requires-clause-lit
add_option-requires-clause-lit c = lits_exist (is_held_at _ 0) c.args.held.now.first c.args.cnf.now.vars (all_held c.args.facts.now c.args.held.now.cycles) (option_to_list c.held_var.result) c.held_var.ensures c.requires.exist
