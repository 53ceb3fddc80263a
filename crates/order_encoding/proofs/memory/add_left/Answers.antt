use Rattle.std.proofs.Common.{◌+◌, ap, arith}
use Rattle.std.specs.Prelude.{option_to_list}
use Rattle.cnf_core.specs.Formula.{Formula}
use Rattle.order_encoding.specs.OrderVariables.{all_held}
use Rattle.order_encoding.specs.OrderFamilies.{is_held_at}
use Rattle.order_encoding.proofs.AddSteps.{lits_exist, cycle_exists}
use Rattle.order_encoding.proofs.memory.add_left.Goals as goal

pub add_implied-requires-clause-lit : goal.add_implied-requires-clause-lit
add_implied-requires-clause-lit c = lits_exist (is_held_at _ (c.args.made.launch.cycle + 1)) c.args.vars.now.held.first c.args.cnf.now.vars (all_held c.args.vars.now.facts.now c.args.vars.now.held.cycles) (option_to_list c.held_after.result) c.held_after.ensures (let a = c.requires.exist in let b = c.requires.cycles in omega arith)

pub add_implied-requires-2-clause-lit : goal.add_implied-requires-2-clause-lit
add_implied-requires-2-clause-lit c =
    let same = ap (λ (f : Formula). f.vars) c.in_ok-add_implied.ensures in
    cycle_exists c.args.vars.now.stores c.args.vars.now.held.cycles c.add_implied.new.cnf.vars c.args.made.launch.cycle (option_to_list c.cycle_var.result) c.cycle_var.ensures (let b = c.requires.cycles in omega arith)
