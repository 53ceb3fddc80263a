use Rattle.cycle_encoding.proofs.Built.{if_ok}
use Rattle.slot_capacity.proofs.CapacityVars.{apart-capacity, small-capacity}
use Rattle.slot_capacity.proofs.limits.Capacity.of.Goals as goal

pub returns-clause-small : goal.returns-clause-small
returns-clause-small c =
    if_ok _ _ c.find_capacity.result (λ a e.
    small-capacity c.args.frame.now.facts.now c.args.frame.now.table.now c.args.frame.now.k c.args.frame.now.scope.now c.requires.frame.graph c.requires.frame.table
    c.requires.frame.cycles a e)
    c.find_capacity.ensures

pub returns-clause-apart : goal.returns-clause-apart
returns-clause-apart c =
    if_ok _ _ c.find_capacity.result (λ a e.
    apart-capacity c.args.frame.now.facts.now c.args.frame.now.table.now c.args.frame.now.k c.args.frame.now.scope.now c.requires.frame.graph c.requires.frame.table
    c.requires.frame.cycles a e)
    c.find_capacity.ensures
