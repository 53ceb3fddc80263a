use Rattle.cycle_encoding.proofs.Listed.{may_is}
use Rattle.cycle_encoding.proofs.launches.may_use.Goals as goal

pub returns : goal.returns
returns c = may_is c.args.table.now c.args.instr c.args.slot c.may_use.result c.may_use.ensures
