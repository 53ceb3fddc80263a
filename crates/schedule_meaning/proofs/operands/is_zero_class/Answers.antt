use Rattle.schedule_meaning.proofs.Uses.{zero_is}
use Rattle.schedule_meaning.proofs.operands.is_zero_class.Goals as goal

pub returns : goal.returns
returns c = zero_is c.args.graph.now c.args.class c.is_zero_class.result c.is_zero_class.ensures
