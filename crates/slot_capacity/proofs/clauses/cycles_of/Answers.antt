use Rattle.std.proofs.Common.{arith}
use Rattle.slot_capacity.proofs.LaunchedVars.{cycles-size}
use Rattle.slot_capacity.proofs.clauses.cycles_of.Goals as goal

pub returns : goal.returns
returns c = (let size = cycles-size c.args.one in omega arith)
