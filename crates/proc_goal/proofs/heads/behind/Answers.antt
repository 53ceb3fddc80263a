use Rattle.proc_goal.proofs.Slices.{rest_taken}
use Rattle.proc_goal.proofs.heads.behind.Goals as goal

pub returns : goal.returns
returns c = rest_taken c.args.count c.args.items.now
