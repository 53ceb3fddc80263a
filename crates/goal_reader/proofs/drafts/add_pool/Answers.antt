use Rattle.std.proofs.Common.{ap}
use Rattle.goal_reader.specs.Drafts as drafts
use Rattle.goal_reader.proofs.drafts.add_pool.Goals as goal

pub returns-clause-next : goal.returns-clause-next
returns-clause-next c = drafts.pool c.in_ok-registers.registers.items c.in_ok-registers.ensures.pool (ap (drafts.with_pool c.args.draft) c.from.ensures)
