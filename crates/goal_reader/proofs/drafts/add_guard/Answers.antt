use Rattle.std.proofs.Common.{refl}
use Rattle.goal_reader.specs.Drafts as drafts
use Rattle.goal_reader.proofs.drafts.add_guard.Goals as goal

pub returns-clause-next : goal.returns-clause-next
returns-clause-next c = drafts.guard c.in_ok-term.term c.in_ok-term.ensures.term refl
