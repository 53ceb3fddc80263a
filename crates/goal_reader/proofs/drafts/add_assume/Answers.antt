use Rattle.std.proofs.Common.{List, ap}
use Rattle.goal_meaning.specs.declared.goals.Assume.{Assume}
use Rattle.goal_reader.specs.declared.drafts.Draft.{Draft}
use Rattle.goal_reader.specs.Drafts as drafts
use Rattle.goal_reader.proofs.drafts.add_assume.Goals as goal

abbrev put : Draft → List Assume → Draft
put d xs = record { scope = d.scope; inputs = d.inputs; pool = d.pool; lets = d.lets; assumes = xs; guard = d.guard; sets = d.sets }

pub returns-clause-next : goal.returns-clause-next
returns-clause-next c = drafts.assume c.in_ok-one.one c.in_ok-one.ensures.left c.in_ok-one.ensures.right (ap (λ xs. put c.args.draft xs) c.in_ok-push.ensures.ok)
