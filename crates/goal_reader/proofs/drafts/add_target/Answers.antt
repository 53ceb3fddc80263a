use Rattle.std.proofs.Common.{List, ap}
use Rattle.goal_meaning.specs.declared.goals.Set.{Set}
use Rattle.goal_reader.specs.declared.drafts.Draft.{Draft}
use Rattle.goal_reader.specs.Drafts as drafts
use Rattle.goal_reader.proofs.drafts.add_target.Goals as goal

abbrev put : Draft → List Set → Draft
put d xs = record { scope = d.scope; inputs = d.inputs; pool = d.pool; lets = d.lets; assumes = d.assumes; guard = d.guard; sets = xs }

pub returns-clause-next : goal.returns-clause-next
returns-clause-next c = drafts.target c.in_ok-one.one c.in_ok-one.ensures.named c.in_ok-one.ensures.pin c.in_ok-one.ensures.value (ap (λ xs. put c.args.draft xs) c.in_ok-push.ensures.ok)
