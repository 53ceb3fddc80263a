use Rattle.std.proofs.Common.{◌++◌, ◌∷◌, [], List, ap, ap₂, ◌∙◌}
use Rattle.goal_reader.specs.declared.scopes.Leaf.{Leaf}
use Rattle.goal_meaning.specs.declared.goals.InputReg.{InputReg}
use Rattle.goal_reader.specs.declared.drafts.Draft.{Draft}
use Rattle.goal_reader.specs.declared.scopes.Named.TheVariants.{Input}
use Rattle.goal_reader.specs.Drafts as drafts
use Rattle.goal_reader.proofs.drafts.add_input.Goals as goal

abbrev put : Draft → List Leaf → List InputReg → Draft
put d leaves inputs = record { scope = record { declared = d.scope.declared; leaves = leaves }; inputs = inputs; pool = d.pool; lets = d.lets; assumes = d.assumes; guard = d.guard; sets = d.sets }

pub returns-clause-next : goal.returns-clause-next
returns-clause-next c =
    let d = c.args.draft in
    let i = c.in_ok-input.input in
    let leaves = c.in_ok-push.ensures.ok ∙ ap (λ name. d.scope.leaves ++ (record { name = name; named = Input i.reg }) ∷ []) c.in_ok-name.ensures in
    drafts.input i c.in_ok-input.ensures.input (ap₂ (put d) leaves c.in_ok-push-2.ensures.ok)
