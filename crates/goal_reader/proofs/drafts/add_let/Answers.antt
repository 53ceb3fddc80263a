use Rattle.std.proofs.Common.{◌++◌, ◌∷◌, [], List, length, ap, ap₂, ◌∙◌}
use Rattle.goal_reader.specs.declared.scopes.Leaf.{Leaf}
use Rattle.goal_meaning.specs.declared.goals.Let.{Let}
use Rattle.goal_reader.specs.declared.drafts.Draft.{Draft}
use Rattle.goal_reader.specs.Drafts as drafts
use Rattle.goal_reader.specs.Drafts.{let_leaf}
use Rattle.goal_reader.proofs.drafts.add_let.Goals as goal

abbrev put : Draft → List Leaf → List Let → Draft
put d leaves lets = record { scope = record { declared = d.scope.declared; leaves = leaves }; inputs = d.inputs; pool = d.pool; lets = lets; assumes = d.assumes; guard = d.guard; sets = d.sets }

pub returns-clause-next : goal.returns-clause-next
returns-clause-next c =
    let d = c.args.draft in
    let one = c.in_ok-one.one in
    let sort = c.in_ok-one.sort in
    let leaves = c.in_ok-push.ensures.ok ∙ ap (λ n. d.scope.leaves ++ let_leaf n c.in_ok-name.name sort ∷ []) c.len.ensures ∙ ap (λ name. d.scope.leaves ++ let_leaf (length d.lets) name sort ∷ []) c.in_ok-name.ensures in
    drafts.binding one sort c.in_ok-one.ensures.named c.in_ok-one.ensures.value c.in_ok-one.ensures.sort (ap₂ (put d) leaves c.in_ok-push-2.ensures.ok)
