use Rattle.std.proofs.Common.{◌∙◌, ◌≤◌, List, sym, subst}
use Rattle.std.specs.List.{All}
use Rattle.std.proofs.lemmas.List.Elements.{All-filter}
use Rattle.slot_capacity.specs.Limits.{belongs}
use Rattle.slot_capacity.specs.declared.deadlines.Deadline.{Deadline}
use Rattle.slot_capacity.proofs.limits.push_limits.Goals as goal

pub push_group-requires-clause-early : goal.push_group-requires-clause-early
push_group-requires-clause-early c =
    subst (λ (xs : List Deadline). All (λ (x : Deadline). x.last ≤ 24) xs)
    (sym (c.deref.ensures.value ∙ c.in_ok-members.ensures))
    (All-filter
    (λ (x : Deadline). belongs c.args.makers.now.frame.facts.now c.args.makers.now.frame.table.now c.args.makers.now.spans.items c.args.group.now x.class)
    (λ (x : Deadline). x.last ≤ 24) c.args.deadlines.now c.requires.early)
