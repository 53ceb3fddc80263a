use Rattle.std.proofs.Common.{◌∙◌, ◌≤◌, List, sym, subst}
use Rattle.std.specs.Prelude.{nat_le}
use Rattle.std.specs.List.{All}
use Rattle.std.proofs.lemmas.List.Elements.{All-filter}
use Rattle.slot_capacity.specs.declared.deadlines.Deadline.{Deadline}
use Rattle.slot_capacity.proofs.limits.push_from.Goals as goal

pub push_later-requires-clause-early : goal.push_later-requires-clause-early
push_later-requires-clause-early c =
    subst (λ (xs : List Deadline). All (λ (x : Deadline). x.last ≤ 24) xs)
    (sym (c.deref.ensures.value ∙ c.in_ok-later.ensures))
    (All-filter (λ (x : Deadline). nat_le c.args.e x.first) (λ (x : Deadline). x.last ≤ 24) c.args.members.now
    c.requires.early)
