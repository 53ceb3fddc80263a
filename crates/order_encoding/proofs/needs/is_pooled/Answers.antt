use Rattle.std.proofs.Common.{◌<◌, ◌≤◌, ◌∙◌, List, Option, ℕ, get_or, length, ap, subst}
use Rattle.order_encoding.proofs.NeedTables.{table-at, table-past, table-tells}
use Rattle.order_encoding.proofs.needs.is_pooled.Goals as goal

pub returns-then-class-starts : goal.returns-then-class-starts
returns-then-class-starts c =
    let needs = c.args.live.now.needs in
    table-past c.args.live.now.facts.now needs.cycles c.args.live.now.launches.now needs.classes.items needs.starts.items c.requires c.args.class (subst (λ (xs : List (Option ℕ)). length xs ≤ c.args.class) c.as_slice-starts.ensures.value c.if-class-starts.true)

pub returns : goal.returns
returns c =
    let needs = c.args.live.now.needs in
    let here : c.args.class < length needs.starts.items = subst (λ (xs : List (Option ℕ)). c.args.class < length xs) c.as_slice-starts.ensures.value c.if-class-starts.false in
    c.is_some.ensures ∙ table-tells c.args.live.now.facts.now needs.cycles c.args.live.now.launches.now needs.classes.items needs.starts.items c.requires c.args.class _
    (ap (λ (xs : List (Option ℕ)). get_or xs c.args.class _) c.as_slice-starts.ensures.value ∙ table-at c.args.live.now.facts.now needs.cycles c.args.live.now.launches.now needs.classes.items needs.starts.items c.requires c.args.class _ here)
