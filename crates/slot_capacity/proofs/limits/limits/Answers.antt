use Rattle.std.proofs.Common.{◌∙◌, ◌≤◌, ℕ, List, length, sym, ap, subst, refl, arith}
use Rattle.std.specs.Prelude.{Contains}
use Rattle.std.proofs.lemmas.List.Elements.{All-contains}
use Rattle.slot_capacity.specs.Limits.{group_limits, groups_of}
use Rattle.slot_capacity.proofs.Bounds.{all-short}
use Rattle.slot_capacity.proofs.ClauseSteps.{flat-pushed}
use Rattle.slot_capacity.proofs.limits.limits.Goals as goal

pub push_limits-requires-clause-group : goal.push_limits-requires-clause-group
push_limits-requires-clause-group c =
    let table = c.args.makers.now.frame.table.now in
    let group = c.group-item.result in
    let there : Contains (groups_of table) group =
    subst (λ (gs : List (List ℕ)). Contains gs group) (c.as_slice-group-items.ensures.value ∙ c.in_ok-groups.ensures)
    (c.loop-group.group-index, c.loop-group-test.true, sym c.group-item.is) in
    let short =
    All-contains (λ (group : List ℕ). length group ≤ 8) (groups_of table) group (all-short table c.requires.table)
    there in
    let size = ap (λ (group : List ℕ). length group) c.as_slice.ensures in
    omega arith

pub loop-group-preserved : goal.loop-group-preserved
loop-group-preserved c =
    let f =
    group_limits c.args.makers.now.frame.facts.now c.args.makers.now.frame.table.now c.args.makers.now.frame.k c.args.makers.now.spans.items c.args.deadlines.now in
    let items = c.as_slice-group-items.result.now in
    flat-pushed f items items c.loop-group.group-index c.group-item.result refl c.loop-group-test.true
    c.loop-group.limits.items c.push_limits.new.limits.items (f c.as_slice.result.now) c.loop-group.invariant
    c.in_ok-push_limits.ensures (ap f (c.as_slice.ensures ∙ c.group-item.is))
