use Rattle.std.proofs.Common.{Contains, ◌∙◌, sym, subst}
use Rattle.egraph.specs.Steps.{moved}
use Rattle.egraph.specs.Keys.{listed_at}
use Rattle.egraph.specs.Tables.{reclass, ListsRowsOf, ListsUsesOf, ListsMembersOf}
use Rattle.egraph.proofs.Joins.{become_forth, both_changes, Anything, lists_move, reclass_tracked, reclass_uses, joined_listed}
use Rattle.egraph.proofs.Places.{IsOwn, IsUse}
use Rattle.egraph.proofs.joining.join.Goals as goal

pub still_of-requires : goal.still_of-requires
still_of-requires g c = record {
  listed = subst (ListsRowsOf c.args.tables.now.rows c.args.from) (sym (c.deref-2.ensures.value ∙ c.take-own.ensures.taken)) (c.requires.listed.own_rows c.args.from);
}

pub move_classes-requires : goal.move_classes-requires
move_classes-requires g c = record { listed = subst (ListsRowsOf c.args.tables.now.rows c.args.from) (sym c.deref-3.ensures.value) c.in_ok-own.ensures }

pub still_using-requires : goal.still_using-requires
still_using-requires g c = record {
  listed = subst (ListsUsesOf c.move_classes.new.rows c.args.from) (sym (c.deref-4.ensures.value ∙ c.take-uses.ensures.taken))
      (reclass_uses g.O.Operator.signature (moved c.args.from c.args.to) c.args.tables.now.rows c.move_classes.new.rows c.move_classes.ensures.becomes c.args.from (listed_at c.args.tables.now.uses c.args.from) (c.requires.listed.used c.args.from));
}

pub move_uses-requires : goal.move_uses-requires
move_uses-requires g c = record { listed = subst (ListsUsesOf c.move_classes.new.rows c.args.from) (sym c.deref-5.ensures.value) c.in_ok-uses.ensures }

pub move_members-requires : goal.move_members-requires
move_members-requires g c = record {
  listed = subst (ListsMembersOf c.args.tables.now.current.items c.args.from) (sym (c.deref-6.ensures.value ∙ c.take-members.ensures.taken)) (c.requires.listed.members_of c.args.from);
}

pub returns-clause-listed : goal.returns-clause-listed
returns-clause-listed g c =
    let from = c.args.from in
    let to = c.args.to in
    let t = c.args.tables.now in
    let f = moved from to in
    joined_listed g.O.Operator.signature from to t.rows c.move_uses.new.rows t.own c.add_all.new.self t.uses c.add_all-2.new.self t.members c.add_all-3.new.self t.constants.items c.move_constant.new.constants.items t.current.items c.move_members.new.current.items
    c.requires.listed
    (both_changes f t.rows c.move_classes.new.rows c.move_uses.new.rows c.move_classes.ensures.becomes c.in_ok-move_uses.ensures.becomes)
    (lists_move (IsOwn t.rows) from to t.own c.take-own.new.self c.add_all.new.self c.in_ok-own.own.items c.requires.differ (λ place p h. c.in_ok-own.ensures place p.0 p.1 p.2) c.take-own.ensures.others c.in_ok-add_all.ensures.added c.in_ok-add_all.ensures.others)
    (lists_move (IsUse t.rows) from to t.uses c.take-uses.new.self c.add_all-2.new.self c.in_ok-uses.uses.items c.requires.differ (λ place p h. c.in_ok-uses.ensures place (reclass f p.0) (become_forth (reclass f) t.rows c.move_classes.new.rows c.move_classes.ensures.becomes place p.0 p.1) p.2) c.take-uses.ensures.others c.in_ok-add_all-2.ensures.added c.in_ok-add_all-2.ensures.others)
    (lists_move Anything from to t.members c.take-members.new.self c.add_all-3.new.self c.take-members.result.items c.requires.differ (λ place p h. subst (λ xs. Contains xs place) (sym c.take-members.ensures.taken) h) c.take-members.ensures.others c.in_ok-add_all-3.ensures.added c.in_ok-add_all-3.ensures.others)
    c.in_ok-move_constant.ensures.forth c.in_ok-move_constant.ensures.back c.move_members.ensures

pub returns-clause-tracked : goal.returns-clause-tracked
returns-clause-tracked g c =
    let t = c.args.tables.now in
    λ place h. c.in_ok-move_uses.ensures.tracked place (reclass_tracked g.O.Operator.signature (moved c.args.from c.args.to) t.rows c.move_classes.new.rows t.index c.args.waiting.now.items c.move_classes.ensures.becomes place h)
