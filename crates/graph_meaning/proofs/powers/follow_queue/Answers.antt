use Rattle.std.proofs.Common.{◌∙◌, ◌<◌, ℕ, List, [], ap, sym, subst, length, arith}
use Rattle.std.specs.Prelude.{All, slice_index_or}
use Rattle.graph_meaning.specs.Raising.{AreConstants, AreFollowed, IsBelow}
use Rattle.graph_meaning.proofs.Raises.{finished, next_seen, places_low, queue_short, taken_class, taken_low, taken_places}
use Rattle.graph_meaning.proofs.powers.follow_queue.Goals as goal

pub bounds-uses-class : goal.bounds-uses-class
bounds-uses-class c =
    let q = c.loop-at.queue.items in
    let at = c.loop-at.at in
    let lt : at < length q = (let a = c.if-at-len.false in let b = c.len.ensures in omega arith) in
    let low = taken_low q (length c.loop-at.powers.items) at c.index-class.result.now lt c.index-class.ensures
    c.loop-at.invariant.state.within in
    let size = c.loop-at.invariant.size in
    let uses = c.requires.uses.size in
    omega arith

pub follow_uses-requires-clause-places : goal.follow_uses-requires-clause-places
follow_uses-requires-clause-places c =
    let q = c.loop-at.queue.items in
    let at = c.loop-at.at in
    let class = c.index-class.result.now in
    let lt : at < length q = (let a = c.if-at-len.false in let b = c.len.ensures in omega arith) in
    let low = taken_low q (length c.loop-at.powers.items) at class lt c.index-class.ensures
    c.loop-at.invariant.state.within in
    let within : class < length c.args.uses.now =
    (let size = c.loop-at.invariant.size in let uses = c.requires.uses.size in omega arith) in
    places_low c.args.rows.now (length c.args.rows.now) (length c.args.powers.now.items) c.args.uses.now class
    c.as_slice-places.result.now c.requires.uses
    (taken_places c.args.uses.now class c.index-uses-class.result c.as_slice-places.result.now within
    c.as_slice-places.ensures
    c.index-uses-class.is)

pub follow_uses-requires-clause-below : goal.follow_uses-requires-clause-below
follow_uses-requires-clause-below c =
    subst (λ n. All (IsBelow n) c.args.rows.now) (sym c.loop-at.invariant.size) c.requires.below

pub follow_uses-requires-clause-constants : goal.follow_uses-requires-clause-constants
follow_uses-requires-clause-constants c =
    subst (λ n. AreConstants c.args.rows.now n c.args.constants.now) (sym c.loop-at.invariant.size) c.requires.constants

pub loop-at-preserved : goal.loop-at-preserved
loop-at-preserved c =
    let rows = c.args.rows.now in
    let uses = c.args.uses.now in
    let v = c.loop-at.invariant in
    let e = c.in_ok-follow_uses.ensures in
    let m = c.loop-at.powers.items in
    let q = c.loop-at.queue.items in
    let m' = c.follow_uses.new.powers.items in
    let q' = c.follow_uses.new.queue.items in
    let at = c.loop-at.at in
    let class = c.index-class.result.now in
    let lt : at < length q = (let a = c.if-at-len.false in let b = c.len.ensures in omega arith) in
    let low = taken_low q (length m) at class lt c.index-class.ensures v.state.within in
    let within : class < length uses = (let size = v.size in let count = c.requires.uses.size in omega arith) in
    let places =
    taken_places uses class c.index-uses-class.result c.as_slice-places.result.now within c.as_slice-places.ensures
    c.index-uses-class.is
    ∙ ap (λ k. slice_index_or uses k []) (taken_class q at class lt c.index-class.ensures) in
    record {
      size = e.raises.size ∙ v.size;
      state = e.state;
      seen =
          next_seen rows (length c.args.powers.now.items) uses c.requires.uses m q m' q' e.raises at lt
          (subst (λ (xs : List ℕ). AreFollowed rows m' q' (length q) xs) places e.followed) v.seen;
    }

pub returns-then-at-len-clause-greatest : goal.returns-then-at-len-clause-greatest
returns-then-at-len-clause-greatest c =
    let v = c.loop-at.invariant in
    let size = v.size in
    λ class l.
    finished c.args.rows.now c.loop-at.powers.items c.loop-at.queue.items v.state c.loop-at.at
    (let a = c.if-at-len.true in let b = c.len.ensures in omega arith) v.seen class (omega arith)

pub returns-clause-greatest : goal.returns-clause-greatest
returns-clause-greatest c =
    let v = c.loop-at.invariant in
    let size = v.size in
    let short = queue_short c.args.rows.now c.loop-at.powers.items c.loop-at.queue.items v.state in
    λ class l.
    finished c.args.rows.now c.loop-at.powers.items c.loop-at.queue.items v.state c.loop-at.at
    (let a = c.loop-at-test.false in let b = c.len-at-end.ensures in omega arith) v.seen class (omega arith)
