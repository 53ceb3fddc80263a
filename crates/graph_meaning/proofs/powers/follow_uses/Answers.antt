use Rattle.std.proofs.Common.{◌<◌, ℕ, List, sym, subst, length, get_or, arith}
use Rattle.std.proofs.lemmas.List.{take_all}
use Rattle.graph_meaning.specs.Raising.{AreConstants, AreFollowed}
use Rattle.graph_meaning.proofs.Raises.{below_at, more_followed, raises_both, raises_none}
use Rattle.graph_meaning.proofs.powers.follow_uses.Goals.{After-index-rows-at}
use Rattle.graph_meaning.proofs.powers.follow_uses.Goals as goal

pub follow-requires-clause-below : goal.follow-requires-clause-below
follow-requires-clause-below c =
    let at = get_or c.args.places.now c.loop-at.at-index 0 in
    below_at c.args.rows.now (length c.loop-at.powers.items) (length c.args.powers.now.items) at c.index-rows-at.result
    c.loop-at.invariant.raises.size c.index-rows-at.is (c.requires.places c.loop-at.at-index 0 c.loop-at-test.true)
    c.requires.below

pub follow-requires-clause-constants : goal.follow-requires-clause-constants
follow-requires-clause-constants c =
    subst (λ n. AreConstants c.args.rows.now n c.args.constants.now)
    (sym c.loop-at.invariant.raises.size) c.requires.constants

pub loop-at-init : goal.loop-at-init
loop-at-init c =
    record {
      state = c.requires.state;
      raises = raises_none c.args.powers.now.items c.args.queue.now.items;
      followed = λ place row h e. absurd (let l : h.0 < 0 = h.1 in omega arith);
    }

pub loop-at-preserved : goal.loop-at-preserved
loop-at-preserved c =
    let v = c.loop-at.invariant in
    let e = c.in_ok-follow.ensures in
    let i = c.loop-at.at-index in
    let m = c.loop-at.powers.items in
    let q = c.loop-at.queue.items in
    let m' = c.follow.new.powers.items in
    let q' = c.follow.new.queue.items in
    record {
      state = e.state;
      raises = raises_both c.args.powers.now.items c.args.queue.now.items m q m' q' v.raises e.raises;
      followed =
          more_followed c.args.rows.now m q m' q' (length c.args.queue.now.items) i c.args.places.now
          c.index-rows-at.result
          e.raises v.raises.longer c.loop-at-test.true (c.requires.places i 0 c.loop-at-test.true) c.index-rows-at.is
          v.followed
          e.followed;
    }

pub returns-clause-followed : goal.returns-clause-followed
returns-clause-followed c =
    subst
    (λ (xs : List ℕ). AreFollowed c.args.rows.now c.loop-at.powers.items c.loop-at.queue.items
    (length c.args.queue.now.items) xs)
    (take_all c.loop-at.at-index c.args.places.now c.loop-at-test.false) c.loop-at.invariant.followed
