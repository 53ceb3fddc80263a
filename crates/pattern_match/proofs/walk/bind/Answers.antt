use Rattle.std.proofs.Common.{◌+◌, [], take, sym, subst}
use Rattle.std.proofs.lemmas.List.{take_all}
use Rattle.std.proofs.lemmas.Option.{MatchOption-at_some, MatchOption-at_none}
use Rattle.pattern_match.proofs.Walking.{Binds, binds_none, binds_all, bind_skips, bind_adds}
use Rattle.pattern_match.proofs.walk.bind.Goals as goal
use Rattle.pattern_match.proofs.walk.bind.Goals.{in-Some+in_ok-push, in_default}

pub loop-bound-init : goal.loop-bound-init
loop-bound-init c = subst (Binds c.args.number c.args.class [] c.args.list.now) (sym c.new-out.ensures.items) (binds_none c.args.number c.args.class c.args.list.now)

pub loop-bound-preserved : goal.loop-bound-preserved
loop-bound-preserved c =
    let v = c.args.number in
    let class = c.args.class in
    let bs = c.args.list.now in
    let b = c.bound-item.result in
    let i = c.loop-bound.bound-index in
    let h = c.loop-bound.invariant in
    let out = c.loop-bound.out.items in
    elim c.match-branch-2.branch [
      | in-Some+in_ok-push w ↦
          (let made = MatchOption-at_some _ _ w.in-Some.made w.in-Some.is c.in_ok-made.ensures in
          let after = bind_adds v class bs i b c.as_slice.result.now c.loop-bound-test.true c.bound-item.is c.as_slice.ensures out h w.in-Some.made w.push.new.self.items c.requires made w.in_ok-push.ensures.items in
          subst (λ o. Binds v class (take (i + 1) bs) bs o.items) (sym w.out-is) after)
      | in_default w ↦
          (let other = MatchOption-at_none _ _ w.in_default.is c.in_ok-made.ensures in
          subst (λ o. Binds v class (take (i + 1) bs) bs o.items) (sym w.out-is) (bind_skips v class bs i b c.as_slice.result.now c.loop-bound-test.true c.bound-item.is c.as_slice.ensures out h other))
    ]

pub returns : goal.returns
returns c = λ g.
    binds_all g c.args.number c.args.class c.args.list.now c.loop-bound.out.items c.requires
    (subst (λ d. Binds c.args.number c.args.class d c.args.list.now c.loop-bound.out.items) (take_all c.loop-bound.bound-index c.args.list.now c.loop-bound-test.false) c.loop-bound.invariant)
