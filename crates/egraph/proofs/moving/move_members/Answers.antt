use Rattle.std.proofs.Common.{get_or, refl, ◌∙◌, arith}
use Rattle.egraph.proofs.Places.{more_members, members_start, members_done, no_more_left}
use Rattle.egraph.proofs.moving.move_members.Goals as goal

pub loop-member-init : goal.loop-member-init
loop-member-init c = record {
  len = refl;
  each = members_start c.args.from c.args.to c.args.current.now.items c.args.members.now c.requires.listed;
}

pub loop-member-preserved : goal.loop-member-preserved
loop-member-preserved c =
    let i = c.loop-member.member-index in
    let members = c.args.members.now in
    let p = get_or members i 0 in
    let now = c.loop-member.current.items in
    let next = c.move_member.new.current.items in
    record {
      len = c.move_member.ensures.len ∙ c.loop-member.invariant.len;
      each = more_members c.args.from c.args.to c.args.current.now.items now next members i p c.loop-member-test.true refl c.loop-member.invariant.len c.move_member.ensures.len c.loop-member.invariant.each c.move_member.ensures.moved c.move_member.ensures.others;
    }

pub returns : goal.returns
returns c =
    let i = c.loop-member.member-index in
    let members = c.args.members.now in
    members_done c.args.from c.args.to c.args.current.now.items c.loop-member.current.items c.loop-member.invariant.len
    (λ k l. no_more_left members i (omega (arith, c.loop-member-test.false)) k (c.loop-member.invariant.each k l))
