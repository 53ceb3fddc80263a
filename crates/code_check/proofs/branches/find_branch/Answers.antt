use Rattle.std.proofs.Common.{arith}
use Rattle.code_check.proofs.Branching.{branch_found, no_branch, one_more_none}
use Rattle.code_check.proofs.branches.find_branch.Goals as goal

pub loop-at-init : goal.loop-at-init
loop-at-init c = λ j l. absurd (omega (arith, l))

pub returns-in-Some : goal.returns-in-Some
returns-in-Some c =
    branch_found c.args.words.now c.loop-at.at c.in-Some.register c.loop-at-test.true c.in-Some.ensures.low c.in-Some.ensures.branch

pub loop-at-preserved : goal.loop-at-preserved
loop-at-preserved c = one_more_none c.args.words.now c.loop-at.at c.loop-at.invariant c.in_default.ensures.branch

pub returns : goal.returns
returns c = no_branch c.args.words.now c.loop-at.at c.loop-at-test.false c.loop-at.invariant
