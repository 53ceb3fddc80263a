-- Each word that was passed may stand where it does.
use Rattle.std.proofs.Common.{arith}
use Rattle.std.proofs.lemmas.Option.{slice_get_within}
use Rattle.alpha_machine.proofs.Standing.{one_more_stands}
use Rattle.alpha_machine.proofs.running.first_bad.Goals as goal

pub loop-at-preserved : goal.loop-at-preserved
loop-at-preserved c = one_more_stands c.args.words.now c.loop-at.at c.loop-at-test.true (c.may_stand.ensures.yes c.if-not-may_stand.false) c.loop-at.invariant

pub returns : goal.returns
returns c at word there =
    let within = slice_get_within c.args.words.now at word there in
    c.loop-at.invariant at word (omega (arith, within, c.loop-at-test.false)) there
