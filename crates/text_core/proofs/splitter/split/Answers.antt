use Rattle.text_core.proofs.LineFaults.{refused_first}
use Rattle.text_core.proofs.Splits.{split_none}
use Rattle.text_core.proofs.splitter.split.Goals as goal

pub returns-in-Some-clause-fault : goal.returns-in-Some-clause-fault
returns-in-Some-clause-fault c = refused_first c.args.text.now c.in-Some.place c.in-Some.ensures

pub loop-at-init : goal.loop-at-init
loop-at-init c = split_none c.args.text.now c.new.result.items c.new-2.result.items c.new.ensures.items c.new-2.ensures.items
