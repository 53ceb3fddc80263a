use Rattle.std.proofs.Common.{◌∙◌, sym}
use Rattle.cycle_encoding.proofs.WantSteps.{target-wanted}
use Rattle.cycle_encoding.proofs.wanting.want_target.Goals as goal

pub want-requires-clause-wanted : goal.want-requires-clause-wanted
want-requires-clause-wanted c = target-wanted c.args.facts.now c.args.set.now c.requires.set (sym c.is_wanted_target.ensures ∙ c.if-not-is_wanted_target.false)
