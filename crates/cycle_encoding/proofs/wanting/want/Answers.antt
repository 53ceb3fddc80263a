use Rattle.std.proofs.Common.{◌∙◌, sym, refl, arith}
use Rattle.cycle_encoding.proofs.WantSteps.{mark-marks}
use Rattle.cycle_encoding.proofs.wanting.want.Goals as goal

pub returns-clause-marks : goal.returns-clause-marks
returns-clause-marks c = mark-marks c.args._facts.now c.args.wants.now.marks.items _ c.args.wants.now.order.items c.push.new.self.items c.args.class (let a = c.if-class-len.false in let b = c.len.ensures in omega arith) _ (sym c.index.ensures ∙ c.if-index.false) refl c.in_ok-push.ensures.items c.requires.wanted c.requires.marks
