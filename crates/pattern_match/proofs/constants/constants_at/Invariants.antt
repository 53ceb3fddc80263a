use Rattle.std.proofs.Common.{take}
use Rattle.pattern_match.specs.Matches.{HaveConstants}
use Rattle.pattern_match.proofs.constants.constants_at.Given as goal

abbrev pub invariant-loop-class : goal.invariant-loop-class
invariant-loop-class l = HaveConstants l.graph (take l.class-index l.classes) l.words.items
