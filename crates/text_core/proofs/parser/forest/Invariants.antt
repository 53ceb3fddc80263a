use Rattle.text_core.specs.Building.{IsParsedTo}
use Rattle.text_core.proofs.parser.forest.Given as goal

abbrev pub invariant-loop-at : goal.invariant-loop-at
invariant-loop-at l = IsParsedTo l.tokens l.at l.parser
