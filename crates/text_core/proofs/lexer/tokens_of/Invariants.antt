use Rattle.std.proofs.Common.{length, ◌-◌, ◌≤◌}
use Rattle.text_core.specs.ReadTo.{IsReadTo}
use Rattle.text_core.proofs.lexer.tokens_of.Given as goal

abbrev pub invariant-loop-at : goal.invariant-loop-at
invariant-loop-at l = record {
  within : l.at ≤ length l.text;
  read : IsReadTo l.text l.at l.tokens.items;
}

-- Each step reads a byte.
abbrev pub decreases-loop-at : goal.decreases-loop-at
decreases-loop-at l = length l.text - l.at
