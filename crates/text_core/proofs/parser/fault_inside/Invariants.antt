use Rattle.std.proofs.Common.{◌+◌, ◌-◌, ◌<◌, ◌≤◌}
use Rattle.text_core.specs.Building.{IsStillOpen}
use Rattle.text_core.proofs.parser.fault_inside.Given as goal

-- The outermost parenthesis is still open, and so are as many as were counted.
abbrev pub invariant-loop-index : goal.invariant-loop-index
invariant-loop-index l = record {
  some : 0 < l.depth;
  few : l.depth ≤ 64 + (l.index - l.at);
  outer : IsStillOpen l.tokens l.at l.outermost l.index l.depth;
}
