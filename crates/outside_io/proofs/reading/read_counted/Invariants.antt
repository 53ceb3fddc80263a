use Rattle.std.proofs.Common.{◌≡◌, ◌+◌, ◌-◌, ◌≤◌, vec_len}
use Rattle.std.specs.Io.KnownBytes.{Consumes}
use Rattle.outside_io.proofs.reading.read_counted.Given as goal

-- The bytes so far are what was taken, no read failed, and each turn took a byte.
abbrev pub invariant-loop-piece : goal.invariant-loop-piece
invariant-loop-piece g l = record {
  taken : Consumes (g.S.Source.left l.initial.source) (g.S.Source.left l.source) l.bytes.items;
  within : vec_len l.bytes ≤ l.limit;
  kept : g.S.Source.faults l.source ≡ g.S.Source.faults l.initial.source;
  turns : l.turns ≤ l.initial.turns + vec_len l.bytes;
}

-- Each turn takes a byte.
abbrev pub decreases-loop-piece : goal.decreases-loop-piece
decreases-loop-piece g l = l.limit + 1 - vec_len l.bytes
