use Rattle.std.proofs.Common.{ℕ, take, Contains}
use Rattle.egraph.specs.Keys.{listed_at}
use Rattle.egraph.specs.Tables.{Grows}
use Rattle.egraph.proofs.growing.note_row.Given as goal

abbrev pub invariant-loop-used : goal.invariant-loop-used
invariant-loop-used l = record {
  grows : Grows l.initial.uses l.uses;
  noted : (class : ℕ) → Contains (take l.used-index l.operands) class → Contains (listed_at l.uses class) l.place;
}
