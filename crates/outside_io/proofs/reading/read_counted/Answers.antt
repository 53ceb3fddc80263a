-- What a refusal took is the bytes so far and the last piece.
use Rattle.std.proofs.Common.{arith, ℕ}
use Rattle.std.proofs.lemmas.List.{length-take}
use Rattle.outside_io.proofs.Fronts.{takes_past, takes_front}
use Rattle.outside_io.proofs.reading.read_counted.Goals as goal

pub returns-then-count-limit-clause-refused : goal.returns-then-count-limit-clause-refused
returns-then-count-limit-clause-refused g c =
    takes_past _ _ _ _ _ _ _ c.loop-piece.invariant.taken c.in-Ok.ensures.bytes.0 c.in-Ok.ensures.bound.0 (omega (arith, c.in-Ok.ensures.bound.0, c.read.auto.into, length-take {A = ℕ}))

pub returns-then-is_err-clause-refused : goal.returns-then-is_err-clause-refused
returns-then-is_err-clause-refused g c =
    takes_front _ _ _ _ _ _ _ c.loop-piece.invariant.taken c.in-Ok.ensures.bytes.0 c.in-Ok.ensures.bound.0 (omega (arith, c.in-Ok.ensures.bound.0, c.read.auto.into, length-take {A = ℕ}))

pub returns-then-count-limit-clause-taken : goal.returns-then-count-limit-clause-taken
returns-then-count-limit-clause-taken g c =
    takes_front _ _ _ _ _ _ _ c.loop-piece.invariant.taken c.in-Ok.ensures.bytes.0 c.in-Ok.ensures.bound.0 (omega (arith, c.in-Ok.ensures.bound.0, c.read.auto.into, length-take {A = ℕ}))

pub returns-then-is_err-clause-taken : goal.returns-then-is_err-clause-taken
returns-then-is_err-clause-taken g c =
    takes_front _ _ _ _ _ _ _ c.loop-piece.invariant.taken c.in-Ok.ensures.bytes.0 c.in-Ok.ensures.bound.0 (omega (arith, c.in-Ok.ensures.bound.0, c.read.auto.into, length-take {A = ℕ}))
