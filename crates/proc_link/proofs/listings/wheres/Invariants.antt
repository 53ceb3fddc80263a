use Rattle.std.proofs.Common.{◌≡◌, take}
use Rattle.proc_link.proofs.listings.wheres.Given as goal

abbrev pub invariant-loop-place : goal.invariant-loop-place
invariant-loop-place l = l.copies ≡ take l.place-index l.wheres
