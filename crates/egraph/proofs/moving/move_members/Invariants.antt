use Rattle.std.proofs.Common.{◌≡◌, ◌<◌, ℕ, ◌⊎◌, drop, length, get_or, Contains}
use Rattle.egraph.specs.Steps.{moved}
use Rattle.egraph.proofs.moving.move_members.Given as goal

abbrev pub invariant-loop-member : goal.invariant-loop-member
invariant-loop-member l = record {
  len : length l.current.items ≡ length l.initial.current.items;
  each : (k : ℕ) → k < length l.current.items → (get_or l.current.items k 0 ≡ moved l.from l.to (get_or l.initial.current.items k 0)) ⊎ ((get_or l.current.items k 0 ≡ get_or l.initial.current.items k 0) × Contains (drop l.member-index l.members) k);
}
