use Rattle.std.proofs.Common.{◌≡◌, ℕ, ◌<◌, length, take, get_or}
use Rattle.pick_rule.specs.declared.pick.Pick.TheVariants.{First, Last, Busy}
use Rattle.sat_core.proofs.decision.first_scores.Given as goal

-- the scores up to the place
abbrev pub invariant-loop-place : goal.invariant-loop-place
invariant-loop-place l = record {
  size : length l.scores.items ≡ l.place;
  first : l.pick ≡ First → (k : ℕ) → k < length l.scores.items → get_or l.scores.items k 0 ≡ 0;
  last : l.pick ≡ Last → (k : ℕ) → k < length l.scores.items → get_or l.scores.items k 0 ≡ k;
  busy : l.pick ≡ Busy → l.scores.items ≡ take l.place l.given;
}
