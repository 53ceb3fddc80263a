-- When a call of a source or a sink may fail: by the count of failed calls that the object itself keeps.
-- Source: this project.
use Rattle.std.specs.Prelude.{◌≡◌, ℕ, ◌+◌, ◌-◌, ◌^◌, ◌<◌, ◌≤◌, min, Result, OnOk, OnErr}

-- the number after n, in a count of 64 bits that stands still at its last value
abbrev pub next_count : ℕ → ℕ
next_count n = min (n + 1) (2 ^ 64 - 1)

-- The count went up, or stands at the last value of its type.
pub record IsCounted (before now : ℕ) : Type 0 where
  pub next : next_count before ≤ now
  pub fits : now < 2 ^ 64

-- The count never falls, an `Ok` keeps it, and an `Err` comes only where it counted.
pub record HasCause {T E : Type 0} (before now : ℕ) (result : Result T E) : Type 0 where
  pub later : before ≤ now
  pub kept : OnOk result (now ≡ before)
  pub failed : OnErr result (IsCounted before now)
