-- A stream of the world outside, and how many of its calls failed.
-- Source: this project.
use Rattle.std.specs.Prelude.{ℕ}

pub record CountedStream (T : Type 0) : Type 0 where
  pub stream : T
  pub faults : ℕ
