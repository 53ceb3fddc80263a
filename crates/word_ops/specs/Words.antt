-- A word: a number of 64 bits. From the Alpha Architecture Handbook, the quadword.
use Rattle.std.specs.Prelude.{ℕ, ◌<◌, ◌^◌}

abbrev pub IsWord : ℕ → Type 0
IsWord n = n < 2 ^ 64
