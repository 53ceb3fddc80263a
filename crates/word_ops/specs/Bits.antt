-- A word given by its bits. From this project.
use Rattle.std.specs.Prelude.{ℕ, zero, suc, ◌+◌, ◌*◌, ◌^◌, ◌%◌}

-- the number whose bit i, for i below k, is `f i` (0 or 1), and whose other bits are 0
unfoldable pub bits_below : ℕ → (ℕ → ℕ) → ℕ
bits_below zero f = 0
bits_below (suc k) f = f k % 2 * 2 ^ k + bits_below k f

-- the word whose bit i is `f i`
unfoldable pub word_of : (ℕ → ℕ) → ℕ
word_of f = bits_below 64 f
