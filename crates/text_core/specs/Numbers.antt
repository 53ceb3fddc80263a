-- Which bytes write a number, and which number. Source: this project; digits and their values are those of Rust's
-- `from_str_radix`.
use Rattle.std.specs.Prelude.{ℕ, ◌≡◌, ◌≢◌, ◌<◌, ◌≤◌, ◌^◌, List, [], ◌∷◌, length}
use Rattle.std.specs.Str.Parse.{AllDigits, digits_value}

-- digits of the base, whose value a word holds
pub record IsBelowLimit (base : ℕ) (digits : List ℕ) : Type 0 where
  pub each : AllDigits base digits
  pub limit : digits_value base digits < 2 ^ 64

-- Decimal digits, or `0x` and one to sixteen hexadecimal digits of either case. Leading zeros are allowed.
pub data IsNumber : List ℕ → ℕ → Type 0 where
  decimal : {bytes : List ℕ} → bytes ≢ [] → IsBelowLimit 10 bytes → IsNumber bytes (digits_value 10 bytes)
  hexadecimal : {bytes digits : List ℕ}
      → bytes ≡ 48 ∷ 120 ∷ digits → digits ≢ [] → length digits ≤ 16 → IsBelowLimit 16 digits
      → IsNumber bytes (digits_value 16 digits)
