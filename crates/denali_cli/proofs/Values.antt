-- The number that a word is, within two bounds.
use Rattle.std.proofs.Common.{◌≡◌, ℕ, ◌<◌, ◌≤◌, ◌^◌, ◌&&◌, Bool, true, false, cond, List, Some, None, decimal, nat_lt, not, refl, sym, ap, subst, ◌∙◌, arith}
use Rattle.std.specs.Prelude.{Decides}
use Rattle.std.specs.Str.Parse.{digits_value}
use Rattle.std.specs.Str.{bytes_eq}
use Rattle.std.proofs.lemmas.Fmt.{decimal_is_IsNumeral}
use Rattle.std.proofs.lemmas.Slice.Eq.{bytes_eq-Decides}
use Rattle.std.proofs.lemmas.Bool.{false≢true}
use Rattle.std.proofs.lemmas.Bool.Decides.{Decides-ltb, Decides-not}
use Rattle.denali_cli.specs.OptionValues.{number_within}

-- ---- of three tests one fails, or all hold

one_fails : (a b c : Bool) (n : ℕ) → (a ≡ true → b ≡ true → c ≡ true → ⊥)
    → None ≡ cond (a && b && c) (Some n) None
one_fails true true true n h = absurd (h refl refl refl)
one_fails true true false n h = refl
one_fails true false true n h = refl
one_fails true false false n h = refl
one_fails false true true n h = refl
one_fails false true false n h = refl
one_fails false false true n h = refl
one_fails false false false n h = refl

all_hold : (a b c : Bool) (m n : ℕ) → a ≡ true → b ≡ true → c ≡ true → m ≡ n
    → Some m ≡ cond (a && b && c) (Some n) None
all_hold true true true m n e f h is = ap Some is
all_hold true true false m n e f h is = absurd (false≢true h)
all_hold true false c m n e f h is = absurd (false≢true f)
all_hold false b c m n e f h is = absurd (false≢true e)

module _ (low high : ℕ) (word : List ℕ) where
  abbrev number : ℕ
  number = digits_value 10 word

  abbrev above_low : Decides (not (nat_lt number low)) (¬ (number < low))
  above_low = Decides-not (nat_lt number low) (Decides-ltb number low)

  abbrev below_high : Decides (not (nat_lt high number)) (¬ (high < number))
  below_high = Decides-not (nat_lt high number) (Decides-ltb high number)

  refused : ((word ≡ decimal number) → (¬ (number < low)) → (¬ (high < number)) → ⊥) → None ≡ number_within low high word
  refused h =
      one_fails (bytes_eq word (decimal number)) (not (nat_lt number low)) (not (nat_lt high number)) number
      (λ same above below. h ((bytes_eq-Decides word (decimal number)).0 same) (above_low.0 above) (below_high.0 below))

  -- no number has the word
  pub no_number : high < 2 ^ 32 → ((n : ℕ) → n < 2 ^ 64 → word ≡ decimal n → ⊥) → None ≡ number_within low high word
  no_number few none = refused (λ same above below. none number (omega (arith, few, below)) same)

  -- the word's number is this one
  is_number : (n : ℕ) → n < 2 ^ 64 → word ≡ decimal n → number ≡ n
  is_number n few is = ap (digits_value 10) is ∙ (decimal_is_IsNumeral n few).1

  pub too_low : (n : ℕ) → n < 2 ^ 64 → word ≡ decimal n → n < low → None ≡ number_within low high word
  too_low n few is lt = refused (λ same above below. above (subst (λ m. m < low) (sym (is_number n few is)) lt))

  pub too_high : (n : ℕ) → n < 2 ^ 64 → word ≡ decimal n → high < n → None ≡ number_within low high word
  too_high n few is lt = refused (λ same above below. below (subst (λ m. high < m) (sym (is_number n few is)) lt))

  pub within : (n : ℕ) → n < 2 ^ 64 → word ≡ decimal n → low ≤ n → n ≤ high → Some n ≡ number_within low high word
  within n few is above below =
      let e = is_number n few is in
      all_hold (bytes_eq word (decimal number)) (not (nat_lt number low)) (not (nat_lt high number)) n number
      ((bytes_eq-Decides word (decimal number)).1 (is ∙ ap decimal (sym e)))
      (above_low.1 (λ lt. absurd (omega (arith, lt, e, above)))) (below_high.1 (λ lt. absurd (omega (arith, lt, e, below))))
      (sym e)
