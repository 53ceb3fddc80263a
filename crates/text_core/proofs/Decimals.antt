-- Words that write a number in decimal.
use Rattle.std.proofs.Common.{◌≡◌, ℕ, zero, suc, ◌^◌, ◌<◌, List, length, get_or, sym, ap, ◌∙◌, subst, arith, decimal}
use Rattle.std.proofs.lemmas.Fmt.{decimal-digits_value, decimal_is_IsNumeral, first_decimal, decimal_digit}
use Rattle.std.proofs.lemmas.Str.Parse.{numerals_by_value, tells_digits}
use Rattle.std.specs.Str.Parse.{digits_value}
use Rattle.text_core.specs.Numbers.{IsBelowLimit}

-- digits with no needless zero in front
pub written : (ds : List ℕ) → 0 < length ds → (get_or ds 0 0 ≡ 48 → length ds ≡ 1) → IsBelowLimit 10 ds → (n : ℕ) → n ≡ digits_value 10 ds → ds ≡ decimal n
written ds some lead below n is = sym (decimal-digits_value (numerals_by_value _ tells_digits) ds below.each some lead below.limit) ∙ ap decimal (sym is)

pub below_limit : (ds : List ℕ) (n : ℕ) → n < 2 ^ 64 → ds ≡ decimal n → IsBelowLimit 10 ds
below_limit ds n small is =
    let of = decimal_is_IsNumeral n small in
    subst (IsBelowLimit 10) (sym is) (record { each = of.0.1; limit = omega (arith, of.1) })

pub some_digit : (ds : List ℕ) (n : ℕ) → n < 2 ^ 64 → ds ≡ decimal n → 0 < length ds
some_digit ds n small is = subst (λ (xs : List ℕ). 0 < length xs) (sym is) (decimal_is_IsNumeral n small).0.0

zero_alone : (n : ℕ) → n < 2 ^ 64 → get_or (decimal n) 0 0 ≡ 48 → length (decimal n) ≡ 1
zero_alone zero small lead = ap length (decimal_digit 0 (omega arith))
zero_alone (suc n) small lead = (let above = first_decimal (suc n) (omega arith) small in absurd (omega arith))

pub no_needless_zero : (ds : List ℕ) (n : ℕ) → n < 2 ^ 64 → ds ≡ decimal n → get_or ds 0 0 ≡ 48 → 1 < length ds → ⊥
no_needless_zero ds n small is lead more =
    let one : length (decimal n) ≡ 1 = zero_alone n small (ap (λ (xs : List ℕ). get_or xs 0 0) (sym is) ∙ lead) in
    let same : length ds ≡ length (decimal n) = ap length is in
    absurd (omega arith)
