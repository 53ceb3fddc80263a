-- Eight hexadecimal digits, one more at a time.
use Rattle.std.proofs.Common.{◌≡◌, ℕ, zero, suc, ◌+◌, ◌*◌, ◌^◌, ◌<◌, ◌≤◌, List, [], ◌∷◌, length, take, get_or, sym, ap, ◌∙◌, subst, arith}
use Rattle.std.proofs.Math.Nat.{pow-le-pow_right}
use Rattle.std.proofs.lemmas.List.{length-take-le, take_all}
use Rattle.std.proofs.lemmas.Int.Digits.{digits_more, digits_value_more, digits_value-lt}
use Rattle.std.specs.Char.{digit_value}
use Rattle.std.specs.Str.Parse.{AllDigits, digits_value}
use Rattle.run_texts.specs.RunTexts.{IsHexWord}

digit_at : (ds : List ℕ) (i : ℕ) → AllDigits 16 ds → i < length ds → digit_value (get_or ds i 0) < 16
digit_at [] i each high = absurd (omega arith)
digit_at (d ∷ ds) zero each high = each.0
digit_at (d ∷ ds) (suc i) each high = digit_at ds i each.1 (omega arith)

-- a byte that is no digit ends the reading
pub no_digit : (ds : List ℕ) (i c : ℕ) → i < length ds → c ≡ get_or ds i 0 → (digit_value c < 16 → ⊥) → IsHexWord ds → ⊥
no_digit ds i c high byte never h =
    let P : ℕ → Type 0 = λ n. digit_value n < 16 in
    never (subst P (sym byte) (digit_at ds i h.each high))

-- seven digits have a value below 2 ^ 28
pub below : (ds : List ℕ) (i k : ℕ) → i ≤ k → i ≤ length ds → AllDigits 16 (take i ds) → digits_value 16 (take i ds) < 16 ^ k
below ds i k le within each =
    let lt = digits_value-lt 16 (take i ds) each in
    let size : length (take i ds) ≡ i = length-take-le i ds within in
    let here : digits_value 16 (take i ds) < 16 ^ i = subst (λ n. digits_value 16 (take i ds) < 16 ^ n) size lt in
    let more : 16 ^ i ≤ 16 ^ k = pow-le-pow_right (omega arith) le in
    omega arith

pub digit_more : (ds : List ℕ) (i n c d m : ℕ) → i < length ds → n ≡ digits_value 16 (take i ds) → c ≡ get_or ds i 0 → d ≡ digit_value c → m ≡ n * 16 + d
    → m ≡ digits_value 16 (take (i + 1) ds)
digit_more ds i n c d m high is byte digit sum =
    let next = digits_value_more 16 ds i high in
    let value : d ≡ digit_value (get_or ds i 0) = digit ∙ ap digit_value byte in
    omega arith

pub digits_more_at : (ds : List ℕ) (i c : ℕ) → i < length ds → c ≡ get_or ds i 0 → AllDigits 16 (take i ds) → digit_value c < 16 → AllDigits 16 (take (i + 1) ds)
digits_more_at ds i c high byte each small =
    let P : ℕ → Type 0 = λ n. digit_value n < 16 in
    digits_more 16 ds i high each (subst P byte small)

pub whole_word : (ds : List ℕ) (i n : ℕ) → length ds ≡ 8 → length ds ≤ i → AllDigits 16 (take i ds) → n ≡ digits_value 16 (take i ds)
    → IsHexWord ds × (n ≡ digits_value 16 ds) × (n < 2 ^ 32)
whole_word ds i n eight all each is =
    let same : take i ds ≡ ds = take_all i ds all in
    let every : AllDigits 16 ds = subst (AllDigits 16) same each in
    let value : n ≡ digits_value 16 ds = is ∙ ap (digits_value 16) same in
    let lt = digits_value-lt 16 ds every in
    let here : digits_value 16 ds < 16 ^ 8 = subst (λ k. digits_value 16 ds < 16 ^ k) eight lt in
    (record { eight = eight; each = every }, value, omega arith)
