-- Digits one after another, and which bytes write a number.
use Rattle.std.proofs.Common.{◌≡◌, ◌≢◌, ℕ, zero, suc, ◌+◌, ◌*◌, ◌^◌, ◌≤◌, ◌<◌, List, [], ◌∷◌, ◌++◌, length, take, drop, get_or, refl, sym, ap, ◌∙◌, subst, arith, true, false, Some, None, Option, IfSome, IfNone, nat_eq}
use Rattle.std.proofs.lemmas.List.{take-append-drop}
use Rattle.std.proofs.Math.Nat.{mul-le-mul_left}
use Rattle.std.proofs.lemmas.Int.Digits.{digits_more, digits_value_more}
use Rattle.std.proofs.lemmas.Bool.{true≢false}
use Rattle.std.specs.Char.{digit_value}
use Rattle.std.specs.Cmp.Lexicographic.{pointwise}
use Rattle.std.specs.Str.Parse.{AllDigits, digits_value, digits_value_after}
use Rattle.text_core.specs.Numbers.{IsBelowLimit, IsNumber, decimal, hexadecimal}

digits_after_append : (base n : ℕ) (xs ys : List ℕ) → digits_value_after base n (xs ++ ys) ≡ digits_value_after base (digits_value_after base n xs) ys
digits_after_append base n [] ys = refl
digits_after_append base n (x ∷ xs) ys = digits_after_append base (n * base + digit_value x) xs ys

digits_after_ge : (base n : ℕ) (ds : List ℕ) → 1 ≤ base → n ≤ digits_value_after base n ds
digits_after_ge base n [] low = omega arith
digits_after_ge base n (d ∷ ds) low =
    let more : n * 1 ≤ n * base = mul-le-mul_left n low in
    omega (arith, digits_after_ge base (n * base + digit_value d) ds low)

-- a front of the digits has no greater value
front_le : (base : ℕ) (ds : List ℕ) (i : ℕ) → 1 ≤ base → digits_value base (take i ds) ≤ digits_value base ds
front_le base ds i low =
    let split : digits_value base ds ≡ digits_value_after base (digits_value base (take i ds)) (drop i ds) = ap (digits_value base) (sym (take-append-drop i ds)) ∙ digits_after_append base 0 (take i ds) (drop i ds) in
    omega (arith, split, digits_after_ge base (digits_value base (take i ds)) (drop i ds) low)

AllDigits-at : (base : ℕ) (ds : List ℕ) (i : ℕ) → AllDigits base ds → i < length ds → digit_value (get_or ds i 0) < base
AllDigits-at base [] i each high = absurd (omega arith)
AllDigits-at base (d ∷ ds) zero each high = each.0
AllDigits-at base (d ∷ ds) (suc i) each high = AllDigits-at base ds i each.1 (omega arith)

-- Why a loop over digits stops at one of them: `n` is the value so far, and `c` the byte there.
module _ (base : ℕ) (ds : List ℕ) (i n c : ℕ) (low : 2 ≤ base) (high : i < length ds) (is : n ≡ digits_value base (take i ds)) (byte : c ≡ get_or ds i 0) where
  next : digits_value base (take (i + 1) ds) ≡ n * base + digit_value c
  next = digits_value_more base ds i high ∙ (ap (λ m. m * base + digit_value (get_or ds i 0)) (sym is) ∙ ap (λ m. n * base + digit_value m) (sym byte))

  pub digit_stops : (digit_value c < base → ⊥) → IsBelowLimit base ds → ⊥
  digit_stops never below =
      let P : ℕ → Type 0 = λ m. digit_value m < base in
      never (subst P (sym byte) (AllDigits-at base ds i below.each high))

  pub sum_stops : (product digit : ℕ) → product ≡ n * base → digit ≡ digit_value c → (product + digit < 2 ^ 64 → ⊥) → IsBelowLimit base ds → ⊥
  sum_stops product digit is_product is_digit never below =
      let less = front_le base ds (i + 1) (omega arith) in
      never (omega (arith, next, below.limit))

  pub product_stops : (b : ℕ) → b ≡ base → (n * b < 2 ^ 64 → ⊥) → IsBelowLimit base ds → ⊥
  product_stops b same never below =
      sum_stops (n * b) (digit_value c) (ap (λ k. n * k) same) refl (λ less. never (omega arith)) below

  pub digit_more : (product digit m : ℕ) → IsBelowLimit base (take i ds) → product ≡ n * base → digit ≡ digit_value c → digit_value c < base → product + digit < 2 ^ 64 → m ≡ product + digit
      → IsBelowLimit base (take (i + 1) ds) × (m ≡ digits_value base (take (i + 1) ds))
  digit_more product digit m below is_product is_digit small fits sum =
      let P : ℕ → Type 0 = λ k. digit_value k < base in
      (record { each = digits_more base ds i high below.each (subst P byte small); limit = omega (arith, next) }, omega (arith, next))

no_decimal : (ds : List ℕ) → AllDigits 10 (48 ∷ 120 ∷ ds) → ⊥
no_decimal ds each = omega (arith, each.1.0)

pub no_decimal_marked : (bytes digits : List ℕ) → bytes ≡ 48 ∷ 120 ∷ digits → IsBelowLimit 10 bytes → ⊥
no_decimal_marked bytes digits is below = no_decimal digits (subst (AllDigits 10) is below.each)

-- what `0x` and digits write
pub hexadecimal_only : (digits : List ℕ) (n : ℕ) → IsNumber (48 ∷ 120 ∷ digits) n → (digits ≢ []) × (length digits ≤ 16) × IsBelowLimit 16 digits
hexadecimal_only digits n (decimal some below) = absurd (no_decimal digits below.each)
hexadecimal_only digits n (hexadecimal {digits = ds} is some short below) =
    let same : ds ≡ digits = cc in
    (λ none. some (same ∙ none), subst (λ (xs : List ℕ). length xs ≤ 16) same short, subst (IsBelowLimit 16) same below)

pub hexadecimal_is : (bytes digits : List ℕ) → bytes ≡ 48 ∷ 120 ∷ digits → digits ≢ [] → length digits ≤ 16 → (n : ℕ) → IsBelowLimit 16 digits → n ≡ digits_value 16 digits → IsNumber bytes n
hexadecimal_is bytes digits is some short n below value = subst (IsNumber bytes) (sym value) (hexadecimal is some short below)

pub decimal_is : (bytes : List ℕ) → 0 < length bytes → (n : ℕ) → IsBelowLimit 10 bytes → n ≡ digits_value 10 bytes → IsNumber bytes n
decimal_is bytes some n below value = subst (IsNumber bytes) (sym value) (decimal (λ none. omega (arith, ap length none)) below)

unmarked : (digits : List ℕ) → pointwise nat_eq (take 2 (48 ∷ 120 ∷ digits)) (48 ∷ 120 ∷ []) ≡ true
unmarked digits = refl

-- without the mark of a hexadecimal number there is a decimal one or none
pub decimal_only : (bytes : List ℕ) → pointwise nat_eq (take 2 bytes) (48 ∷ 120 ∷ []) ≡ false → (n : ℕ) → IsNumber bytes n → IsBelowLimit 10 bytes
decimal_only bytes never n (decimal some below) = below
decimal_only bytes never n (hexadecimal {digits = ds} is some short below) =
    absurd (true≢false (sym (ap (λ (xs : List ℕ). pointwise nat_eq (take 2 xs) (48 ∷ 120 ∷ [])) is ∙ unmarked ds) ∙ never))

pub some_weaker : {X : Type 0} (o : Option X) (P Q : X → Type 0) → ((x : X) → P x → Q x) → IfSome o P → IfSome o Q
some_weaker None P Q f h = h
some_weaker (Some x) P Q f h = f x h

pub none_weaker : {X P Q : Type 0} (o : Option X) → (P → Q) → IfNone o P → IfNone o Q
none_weaker None f h = f h
none_weaker (Some x) f h = h
