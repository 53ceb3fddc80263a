-- What operators give of multiples of 2 ^ n, for n at most 3.
use Rattle.std.proofs.Common.{◌≡◌, ℕ, zero, suc, ◌+◌, ◌-◌, ◌*◌, ◌/◌, ◌%◌, ◌^◌, ◌<◌, ◌≤◌, refl, sym, ◌∙◌, ap, inl, inr, arith, Bool, true, false, cond}
use Rattle.std.specs.Prelude.{◌==◌, bit_and, bit_or, bit_xor}
use Rattle.std.proofs.lemmas.Bool.Decides.{eqb_tells}
use Rattle.std.proofs.lemmas.Nat.{pow_pos, pow-add, shr_split, mod-pow-add, mod-mul-add, mod_below, and_mod, or_mod, xor_mod, and_le_l, and_le_r, and_mask}
use Rattle.std.proofs.Math.Nat.{mod-eq_of_lt}
use Rattle.graph_meaning.specs.Multiples.{low_zeros, low_ones}
use Rattle.graph_meaning.proofs.Shown.{ones_few}

-- the number is a multiple of 2 ^ n
abbrev pub IsTimes : ℕ → ℕ → Type 0
IsTimes n v = v % 2 ^ n ≡ 0

-- a number at most 3 is one of four
abbrev pub Four : (ℕ → Type 0) → Type 0
Four P = P 0 × P 1 × P 2 × P 3

pub four : (P : ℕ → Type 0) → Four P → (n : ℕ) → n ≤ 3 → P n
four P h zero l = h.0
four P h (suc zero) l = h.1
four P h (suc (suc zero)) l = h.2
four P h (suc (suc (suc zero))) l = h.3
four P h (suc (suc (suc (suc n)))) l = absurd (omega arith)

-- ---- products

quotient : (v n : ℕ) → IsTimes n v → v ≡ v / 2 ^ n * 2 ^ n
quotient v n h = let s = shr_split v n in omega arith

pub times_of : (k n : ℕ) → IsTimes n (k * 2 ^ n)
times_of k n =
    (let z : k * 2 ^ n ≡ k * 2 ^ n + 0 = omega arith in ap (λ x. x % 2 ^ n) z) ∙ mod-mul-add k (2 ^ n) 0 (pow_pos n)

pub lower : (v a c : ℕ) → c ≤ a → IsTimes a v → IsTimes c v
lower v a c l h =
    let e : a ≡ a - c + c = omega arith in
    let s : v % 2 ^ a ≡ (v / 2 ^ c % 2 ^ (a - c)) * 2 ^ c + v % 2 ^ c = ap (λ k. v % 2 ^ k) e
    ∙ mod-pow-add v (a - c) c in
    let z : v % 2 ^ a ≡ 0 = h in
    omega arith

swap : (p q r s : ℕ) → p * q * (r * s) ≡ p * r * (q * s)
swap p q r s = grind arith

pub product : (v w a b : ℕ) → IsTimes a v → IsTimes b w → IsTimes (a + b) (v * w)
product v w a b h g =
    let x = quotient v a h in
    let y = quotient w b g in
    let e : v * w ≡ v / 2 ^ a * (w / 2 ^ b) * 2 ^ (a + b) =
    ap (λ k. k * w) x ∙ ap (λ k. v / 2 ^ a * 2 ^ a * k) y
    ∙ swap (v / 2 ^ a) (2 ^ a) (w / 2 ^ b) (2 ^ b) ∙ ap (λ k. v / 2 ^ a * (w / 2 ^ b) * k) (sym (pow-add 2 a b)) in
    ap (λ k. k % 2 ^ (a + b)) e ∙ times_of (v / 2 ^ a * (w / 2 ^ b)) (a + b)

-- ---- sums and differences, modulo 2 ^ 64

as_word_four : (v : ℕ) → Four (λ n. IsTimes n v → IsTimes n (v % 2 ^ 64))
as_word_four v = (λ h. omega arith, λ h. omega arith, λ h. omega arith, λ h. omega arith)

pub word_times : (n v : ℕ) → n ≤ 3 → IsTimes n v → IsTimes n (v % 2 ^ 64)
word_times n v l h = four (λ k. IsTimes k v → IsTimes k (v % 2 ^ 64)) (as_word_four v) n l h

sum_four : (v w : ℕ) → Four (λ n. IsTimes n v → IsTimes n w → IsTimes n (v + w))
sum_four v w = (λ h g. omega arith, λ h g. omega arith, λ h g. omega arith, λ h g. omega arith)

pub sum_times : (n v w : ℕ) → n ≤ 3 → IsTimes n v → IsTimes n w → IsTimes n (v + w)
sum_times n v w l h g = four (λ k. IsTimes k v → IsTimes k w → IsTimes k (v + w)) (sum_four v w) n l h g

negative_four : (v : ℕ) → Four (λ n. IsTimes n v → IsTimes n (2 ^ 64 - v))
negative_four v = (λ h. omega arith, λ h. omega arith, λ h. omega arith, λ h. omega arith)

pub negative_times : (n v : ℕ) → n ≤ 3 → IsTimes n v → IsTimes n (2 ^ 64 - v)
negative_times n v l h = four (λ k. IsTimes k v → IsTimes k (2 ^ 64 - v)) (negative_four v) n l h

-- ---- bit by bit

pub and_left : (n v w : ℕ) → IsTimes n v → IsTimes n (bit_and v w)
and_left n v w h =
    let a = and_mod v w n in
    let b = and_le_l (v % 2 ^ n) (w % 2 ^ n) in
    let z : v % 2 ^ n ≡ 0 = h in
    omega arith

pub and_right : (n v w : ℕ) → IsTimes n w → IsTimes n (bit_and v w)
and_right n v w h =
    let a = and_mod v w n in
    let b = and_le_r (v % 2 ^ n) (w % 2 ^ n) in
    let z : w % 2 ^ n ≡ 0 = h in
    omega arith

pub or_times : (n v w : ℕ) → IsTimes n v → IsTimes n w → IsTimes n (bit_or v w)
or_times n v w h g = or_mod v w n ∙ ap (λ x. bit_or x (w % 2 ^ n)) h ∙ ap (λ y. bit_or 0 y) g

pub xor_times : (n v w : ℕ) → IsTimes n v → IsTimes n w → IsTimes n (bit_xor v w)
xor_times n v w h g = xor_mod v w n ∙ ap (λ x. bit_xor x (w % 2 ^ n)) h ∙ ap (λ y. bit_xor 0 y) g

-- ---- the low bits of a number

divides : (w m n : ℕ) → (b : Bool) → (w % m == 0) ≡ b → (w % m ≡ 0 → IsTimes n w) → (k : ℕ) → IsTimes k w
    → IsTimes (cond b n k) w
divides w m n true t h k g = h (elim (eqb_tells (w % m) 0) [ inl e ↦ e.1 | inr e ↦ absurd (let f = sym e.0 ∙ t in cc) ])
divides w m n false t h k g = g

pub zeros_times : (w : ℕ) → IsTimes (low_zeros w) w
zeros_times w =
    divides w 8 3 (w % 8 == 0) refl (λ h. h) (cond (w % 4 == 0) 2 (cond (w % 2 == 0) 1 0))
    (divides w 4 2 (w % 4 == 0) refl (λ h. h) (cond (w % 2 == 0) 1 0)
    (divides w 2 1 (w % 2 == 0) refl (λ h. h) 0 (omega arith)))

-- the word with each bit changed has zeros where k has ones
pub inverted_times : (k : ℕ) → IsTimes (low_ones k) (2 ^ 64 - 1 - k)
inverted_times k =
    let e : 2 ^ 64 - 1 - k ≡ 2 ^ 64 - (k + 1) = omega arith in
    ap (λ x. x % 2 ^ low_ones k) e ∙ negative_times (low_ones k) (k + 1) (ones_few k) (zeros_times (k + 1))

ones_four : (k : ℕ) → Four (λ n. IsTimes n (k + 1) → k % 2 ^ n ≡ 2 ^ n - 1)
ones_four k = (λ h. omega arith, λ h. omega arith, λ h. omega arith, λ h. omega arith)

ones_are : (k : ℕ) → k % 2 ^ low_ones k ≡ 2 ^ low_ones k - 1
ones_are k = four (λ n. IsTimes n (k + 1) → k % 2 ^ n ≡ 2 ^ n - 1) (ones_four k) (low_ones k) (ones_few k)
    (zeros_times (k + 1))

-- a mask that leaves nothing
pub masked_times : (v k : ℕ) → bit_and v k ≡ 0 → IsTimes (low_ones k) v
masked_times v k h =
    let n = low_ones k in
    let a : bit_and v k % 2 ^ n ≡ bit_and (v % 2 ^ n) (2 ^ n - 1) =
    and_mod v k n ∙ ap (λ m. bit_and (v % 2 ^ n) m) (ones_are k) in
    let b : bit_and (v % 2 ^ n) (2 ^ n - 1) ≡ v % 2 ^ n % 2 ^ n = and_mask (v % 2 ^ n) n in
    let c : v % 2 ^ n < 2 ^ n = mod_below v (2 ^ n) (pow_pos n) in
    let d : bit_and v k % 2 ^ n ≡ 0 = ap (λ x. x % 2 ^ n) h ∙ zero_mod (2 ^ n) (pow_pos n) in
    let e : v % 2 ^ n % 2 ^ n ≡ v % 2 ^ n = mod-eq_of_lt c in
    omega arith
  where
    zero_mod : (m : ℕ) → 0 < m → 0 % m ≡ 0
    zero_mod m h = omega arith
