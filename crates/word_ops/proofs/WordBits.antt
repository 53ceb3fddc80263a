-- The bits of `word_of f`, of a shift and of a remainder; two words with the same bits are equal.
use Rattle.std.proofs.Common.{◌≡◌, ℕ, zero, suc, ◌+◌, ◌-◌, ◌*◌, ◌/◌, ◌%◌, ◌^◌, ◌<◌, ◌≤◌, sym, ap, ◌∙◌, arith, ⊎_elim}
use Rattle.std.specs.Int.{bit_at}
use Rattle.std.proofs.lemmas.Bool.{cases_lt}
use Rattle.std.proofs.lemmas.Nat.{pow_pos, shr-shr, shr_split, mul-add-lt, mod_below}
use Rattle.std.proofs.lemmas.Nat.Bits.{bit_at_cat_low, bit_at_cat_high, bit_at_above, bit_at_lowest, same_from_bits_below, bit_at-zero}
use Rattle.std.proofs.Math.Nat.{pow-suc, mod-eq_of_lt}
use Rattle.word_ops.specs.Bits.{bits_below, word_of}

pub bits_below-lt : (k : ℕ) (f : ℕ → ℕ) → bits_below k f < 2 ^ k
unfolding bits_below
bits_below-lt zero f = omega arith
bits_below-lt (suc k) f =
    let d : f k % 2 < 2 = mod_below (f k) 2 (omega arith) in
    let m : f k % 2 * 2 ^ k + bits_below k f < 2 ^ k * 2 = mul-add-lt (f k % 2) (2 ^ k) (bits_below k f) 2 d (bits_below-lt k f) in
    omega (arith, pow-suc 2 k)

pub bit_at_bits_below : (k : ℕ) (f : ℕ → ℕ) (i : ℕ) → i < k → bit_at (bits_below k f) i ≡ f i % 2
unfolding bits_below
bit_at_bits_below zero f i h = absurd (omega arith)
bit_at_bits_below (suc k) f i h = ⊎_elim
    (λ l. bit_at_cat_low (f k % 2) k (bits_below k f) i l ∙ bit_at_bits_below k f i l)
    (λ l. let e : i ≡ k = omega arith in
    bit_at_cat_high (f k % 2) k (bits_below k f) i (bits_below-lt k f) l
    ∙ ap (λ j. bit_at (f k % 2) (j - k)) e
    ∙ (let z : k - k ≡ 0 = omega arith in ap (bit_at (f k % 2)) z)
    ∙ bit_at_lowest (f k % 2) ∙ (let t : f k % 2 % 2 ≡ f k % 2 = omega arith in t) ∙ ap (λ j. f j % 2) (sym e))
    (cases_lt i k)

pub word_of-lt : (f : ℕ → ℕ) → word_of f < 2 ^ 64
unfolding word_of
word_of-lt f = bits_below-lt 64 f

pub bit_at_word_of : (f : ℕ → ℕ) (i : ℕ) → i < 64 → f i < 2 → bit_at (word_of f) i ≡ f i
unfolding word_of
bit_at_word_of f i h b = bit_at_bits_below 64 f i h ∙ mod-eq_of_lt b

-- two words with the same bits are equal
pub same_word : (a b : ℕ) → a < 2 ^ 64 → b < 2 ^ 64 → ((i : ℕ) → i < 64 → bit_at a i ≡ bit_at b i) → a ≡ b
same_word = same_from_bits_below 64

-- the remainder modulo 2 ^ k keeps the bits below k
pub bit_at_mod_low : (a k i : ℕ) → i < k → bit_at (a % 2 ^ k) i ≡ bit_at a i
bit_at_mod_low a k i h = sym (bit_at_cat_low (a / 2 ^ k) k (a % 2 ^ k) i h) ∙ ap (λ x. bit_at x i) (shr_split a k)

pub bit_at_mod_high : (a k i : ℕ) → k ≤ i → bit_at (a % 2 ^ k) i ≡ 0
bit_at_mod_high a k i h = bit_at_above (a % 2 ^ k) k i (mod_below a (2 ^ k) (pow_pos k)) h

-- a shift to the right
pub bit_at_shr : (a k i : ℕ) → bit_at (a / 2 ^ k) i ≡ bit_at a (k + i)
bit_at_shr a k i = ap (λ x. x % 2) (shr-shr a k i)

-- a shift to the left
pub bit_at_shl_low : (a k i : ℕ) → i < k → bit_at (a * 2 ^ k) i ≡ 0
bit_at_shl_low a k i h =
    let e : a * 2 ^ k ≡ a * 2 ^ k + 0 = omega arith in
    ap (λ x. bit_at x i) e ∙ bit_at_cat_low a k 0 i h ∙ bit_at-zero i

pub bit_at_shl_high : (a k i : ℕ) → k ≤ i → bit_at (a * 2 ^ k) i ≡ bit_at a (i - k)
bit_at_shl_high a k i h =
    let e : a * 2 ^ k ≡ a * 2 ^ k + 0 = omega arith in
    ap (λ x. bit_at x i) e ∙ bit_at_cat_high a k 0 i (pow_pos k) h
