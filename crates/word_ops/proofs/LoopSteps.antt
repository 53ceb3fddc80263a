-- The steps of the loops that build a word bit by bit or byte by byte, and the two branches of `sra`.
use Rattle.std.proofs.Common.{◌≡◌, ℕ, ◌+◌, ◌-◌, ◌*◌, ◌/◌, ◌%◌, ◌^◌, ◌<◌, ◌≤◌, ◌≢◌, min, max, Bool, true, false, cond, nat_lt, nat_le, ◌&&◌, sym, ap, ◌∙◌, subst, arith, ◌⊎◌, ⊎_elim, bit_or}
use Rattle.std.specs.Int.{bit_at, w64}
use Rattle.std.proofs.lemmas.Bool.{cases_lt}
use Rattle.std.proofs.lemmas.Bool.Decides.{nat_tests}
use Rattle.std.proofs.lemmas.Nat.{shr_le, one_shl}
use Rattle.std.proofs.lemmas.Nat.Bits.{bit_at-lt, bit_at_above, bit_at_or, bit_at_not, bit_at_ones, bit_at_ones_above, bit_at-pow_same, bit_at-pow_other}
use Rattle.word_ops.specs.Values.{sra, byte, flag, byte_mask, cmpbge}
use Rattle.word_ops.proofs.WordBits.{same_word, word_of-lt, bit_at_word_of, bit_at_mod_low, bit_at_shr, bit_at_shl_low, bit_at_shl_high}
use Rattle.word_ops.proofs.OperatorBits.{sra-lt, bit_at_sra, byte_mask-lt, bit_at_byte_mask}

-- 255 << 8 * i
pub bit_at_byte_ones_in : (i j : ℕ) → j < 64 → j / 8 ≡ i → bit_at (255 * 2 ^ (8 * i) % 2 ^ 64) j ≡ 1
bit_at_byte_ones_in i j h e =
    bit_at_mod_low (255 * 2 ^ (8 * i)) 64 j h ∙ bit_at_shl_high 255 (8 * i) j (omega arith) ∙ bit_at_ones 8 (j - 8 * i) (omega arith)

pub bit_at_byte_ones_out : (i j : ℕ) → j < 64 → j / 8 ≢ i → bit_at (255 * 2 ^ (8 * i) % 2 ^ 64) j ≡ 0
bit_at_byte_ones_out i j h e =
    bit_at_mod_low (255 * 2 ^ (8 * i)) 64 j h
    ∙ ⊎_elim (λ l. bit_at_shl_low 255 (8 * i) j l) (λ l. bit_at_shl_high 255 (8 * i) j l ∙ bit_at_ones_above 8 (j - 8 * i) (omega arith)) (cases_lt j (8 * i))

-- the bytes below i of `byte_mask mask`
abbrev pub IsMaskBelow : ℕ → ℕ → ℕ → Type 0
IsMaskBelow mask i kept = (j : ℕ) → j < 64 → bit_at kept j ≡ cond (nat_lt (j / 8) i) (bit_at mask (j / 8)) 0

pub mask_set : (mask i kept : ℕ) → IsMaskBelow mask i kept → mask / 2 ^ i % 2 ≡ 1 → IsMaskBelow mask (i + 1) (bit_or kept (255 * 2 ^ (8 * i) % 2 ^ 64))
mask_set mask i kept inv s j h =
    bit_at_or kept _ j ∙ ⊎_elim
    (λ (e : j / 8 ≡ i). ap (max (bit_at kept j)) (bit_at_byte_ones_in i j h e) ∙ at_place j e (bit_at-lt kept j))
    (λ (e : j / 8 ≢ i). ap (max (bit_at kept j)) (bit_at_byte_ones_out i j h e) ∙ grind (arith, nat_tests, inv j h))
    (same_or_not (j / 8) i)
  where
    same_or_not : (a b : ℕ) → (a ≡ b) ⊎ (a ≢ b)
    same_or_not a b = grind arith

    at_place : (j : ℕ) → j / 8 ≡ i → bit_at kept j < 2 → max (bit_at kept j) 1 ≡ cond (nat_lt (j / 8) (i + 1)) (bit_at mask (j / 8)) 0
    at_place j e l = let b : bit_at mask (j / 8) ≡ 1 = ap (bit_at mask) e ∙ s in grind (arith, nat_tests, b)

pub mask_clear : (mask i kept : ℕ) → IsMaskBelow mask i kept → mask / 2 ^ i % 2 ≢ 1 → IsMaskBelow mask (i + 1) kept
mask_clear mask i kept inv s j h = inv j h ∙ ⊎_elim (λ (e : j / 8 ≡ i). place j e) (λ (e : j / 8 ≢ i). grind (arith, nat_tests)) (same_or_not (j / 8) i)
  where
    same_or_not : (a b : ℕ) → (a ≡ b) ⊎ (a ≢ b)
    same_or_not a b = grind arith

    place : (j : ℕ) → j / 8 ≡ i → cond (nat_lt (j / 8) i) (bit_at mask (j / 8)) 0 ≡ cond (nat_lt (j / 8) (i + 1)) (bit_at mask (j / 8)) 0
    place j e = let b : bit_at mask (j / 8) ≡ 0 = ap (bit_at mask) e ∙ omega (arith, s, bit_at-lt mask i) in grind (arith, nat_tests, b)

pub mask_whole : (mask i kept : ℕ) → IsMaskBelow mask i kept → 8 ≤ i → kept < 2 ^ 64 → kept ≡ byte_mask mask
mask_whole mask i kept inv l f = same_word _ _ f (byte_mask-lt mask) (λ j h. inv j h ∙ (grind (arith, nat_tests)) ∙ sym (bit_at_byte_mask mask j h))

-- the two branches of `sra`
pub sra_low : (a b : ℕ) → a < 2 ^ 63 → a / 2 ^ (b % 64) ≡ sra a b
sra_low a b l = same_word _ _ (omega (arith, shr_le a (b % 64))) (sra-lt a b) (λ i h.
    bit_at_shr a (b % 64) i ∙ ⊎_elim
    (λ t. ap (bit_at a) (omega arith))
    (λ t. bit_at_above a 63 (b % 64 + i) l t ∙ sym (ap (bit_at a) (let m : min (i + b % 64) 63 ≡ 63 = omega arith in m) ∙ bit_at_above a 63 63 l (omega arith)))
    (cases_lt (b % 64 + i) 63)
    ∙ sym (bit_at_sra a b i h))

pub sra_high : (a b : ℕ) → 2 ^ 63 ≤ a → a < 2 ^ 64 → 2 ^ 64 - 1 - (2 ^ 64 - 1 - a) / 2 ^ (b % 64) ≡ sra a b
sra_high a b l f = same_word _ _ (omega arith) (sra-lt a b) (λ i h.
    bit_at_not w64 ((2 ^ 64 - 1 - a) / 2 ^ (b % 64)) i (omega (arith, shr_le (2 ^ 64 - 1 - a) (b % 64))) h
    ∙ ap (λ d. 1 - d) (bit_at_shr (2 ^ 64 - 1 - a) (b % 64) i)
    ∙ ⊎_elim
    (λ (t : b % 64 + i < 64). ap (λ d. 1 - d) (bit_at_not w64 a (b % 64 + i) f t) ∙ twice (bit_at-lt a (b % 64 + i)) ∙ ap (bit_at a) (omega arith))
    (λ t. ap (λ d. 1 - d) (bit_at_above (2 ^ 64 - 1 - a) 64 (b % 64 + i) (omega arith) t) ∙ sym (ap (bit_at a) (let m : min (i + b % 64) 63 ≡ 63 = omega arith in m) ∙ top))
    (cases_lt (b % 64 + i) 64)
    ∙ sym (bit_at_sra a b i h))
  where
    twice : {d : ℕ} → d < 2 → 1 - (1 - d) ≡ d
    twice h = omega arith

    top : bit_at a 63 ≡ 1
    top = omega arith

-- the bits below i of `cmpbge a b`
abbrev pub AreBitsBelow : ℕ → ℕ → ℕ → ℕ → Type 0
AreBitsBelow a b i bits = (j : ℕ) → j < 64 → bit_at bits j ≡ flag (nat_lt j i && nat_le (byte b j) (byte a j))

bit_at_one_in : (i : ℕ) → i < 64 → bit_at (1 * 2 ^ i % 2 ^ 64) i ≡ 1
bit_at_one_in i h = ap (λ n. bit_at n i) (one_shl i 64 h) ∙ bit_at-pow_same i

bit_at_one_out : (i j : ℕ) → i < 64 → j ≢ i → bit_at (1 * 2 ^ i % 2 ^ 64) j ≡ 0
bit_at_one_out i j h e = ap (λ n. bit_at n j) (one_shl i 64 h) ∙ bit_at-pow_other i j e

pub bits_set : (a b i bits : ℕ) → i < 8 → AreBitsBelow a b i bits → byte b i ≤ byte a i → AreBitsBelow a b (i + 1) (bit_or bits (1 * 2 ^ i % 2 ^ 64))
bits_set a b i bits w inv s j h =
    bit_at_or bits _ j ∙ ⊎_elim
    (λ (e : j ≡ i). ap (max (bit_at bits j)) (ap (bit_at (1 * 2 ^ i % 2 ^ 64)) e ∙ bit_at_one_in i (omega arith)) ∙ at_place j e (bit_at-lt bits j))
    (λ (e : j ≢ i). ap (max (bit_at bits j)) (bit_at_one_out i j (omega arith) e) ∙ other j e (inv j h))
    (same_or_not j i)
  where
    same_or_not : (a b : ℕ) → (a ≡ b) ⊎ (a ≢ b)
    same_or_not a b = grind arith

    at_place : (j : ℕ) → j ≡ i → bit_at bits j < 2 → max (bit_at bits j) 1 ≡ flag (nat_lt j (i + 1) && nat_le (byte b j) (byte a j))
    at_place j e l = let t : byte b j ≤ byte a j = subst (λ (k : ℕ). byte b k ≤ byte a k) (sym e) s in grind (arith, nat_tests, t)

    other : (j : ℕ) → j ≢ i → bit_at bits j ≡ flag (nat_lt j i && nat_le (byte b j) (byte a j)) → max (bit_at bits j) 0 ≡ flag (nat_lt j (i + 1) && nat_le (byte b j) (byte a j))
    other j e l = grind (arith, nat_tests)

pub bits_clear : (a b i bits : ℕ) → AreBitsBelow a b i bits → byte a i < byte b i → AreBitsBelow a b (i + 1) bits
bits_clear a b i bits inv s j h = inv j h ∙ ⊎_elim (λ (e : j ≡ i). place j e) (λ (e : j ≢ i). grind (arith, nat_tests)) (same_or_not j i)
  where
    same_or_not : (a b : ℕ) → (a ≡ b) ⊎ (a ≢ b)
    same_or_not a b = grind arith

    place : (j : ℕ) → j ≡ i → flag (nat_lt j i && nat_le (byte b j) (byte a j)) ≡ flag (nat_lt j (i + 1) && nat_le (byte b j) (byte a j))
    place j e = let t : byte a j < byte b j = subst (λ (k : ℕ). byte a k < byte b k) (sym e) s in grind (arith, nat_tests, t)

pub bits_whole : (a b i bits : ℕ) → AreBitsBelow a b i bits → i ≡ 8 → bits < 2 ^ 64 → bits ≡ cmpbge a b
unfolding cmpbge
bits_whole a b i bits inv l f = same_word _ _ f (word_of-lt _) (λ j h. inv j h ∙ ap (λ (n : ℕ). flag (nat_lt j n && nat_le (byte b j) (byte a j))) l ∙ sym (bit_at_word_of _ j h (one_or_zero _)))
  where
    one_or_zero : (t : Bool) → flag t < 2
    one_or_zero true = omega arith
    one_or_zero false = omega arith
