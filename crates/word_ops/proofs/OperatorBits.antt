-- What each operator gives at each bit, and that it gives a word.
use Rattle.std.proofs.Common.{◌≡◌, ℕ, ◌+◌, ◌-◌, ◌*◌, ◌/◌, ◌%◌, ◌^◌, ◌<◌, ◌≤◌, ◌≢◌, min, max, sym, ap, ◌∙◌, arith, ◌⊎◌, ⊎_elim}
use Rattle.std.specs.Int.{bit_at, w64}
use Rattle.std.proofs.lemmas.Bool.{cases_lt}
use Rattle.std.proofs.lemmas.Bool.Decides.{nat_tests}
use Rattle.std.proofs.lemmas.Nat.{pow_pos, and_le_r, mod_below, shr_le}
use Rattle.std.proofs.lemmas.Nat.Bits.{bit_at-lt, bit_at_and, bit_at_or, bit_at_xor, bit_at_not, bit_at_ones, bit_at_cat_low, bit_at_cat_high, bit_at_ones_above}
use lib.Pow.{pow_mono, high_ones}
use Rattle.word_ops.specs.Values.{and, bis, xor, not, sign_extended, sll, srl, sra, byte_mask, zap, zapnot, storeb, width_mask}
use Rattle.word_ops.proofs.WordBits.{word_of-lt, bit_at_word_of, bit_at_mod_low, bit_at_mod_high, bit_at_shr, bit_at_shl_low, bit_at_shl_high}

-- bit i is bit i of a below the sign, and the sign from there on
pub bit_at_sign_extended : (j a i : ℕ) → j < 64 → i < 64 → bit_at (sign_extended (j + 1) a) i ≡ bit_at a (min i j)
unfolding sign_extended
bit_at_sign_extended j a i w h = ⊎_elim
    (λ z. (let e : sign_extended (j + 1) a ≡ a % 2 ^ (j + 1) = grind (arith, nat_tests, z) in ap (λ x. bit_at x i) e)
    ∙ ⊎_elim
    (λ l. bit_at_mod_low a (j + 1) i l ∙ ap (bit_at a) (omega arith))
    (λ l. bit_at_mod_high a (j + 1) i l ∙ sym (ap (bit_at a) (let m : min i j ≡ j = omega arith in m) ∙ z))
    (cases_lt i (j + 1)))
    (λ o. (let e : sign_extended (j + 1) a ≡ (2 ^ (63 - j) - 1) * 2 ^ (j + 1) + a % 2 ^ (j + 1) = grind (arith, nat_tests, o, split_mask j w) in ap (λ x. bit_at x i) e)
    ∙ ⊎_elim
    (λ l. bit_at_cat_low _ (j + 1) (a % 2 ^ (j + 1)) i l ∙ bit_at_mod_low a (j + 1) i l ∙ ap (bit_at a) (omega arith))
    (λ l. bit_at_cat_high _ (j + 1) (a % 2 ^ (j + 1)) i (mod_below a _ (pow_pos (j + 1))) l
    ∙ bit_at_ones (63 - j) (i - (j + 1)) (omega arith) ∙ sym (ap (bit_at a) (let m : min i j ≡ j = omega arith in m) ∙ o))
    (cases_lt i (j + 1)))
    (zero_or_one j a)
  where
    zero_or_one : (j a : ℕ) → (bit_at a j ≡ 0) ⊎ (bit_at a j ≡ 1)
    zero_or_one j a = grind (arith, bit_at-lt a j)

    split_mask : (j : ℕ) → j < 64 → 2 ^ 64 - 2 ^ (j + 1) ≡ (2 ^ (63 - j) - 1) * 2 ^ (j + 1)
    split_mask j w = (let e : 64 ≡ 63 - j + (j + 1) = omega arith in ap (λ n. 2 ^ n - 2 ^ (j + 1)) e) ∙ high_ones (63 - j) (j + 1)

pub bit_at_sll_low : (a b i : ℕ) → i < 64 → i < b % 64 → bit_at (sll a b) i ≡ 0
unfolding sll
bit_at_sll_low a b i h l = bit_at_mod_low (a * 2 ^ (b % 64)) 64 i h ∙ bit_at_shl_low a (b % 64) i l

pub bit_at_sll_high : (a b i : ℕ) → i < 64 → b % 64 ≤ i → bit_at (sll a b) i ≡ bit_at a (i - b % 64)
unfolding sll
bit_at_sll_high a b i h l = bit_at_mod_low (a * 2 ^ (b % 64)) 64 i h ∙ bit_at_shl_high a (b % 64) i l

pub bit_at_srl : (a b i : ℕ) → bit_at (srl a b) i ≡ bit_at a (b % 64 + i)
unfolding srl
bit_at_srl a b i = bit_at_shr a (b % 64) i

pub bit_at_sra : (a b i : ℕ) → i < 64 → bit_at (sra a b) i ≡ bit_at a (min (i + b % 64) 63)
unfolding sra
bit_at_sra a b i h = bit_at_word_of _ i h (bit_at-lt a (min (i + b % 64) 63))

pub bit_at_byte_mask : (m i : ℕ) → i < 64 → bit_at (byte_mask m) i ≡ bit_at m (i / 8)
unfolding byte_mask
bit_at_byte_mask m i h = bit_at_word_of _ i h (bit_at-lt m (i / 8))

pub byte_mask-lt : (m : ℕ) → byte_mask m < 2 ^ 64
unfolding byte_mask
byte_mask-lt m = word_of-lt _

pub bit_at_zapnot : (a m i : ℕ) → i < 64 → bit_at (zapnot a m) i ≡ min (bit_at a i) (bit_at m (i / 8))
unfolding zapnot
bit_at_zapnot a m i h = bit_at_and a (byte_mask m) i ∙ ap (min (bit_at a i)) (bit_at_byte_mask m i h)

pub bit_at_zap : (a m i : ℕ) → i < 64 → bit_at (zap a m) i ≡ min (bit_at a i) (1 - bit_at m (i / 8))
unfolding zap
bit_at_zap a m i h =
    bit_at_and a (2 ^ 64 - 1 - byte_mask m) i
    ∙ ap (min (bit_at a i)) (bit_at_not w64 (byte_mask m) i (byte_mask-lt m) h ∙ ap (λ d. 1 - d) (bit_at_byte_mask m i h))

pub sll-lt : (a b : ℕ) → sll a b < 2 ^ 64
unfolding sll
sll-lt a b = mod_below (a * 2 ^ (b % 64)) (2 ^ 64) (pow_pos 64)

pub srl-lt : (a b : ℕ) → a < 2 ^ 64 → srl a b < 2 ^ 64
unfolding srl
srl-lt a b h = omega (arith, shr_le a (b % 64))

pub sra-lt : (a b : ℕ) → sra a b < 2 ^ 64
unfolding sra
sra-lt a b = word_of-lt _

pub zapnot-lt : (a b : ℕ) → zapnot a b < 2 ^ 64
unfolding zapnot
zapnot-lt a b = omega (arith, and_le_r a (byte_mask b), byte_mask-lt b)

pub zap-lt : (a b : ℕ) → zap a b < 2 ^ 64
unfolding zap
zap-lt a b = omega (arith, and_le_r a (2 ^ 64 - 1 - byte_mask b))

pub sign_extended-lt : (k a : ℕ) → k ≤ 64 → sign_extended k a < 2 ^ 64
unfolding sign_extended
sign_extended-lt k a h = grind (arith, nat_tests, mod_below a (2 ^ k) (pow_pos k), pow_mono {i = k} {j = 64} h)

pub storeb-lt : (x y z : ℕ) → storeb x y z < 2 ^ 64
unfolding storeb
storeb-lt x y z = word_of-lt _

pub bit_at_storeb_in : (x y z i : ℕ) → i < 64 → i / 8 ≡ y % 8 → bit_at (storeb x y z) i ≡ bit_at z (i % 8)
unfolding storeb
bit_at_storeb_in x y z i h e = bit_at_word_of _ i h (grind (arith, nat_tests, bit_at-lt z (i % 8), bit_at-lt x i)) ∙ grind (arith, nat_tests)

pub bit_at_storeb_out : (x y z i : ℕ) → i < 64 → i / 8 ≢ y % 8 → bit_at (storeb x y z) i ≡ bit_at x i
unfolding storeb
bit_at_storeb_out x y z i h e = bit_at_word_of _ i h (grind (arith, nat_tests, bit_at-lt z (i % 8), bit_at-lt x i)) ∙ grind (arith, nat_tests)

pub bit_at_and_op : (a b i : ℕ) → bit_at (and a b) i ≡ min (bit_at a i) (bit_at b i)
unfolding and
bit_at_and_op = bit_at_and

pub bit_at_bis : (a b i : ℕ) → bit_at (bis a b) i ≡ max (bit_at a i) (bit_at b i)
unfolding bis
bit_at_bis = bit_at_or

pub bit_at_xor_op : (a b i : ℕ) → bit_at (xor a b) i ≡ (bit_at a i + bit_at b i) % 2
unfolding xor
bit_at_xor_op = bit_at_xor

pub bit_at_not_op : (a i : ℕ) → a < 2 ^ 64 → i < 64 → bit_at (not a) i ≡ 1 - bit_at a i
unfolding not
bit_at_not_op = bit_at_not w64

-- the w bits from b's low three on
pub bit_at_width_mask_in : (w b j : ℕ) → b % 8 ≤ j → j < b % 8 + w → bit_at (width_mask w b) j ≡ 1
bit_at_width_mask_in w b j l h = bit_at_shl_high (2 ^ w - 1) (b % 8) j l ∙ bit_at_ones w (j - b % 8) (omega arith)

pub bit_at_width_mask_below : (w b j : ℕ) → j < b % 8 → bit_at (width_mask w b) j ≡ 0
bit_at_width_mask_below w b j l = bit_at_shl_low (2 ^ w - 1) (b % 8) j l

pub bit_at_width_mask_above : (w b j : ℕ) → b % 8 + w ≤ j → bit_at (width_mask w b) j ≡ 0
bit_at_width_mask_above w b j l = bit_at_shl_high (2 ^ w - 1) (b % 8) j (omega arith) ∙ bit_at_ones_above w (j - b % 8) (omega arith)
