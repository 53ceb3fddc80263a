-- A number as an odd one times a power of two, and a word as an odd signed word times one: how it is found, and that
-- there is one way at most.
use Rattle.std.proofs.Common.{◌≡◌, ℕ, ◌+◌, ◌-◌, ◌*◌, ◌/◌, ◌%◌, ◌^◌, ◌<◌, min, sym, ap, ◌∙◌, arith, ⊎_elim}
use Rattle.std.specs.Int.{bit_at}
use Rattle.std.proofs.lemmas.Bool.{cases_lt, cases_order}
use Rattle.std.proofs.lemmas.Nat.{pow_pos, pow-add}
use Rattle.std.proofs.lemmas.Nat.Bits.{same_from_bits, bit_at_lowest, bit_at-zero}
use Rattle.std.proofs.Math.Nat.{mul-div_cancel}
use Rattle.word_ops.specs.Words.{IsWord}
use Rattle.word_ops.specs.Values.{sll, sra}
use Rattle.word_ops.proofs.WordBits.{same_word, bit_at_shr, bit_at_shl_low, bit_at_shl_high}
use Rattle.word_ops.proofs.OperatorBits.{bit_at_sll_low, bit_at_sll_high, bit_at_sra, sll-lt}
use Rattle.axiom_base.specs.Conditions.{IsSignedOddTimesPower}

-- ---- at most one way

-- the power's bit is the lowest 1
lowest : (n e f : ℕ) → n ≡ e * 2 ^ f → e % 2 ≡ 1 → bit_at n f ≡ 1
lowest n e f h odd =
    ap (λ m. bit_at m f) h ∙ bit_at_shl_high e f f (omega arith) ∙ (let z : f - f ≡ 0 = omega arith in ap (bit_at e) z) ∙ bit_at_lowest e ∙ odd

pub below : (n e f i : ℕ) → n ≡ e * 2 ^ f → i < f → bit_at n i ≡ 0
below n e f i h l = ap (λ m. bit_at m i) h ∙ bit_at_shl_low e f i l

pub one_power : (n e f d g : ℕ) → n ≡ e * 2 ^ f → e % 2 ≡ 1 → n ≡ d * 2 ^ g → d % 2 ≡ 1 → f ≡ g
one_power n e f d g h odd k also = ⊎_elim
    (λ m. m)
    (λ m. ⊎_elim
    (λ l. absurd (omega (arith, lowest n e f h odd, below n d g f k l)))
    (λ l. absurd (omega (arith, lowest n d g k also, below n e f g h l)))
    m)
    (cases_order f g)

pub one_factor : (n e f d g : ℕ) → n ≡ e * 2 ^ f → n ≡ d * 2 ^ g → f ≡ g → e ≡ d
one_factor n e f d g h k s =
    sym (mul-div_cancel e (pow_pos f)) ∙ ap (λ m. m / 2 ^ f) (sym h ∙ k ∙ ap (λ m. d * 2 ^ m) (sym s)) ∙ mul-div_cancel d (pow_pos f)

signed_lowest : (c e f : ℕ) → IsSignedOddTimesPower c e f → bit_at c f ≡ 1
signed_lowest c e f h =
    ap (λ m. bit_at m f) h.1 ∙ bit_at_sll_high e f f h.0 (omega (arith, h.0))
    ∙ (let z : f - f % 64 ≡ 0 = omega (arith, h.0) in ap (bit_at e) z) ∙ bit_at_lowest e ∙ h.3

signed_below : (c e f i : ℕ) → IsSignedOddTimesPower c e f → i < f → bit_at c i ≡ 0
signed_below c e f i h l = ap (λ m. bit_at m i) h.1 ∙ bit_at_sll_low e f i (omega (arith, h.0)) (omega (arith, h.0))

pub one_signed_power : (c e f d g : ℕ) → IsSignedOddTimesPower c e f → IsSignedOddTimesPower c d g → f ≡ g
one_signed_power c e f d g h k = ⊎_elim
    (λ m. m)
    (λ m. ⊎_elim
    (λ l. absurd (omega (arith, signed_lowest c e f h, signed_below c d g f k l)))
    (λ l. absurd (omega (arith, signed_lowest c d g k, signed_below c e f g h l)))
    m)
    (cases_order f g)

pub one_signed_factor : (c e f d g : ℕ) → IsSignedOddTimesPower c e f → IsSignedOddTimesPower c d g → e ≡ d
one_signed_factor c e f d g h k = h.2 ∙ ap (sra c) (one_signed_power c e f d g h k) ∙ sym k.2

pub never_0 : (e f : ℕ) → IsSignedOddTimesPower 0 e f → ⊥
never_0 e f h = absurd (omega (arith, signed_lowest 0 e f h, bit_at-zero f))

-- ---- found by the lowest 1

-- the bits below z are 0
module _ (n z : ℕ) (zeros : (i : ℕ) → i < z → bit_at n i ≡ 0) where
  pub is_shifted : n ≡ n / 2 ^ z * 2 ^ z
  is_shifted = same_from_bits _ _ (λ i. ⊎_elim
      (λ l. zeros i l ∙ sym (bit_at_shl_low (n / 2 ^ z) z i l))
      (λ l. (let p : i ≡ z + (i - z) = omega arith in ap (bit_at n) p) ∙ sym (bit_at_shl_high (n / 2 ^ z) z i l ∙ bit_at_shr n z (i - z)))
      (cases_lt i z))

  pub is_doubled : 2 * n ≡ n / 2 ^ z * 2 ^ (z + 1)
  is_doubled = (let p : 2 ^ (z + 1) ≡ 2 ^ z * 2 = pow-add 2 z 1 in ap (λ m. 2 * m) is_shifted ∙ omega arith ∙ ap (λ m. n / 2 ^ z * m) (sym p))

  module _ (w : IsWord n) (l : z < 64) (one : bit_at n z ≡ 1) where
    pub is_signed : IsSignedOddTimesPower n (sra n z) z
    is_signed = (l, same, λ i. sra n z, odd)
      where
        same : n ≡ sll (sra n z) z
        same = same_word _ _ w (sll-lt _ z) (λ i m. ⊎_elim
            (λ k. zeros i k ∙ sym (bit_at_sll_low (sra n z) z i m (omega (arith, k, l))))
            (λ k. sym (bit_at_sll_high (sra n z) z i m (omega (arith, k, l)) ∙ bit_at_sra n z (i - z % 64) (omega (arith, m)) ∙ (let p : min (i - z % 64 + z % 64) 63 ≡ i = omega (arith, k, l, m) in ap (bit_at n) p)))
            (cases_lt i z))

        odd : sra n z % 2 ≡ 1
        odd = sym (bit_at_lowest (sra n z)) ∙ bit_at_sra n z 0 (omega arith) ∙ (let p : min (0 + z % 64) 63 ≡ z = omega (arith, l) in ap (bit_at n) p) ∙ one
