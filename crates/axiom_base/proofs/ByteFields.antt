-- Bytes of a word that are taken out or cleared, in the several ways in which operators do it. Each law is over the
-- number w of bytes.
use Rattle.std.proofs.Common.{◌≡◌, ℕ, ◌+◌, ◌-◌, ◌*◌, ◌/◌, ◌%◌, ◌^◌, ◌<◌, sym, ap, ◌∙◌, arith, bit_and, ⊎_elim}
use Rattle.std.specs.Int.{bit_at}
use Rattle.std.proofs.lemmas.Bool.{cases_lt}
use Rattle.std.proofs.lemmas.Nat.{and_mask}
use Rattle.std.proofs.lemmas.Nat.Bits.{bit_at-lt, bit_at_ones, bit_at_ones_above}
use Rattle.std.proofs.Math.Nat.{mod-le}
use Rattle.word_ops.specs.Words.{IsWord}
use Rattle.word_ops.specs.Values.{byte_mask, width_mask, inverted, and, srl, zap, zapnot, ext_low, msk_low}
use Rattle.word_ops.proofs.WordBits.{same_word, bit_at_mod_low, bit_at_mod_high}
use Rattle.word_ops.proofs.OperatorBits.{bit_at_zapnot, zapnot-lt, srl-lt}
use Rattle.axiom_base.specs.Conditions.{IsByteDistance, IsByteMask}
use Rattle.axiom_base.proofs.Logic.{and_is_associative, and_is_commutative}
use Rattle.axiom_base.proofs.ByteMasks.{and_is_zapnot}

-- a shift by bytes, the other bits cut off, takes the bytes
shifted_is_taken : (w x c e : ℕ) → IsByteDistance c e → srl x c % 2 ^ (8 * w) ≡ ext_low w x e
unfolding srl ext_low
shifted_is_taken w x c e h = let d : c % 64 ≡ 8 * (e % 8) = omega (arith, h.0, h.1) in ap (λ n. x / 2 ^ n % 2 ^ (8 * w)) d

and_is_rest : (y d : ℕ) (k : ℕ) → d ≡ 2 ^ k - 1 → and y d ≡ y % 2 ^ k
unfolding and
and_is_rest y d k h = ap (bit_and y) h ∙ and_mask y k

zapnot_is_rest : (w y d : ℕ) → IsWord y → d ≡ 2 ^ w - 1 → zapnot y d ≡ y % 2 ^ (8 * w)
zapnot_is_rest w y d f h =
    ap (zapnot y) h
    ∙ same_word _ _ (zapnot-lt y (2 ^ w - 1)) (omega (arith, f, mod-le y (2 ^ (8 * w)))) (λ i l. ⊎_elim
    (λ m. omega (arith, bit_at_zapnot y (2 ^ w - 1) i l, bit_at_mod_low y (8 * w) i m, bit_at_ones w (i / 8) (omega arith), bit_at-lt y i))
    (λ m. omega (arith, bit_at_zapnot y (2 ^ w - 1) i l, bit_at_mod_high y (8 * w) i m, bit_at_ones_above w (i / 8) (omega arith)))
    (cases_lt i (8 * w)))

pub field_by_and : (w x c d e : ℕ) → IsByteDistance c e → d ≡ 2 ^ (8 * w) - 1 → and (srl x c) d ≡ ext_low w x e
field_by_and w x c d e h k = and_is_rest (srl x c) d (8 * w) k ∙ shifted_is_taken w x c e h

pub field_by_zapnot : (w x c d e : ℕ) → IsWord x → IsByteDistance c e → d ≡ 2 ^ w - 1 → zapnot (srl x c) d ≡ ext_low w x e
field_by_zapnot w x c d e f h k = zapnot_is_rest w (srl x c) d (srl-lt x c f) k ∙ shifted_is_taken w x c e h

cleared_is_and : (w y d : ℕ) → msk_low w y d ≡ and y (inverted (byte_mask (width_mask w d)))
unfolding msk_low zap and
cleared_is_and w y d = λ i. bit_and y (inverted (byte_mask (width_mask w d)))

-- bytes cleared after `and`, or in its second operand before it
pub cleared_after_and : (w x c d e : ℕ) → e ≡ msk_low w c d → msk_low w (and x c) d ≡ and x e
cleared_after_and w x c d e h =
    cleared_is_and w (and x c) d
    ∙ and_is_associative x c (inverted (byte_mask (width_mask w d)))
    ∙ ap (and x) (sym (h ∙ cleared_is_and w c d))

-- ---- constants

pub mask_is_zapnot : ((mask i : ℕ) → i < 64 → bit_at (byte_mask mask) i ≡ bit_at mask (i / 8)) → (c e : ℕ) → IsWord c → IsByteMask c e → c ≡ zapnot (2 ^ 64 - 1) e
mask_is_zapnot bits c e f h =
    sym (and_is_commutative (2 ^ 64 - 1) c ∙ and_is_rest c (2 ^ 64 - 1) 64 (λ i. 2 ^ 64 - 1) ∙ omega (arith, f))
    ∙ and_is_zapnot bits (2 ^ 64 - 1) c e (omega arith) h

pub low_half_is_zapnot : (c e : ℕ) → c < 2 ^ 32 → e ≡ c + (2 ^ 64 - 2 ^ 32) → c ≡ zapnot e 15
low_half_is_zapnot c e l h = sym (zapnot_is_rest 4 e 15 (omega (arith, l, h)) (λ i. 15) ∙ omega (arith, l, h))
