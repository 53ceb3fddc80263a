-- A byte put into a word: the word with that byte cut out, joined with the byte in its place.
use Rattle.std.proofs.Common.{◌≡◌, ℕ, ◌-◌, ◌*◌, ◌/◌, ◌%◌, ◌^◌, ◌<◌, ◌≢◌, min, ◌⊎◌, sym, ap, ◌∙◌, arith, ⊎_elim}
use Rattle.std.specs.Int.{bit_at}
use Rattle.std.proofs.lemmas.Bool.{cases_lt}
use Rattle.std.proofs.lemmas.Nat.{or_lt}
use Rattle.std.proofs.lemmas.Nat.Bits.{bit_at-lt}
use Rattle.word_ops.specs.Values.{bis, width_mask, storeb, msk_low, ins_low}
use Rattle.word_ops.proofs.WordBits.{same_word, bit_at_mod_low, bit_at_shl_high}
use Rattle.word_ops.proofs.OperatorBits.{bit_at_storeb_in, bit_at_storeb_out, storeb-lt, bit_at_zap, bit_at_zapnot, zap-lt, zapnot-lt, bit_at_width_mask_in, bit_at_width_mask_below, bit_at_width_mask_above, bit_at_bis}

same_or_not : (a b : ℕ) → (a ≡ b) ⊎ (a ≢ b)
same_or_not a b = grind arith

-- the bits of `msk_low 1` and `ins_low 1`, inside the byte and outside it
pub bit_at_mskbl_in : (x y i : ℕ) → i < 64 → i / 8 ≡ y % 8 → bit_at (msk_low 1 x y) i ≡ 0
unfolding msk_low
bit_at_mskbl_in x y i h e = bit_at_zap x (width_mask 1 y) i h ∙ omega (arith, bit_at_width_mask_in 1 y (i / 8) (omega arith) (omega arith), bit_at-lt x i)

pub bit_at_mskbl_out : (x y i : ℕ) → i < 64 → i / 8 ≢ y % 8 → bit_at (msk_low 1 x y) i ≡ bit_at x i
unfolding msk_low
bit_at_mskbl_out x y i h e = bit_at_zap x (width_mask 1 y) i h ∙ omega (arith, out, bit_at-lt x i)
  where
    out : bit_at (width_mask 1 y) (i / 8) ≡ 0
    out = ⊎_elim (λ l. bit_at_width_mask_below 1 y (i / 8) l) (λ l. bit_at_width_mask_above 1 y (i / 8) (omega arith)) (cases_lt (i / 8) (y % 8))

pub bit_at_insbl_in : (z y i : ℕ) → i < 64 → i / 8 ≡ y % 8 → bit_at (ins_low 1 z y) i ≡ bit_at z (i % 8)
unfolding ins_low
bit_at_insbl_in z y i h e =
    bit_at_zapnot _ (width_mask 1 y) i h
    ∙ ap (λ d. min d (bit_at (width_mask 1 y) (i / 8))) (bit_at_mod_low (z * 2 ^ (8 * (y % 8))) 64 i h ∙ bit_at_shl_high z (8 * (y % 8)) i (omega arith) ∙ (let m : i - 8 * (y % 8) ≡ i % 8 = omega arith in ap (bit_at z) m))
    ∙ omega (arith, bit_at_width_mask_in 1 y (i / 8) (omega arith) (omega arith), bit_at-lt z (i % 8))

pub bit_at_insbl_out : (z y i : ℕ) → i < 64 → i / 8 ≢ y % 8 → bit_at (ins_low 1 z y) i ≡ 0
unfolding ins_low
bit_at_insbl_out z y i h e = bit_at_zapnot _ (width_mask 1 y) i h ∙ omega (arith, out)
  where
    out : bit_at (width_mask 1 y) (i / 8) ≡ 0
    out = ⊎_elim (λ l. bit_at_width_mask_below 1 y (i / 8) l) (λ l. bit_at_width_mask_above 1 y (i / 8) (omega arith)) (cases_lt (i / 8) (y % 8))

pub bis-lt : (a b : ℕ) → a < 2 ^ 64 → b < 2 ^ 64 → bis a b < 2 ^ 64
unfolding bis
bis-lt = or_lt 64

pub msk_low-lt : (w x y : ℕ) → msk_low w x y < 2 ^ 64
unfolding msk_low
msk_low-lt w x y = zap-lt x _

pub ins_low-lt : (w x y : ℕ) → ins_low w x y < 2 ^ 64
unfolding ins_low
ins_low-lt w x y = zapnot-lt _ _

pub storeb_by_masks : (x y z : ℕ) → storeb x y z ≡ bis (msk_low 1 x y) (ins_low 1 z y)
storeb_by_masks x y z = same_word _ _ (storeb-lt x y z) (bis-lt _ _ (msk_low-lt 1 x y) (ins_low-lt 1 z y)) (λ i h. ⊎_elim
    (λ (e : i / 8 ≡ y % 8). bit_at_storeb_in x y z i h e ∙ sym (bit_at_bis _ _ i ∙ omega (arith, bit_at_mskbl_in x y i h e, bit_at_insbl_in z y i h e)))
    (λ (e : i / 8 ≢ y % 8). bit_at_storeb_out x y z i h e ∙ sym (bit_at_bis _ _ i ∙ omega (arith, bit_at_mskbl_out x y i h e, bit_at_insbl_out z y i h e)))
    (same_or_not (i / 8) (y % 8)))
