-- Laws of bytes and of extended signs. That a word keeps within its range and what its bits are is what `word_ops`
-- promises of its operators, given here as arguments.
use Rattle.std.proofs.Common.{◌≡◌, ℕ, ◌+◌, ◌-◌, ◌*◌, ◌%◌, ◌^◌, ◌<◌, ◌≤◌, min, List, [], ◌∷◌, refl, sym, ap, ◌∙◌, arith}
use Rattle.std.specs.Prelude.{All}
use Rattle.std.specs.Int.{bit_at}
use Rattle.std.proofs.lemmas.Bool.Decides.{nat_tests}
use Rattle.std.proofs.lemmas.List.Elements.{All-nil, All-cons}
use Rattle.std.proofs.lemmas.Nat.{mod_below}
use Rattle.std.proofs.lemmas.Nat.Bits.{same_from_bits_below}
use Rattle.word_ops.specs.Words.{IsWord}
use Rattle.word_ops.specs.declared.operators.WordOp.{WordOp}
use Rattle.word_ops.specs.declared.operators.WordOp.TheVariants.{Operate}
use Rattle.word_ops.specs.declared.operates.Operate.TheVariants.{Sra}
use Rattle.word_ops.specs.Operators.{operate_value, value_at, value_of}
use Rattle.word_ops.specs.Values.{sll, sra, sextb, sextw, sign_extended, selectb, ext_low}

pub selectb_is_extbl : (x y : ℕ) → selectb x y ≡ ext_low 1 x y
unfolding selectb ext_low
selectb_is_extbl x y = refl

sign_extended_8_in_range : (x : ℕ) → IsWord (sign_extended 8 x)
unfolding sign_extended
sign_extended_8_in_range x = grind (arith, nat_tests)

sign_extended_16_in_range : (x : ℕ) → IsWord (sign_extended 16 x)
unfolding sign_extended
sign_extended_16_in_range x = grind (arith, nat_tests)

sll_in_range : (a b : ℕ) → IsWord (sll a b)
unfolding sll
sll_in_range a b = mod_below (a * 2 ^ (b % 64)) (2 ^ 64) (omega arith)

sra_in_range : ((op : WordOp) (vs : List ℕ) → All IsWord vs → IsWord (value_of op vs)) → (a b : ℕ) → IsWord a → IsWord b → IsWord (sra a b)
unfolding value_at operate_value
sra_in_range in_range a b ha hb = in_range (Operate Sra) (a ∷ b ∷ []) (All-cons IsWord a (b ∷ []) ha (All-cons IsWord b [] hb (All-nil IsWord)))

module _
    (shifted_left : (a b i : ℕ) → i < 64 → b % 64 ≤ i → bit_at (sll a b) i ≡ bit_at a (i - b % 64))
    (shifted_right : (a b i : ℕ) → i < 64 → bit_at (sra a b) i ≡ bit_at a (min (i + b % 64) 63))
    (extended : (sign a i : ℕ) → sign < 64 → i < 64 → bit_at (sign_extended (sign + 1) a) i ≡ bit_at a (min i sign))
    (in_range : (op : WordOp) (vs : List ℕ) → All IsWord vs → IsWord (value_of op vs))
  where
    pub sra_of_sll_is_sextb : (x : ℕ) → sra (sll x 56) 56 ≡ sextb x
    unfolding sextb
    sra_of_sll_is_sextb x = same_from_bits_below 64 _ _ (sra_in_range in_range _ _ (sll_in_range x 56) (omega arith)) (sign_extended_8_in_range x) (λ i h.
        shifted_right (sll x 56) 56 i h ∙ shifted_left x 56 (min (i + 56) 63) (omega arith) (omega arith)
        ∙ ap (bit_at x) (omega arith) ∙ sym (extended 7 x i (omega arith) h))

    pub sra_of_sll_is_sextw : (x : ℕ) → sra (sll x 48) 48 ≡ sextw x
    unfolding sextw
    sra_of_sll_is_sextw x = same_from_bits_below 64 _ _ (sra_in_range in_range _ _ (sll_in_range x 48) (omega arith)) (sign_extended_16_in_range x) (λ i h.
        shifted_right (sll x 48) 48 i h ∙ shifted_left x 48 (min (i + 48) 63) (omega arith) (omega arith)
        ∙ ap (bit_at x) (omega arith) ∙ sym (extended 15 x i (omega arith) h))
