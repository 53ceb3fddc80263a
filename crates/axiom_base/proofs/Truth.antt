-- Each equation is true, row by row in the order of the table: the law of its operators, read at the variables' values.
use Rattle.std.proofs.Common.{◌≡◌, ℕ, ◌+◌, ◌-◌, ◌%◌, ◌<◌, ◌≤◌, min, List, refl, ap, ◌∙◌}
use Rattle.std.specs.Prelude.{All}
use Rattle.std.specs.Int.{bit_at}
use Rattle.word_ops.specs.Words.{IsWord}
use Rattle.word_ops.specs.Values.{sll, sra, sign_extended, storeb, bis, msk_low, ins_low}
use Rattle.word_ops.specs.declared.operators.WordOp.{WordOp}
use Rattle.word_ops.specs.Memory.{Memory, word_at, put_word, loaded, stored, load, put}
use Rattle.word_ops.specs.Operators.{operate_value, value_at, value_of}
use Rattle.word_ops.specs.Worlds.{word, memory, World}
use Rattle.axiom_base.specs.Rewrites.{IsTrueIn}
use Rattle.axiom_base.specs.Equations.{additions, differences, multiplications, shifts, scaled_sums, ands, ors, exclusive_ors, inversions, comparisons, bytes, memories, narrow_loads, narrow_stores, narrow_displaced, equations}
use Rattle.axiom_base.proofs.Rows.{Each, done, ◌▸◌, All-Each, joined}
use Rattle.axiom_base.proofs.Variables.{x_is_word, x_in_range, v_is_word}
use Rattle.axiom_base.proofs.Arithmetic as arithmetic
use Rattle.axiom_base.proofs.Shifts as shift
use Rattle.axiom_base.proofs.Logic as logic
use Rattle.axiom_base.proofs.Bytes as byte
use Rattle.axiom_base.proofs.Storage as storage

module _ (world : World) (names : ℕ → List ℕ) where
  pub additions_are_true : Each (IsTrueIn world names) additions
  unfolding value_at operate_value
  additions_are_true =
      (λ vs f. ap word (arithmetic.addq_is_commutative _ _))
      ▸ (λ vs f. ap word (arithmetic.addq_is_associative _ _ _))
      ▸ (λ vs f. ap word (arithmetic.addq_of_0 _ (x_in_range f refl)) ∙ x_is_word f refl)
      ▸ done

  pub differences_are_true : Each (IsTrueIn world names) differences
  unfolding value_at operate_value
  differences_are_true =
      (λ vs f. ap word (arithmetic.subq_is_addq_of_neg _ _))
      ▸ (λ vs f. ap word (arithmetic.addq_of_neg_is_subq _ _))
      ▸ (λ vs f. ap word (arithmetic.neg_is_subq_from_0 _ (x_in_range f refl)))
      ▸ (λ vs f. ap word (arithmetic.subq_of_itself _ (x_in_range f refl)))
      ▸ (λ vs f. ap word (arithmetic.subq_of_0 _ (x_in_range f refl)) ∙ x_is_word f refl)
      ▸ (λ vs f. ap word (arithmetic.neg_of_neg _ (x_in_range f refl)) ∙ x_is_word f refl)
      ▸ done

  pub multiplications_are_true : Each (IsTrueIn world names) multiplications
  unfolding value_at operate_value
  multiplications_are_true =
      (λ vs f. ap word (arithmetic.mulq_is_commutative _ _))
      ▸ (λ vs f. ap word (arithmetic.mulq_is_associative _ _ _))
      ▸ (λ vs f. ap word (arithmetic.mulq_by_1 _ (x_in_range f refl)) ∙ x_is_word f refl)
      ▸ (λ vs f. ap word (arithmetic.mulq_by_0 _))
      ▸ (λ vs f. ap word (arithmetic.umulh_is_commutative _ _))
      ▸ done

  pub shifts_are_true : Each (IsTrueIn world names) shifts
  unfolding value_at operate_value
  shifts_are_true =
      (λ vs f. ap word (shift.addq_of_itself_is_sll _))
      ▸ (λ vs f. ap word (shift.sll_by_1_is_addq _))
      ▸ (λ vs f. ap word (shift.sll_by_0 _ (x_in_range f refl)) ∙ x_is_word f refl)
      ▸ (λ vs f. ap word (shift.srl_by_0 _) ∙ x_is_word f refl)
      ▸ done

  pub scaled_sums_are_true : Each (IsTrueIn world names) scaled_sums
  unfolding value_at operate_value
  scaled_sums_are_true =
      (λ vs f. ap word (shift.addq_of_sll_is_s4addq _ _))
      ▸ (λ vs f. ap word (shift.addq_of_sll_is_s8addq _ _))
      ▸ (λ vs f. ap word (shift.subq_of_sll_is_s4subq _ _))
      ▸ (λ vs f. ap word (shift.subq_of_sll_is_s8subq _ _))
      ▸ done

  pub ands_are_true : Each (IsTrueIn world names) ands
  unfolding value_at operate_value
  ands_are_true =
      (λ vs f. ap word (logic.and_is_commutative _ _))
      ▸ (λ vs f. ap word (logic.and_is_associative _ _ _))
      ▸ (λ vs f. ap word (logic.and_of_itself _) ∙ x_is_word f refl)
      ▸ (λ vs f. ap word (logic.and_of_0 _))
      ▸ done

  pub ors_are_true : Each (IsTrueIn world names) ors
  unfolding value_at operate_value
  ors_are_true =
      (λ vs f. ap word (logic.bis_is_commutative _ _))
      ▸ (λ vs f. ap word (logic.bis_is_associative _ _ _))
      ▸ (λ vs f. ap word (logic.bis_of_itself _) ∙ x_is_word f refl)
      ▸ (λ vs f. ap word (logic.bis_of_0 _) ∙ x_is_word f refl)
      ▸ done

  pub exclusive_ors_are_true : Each (IsTrueIn world names) exclusive_ors
  unfolding value_at operate_value
  exclusive_ors_are_true =
      (λ vs f. ap word (logic.xor_is_commutative _ _))
      ▸ (λ vs f. ap word (logic.xor_is_associative _ _ _))
      ▸ (λ vs f. ap word (logic.xor_of_itself _))
      ▸ (λ vs f. ap word (logic.xor_of_0 _) ∙ x_is_word f refl)
      ▸ done

  pub inversions_are_true : Each (IsTrueIn world names) inversions
  unfolding value_at operate_value
  inversions_are_true =
      (λ vs f. ap word (logic.not_is_ornot_from_0 _))
      ▸ (λ vs f. ap word (logic.not_of_not _ (x_in_range f refl)) ∙ x_is_word f refl)
      ▸ (λ vs f. ap word (logic.and_of_not_is_bic _ _))
      ▸ (λ vs f. ap word (logic.bis_of_not_is_ornot _ _))
      ▸ (λ vs f. ap word (logic.xor_of_not_is_eqv _ _))
      ▸ done

  pub comparisons_are_true : Each (IsTrueIn world names) comparisons
  unfolding value_at operate_value
  comparisons_are_true =
      (λ vs f. ap word (logic.cmpeq_is_commutative _ _))
      ▸ done

  -- a narrow access means what the operators of its other side do
  narrow_loads_are_true : Each (IsTrueIn world names) narrow_loads
  unfolding value_at operate_value loaded
  narrow_loads_are_true = (λ vs f. refl) ▸ (λ vs f. refl) ▸ (λ vs f. refl) ▸ (λ vs f. refl) ▸ (λ vs f. refl) ▸ (λ vs f. refl) ▸ done

  narrow_stores_are_true : Each (IsTrueIn world names) narrow_stores
  unfolding value_at operate_value loaded stored
  narrow_stores_are_true = (λ vs f. refl) ▸ (λ vs f. refl) ▸ (λ vs f. refl) ▸ (λ vs f. refl) ▸ (λ vs f. refl) ▸ (λ vs f. refl) ▸ done

  narrow_displaced_are_true : Each (IsTrueIn world names) narrow_displaced
  unfolding value_at load put
  narrow_displaced_are_true = (λ vs f. refl) ▸ (λ vs f. refl) ▸ (λ vs f. refl) ▸ (λ vs f. refl) ▸ (λ vs f. refl) ▸ (λ vs f. refl) ▸ done

-- what `word_ops` promises of bits and of memories
module _
    (world : World) (names : ℕ → List ℕ)
    (shifted_left : (a b i : ℕ) → i < 64 → b % 64 ≤ i → bit_at (sll a b) i ≡ bit_at a (i - b % 64))
    (shifted_right : (a b i : ℕ) → i < 64 → bit_at (sra a b) i ≡ bit_at a (min (i + b % 64) 63))
    (extended : (sign a i : ℕ) → sign < 64 → i < 64 → bit_at (sign_extended (sign + 1) a) i ≡ bit_at a (min i sign))
    (in_range : (op : WordOp) (vs : List ℕ) → All IsWord vs → IsWord (value_of op vs))
    (stored_byte : (x y z : ℕ) → storeb x y z ≡ bis (msk_low 1 x y) (ins_low 1 z y))
    (reads : (m : Memory) (place v : ℕ) → word_at (put_word m place v) place ≡ v)
    (again : (m : Memory) (place v w : ℕ) → put_word (put_word m place v) place w ≡ put_word m place w)
  where
    bytes_are_true : Each (IsTrueIn world names) bytes
    unfolding value_at operate_value
    bytes_are_true =
        (λ vs f. ap word (byte.selectb_is_extbl _ _))
        ▸ (λ vs f. ap word (stored_byte _ _ _))
        ▸ (λ vs f. ap word (byte.sra_of_sll_is_sextb shifted_left shifted_right extended in_range _))
        ▸ (λ vs f. ap word (byte.sra_of_sll_is_sextw shifted_left shifted_right extended in_range _))
        ▸ done

    memories_are_true : Each (IsTrueIn world names) memories
    unfolding value_at loaded stored load put
    memories_are_true =
        (λ vs f. ap word (storage.select_of_store reads _ _ _) ∙ v_is_word f refl)
        ▸ (λ vs f. ap memory (storage.store_of_store again _ _ _ _))
        ▸ (λ vs f. ap word (storage.select_of_lda_is_load _ _ _))
        ▸ (λ vs f. ap memory (storage.store_of_lda_is_put _ _ _ _))
        ▸ done

    pub equations_are_true : All (IsTrueIn world names) equations
    equations_are_true = All-Each _ _ (joined (additions_are_true world names) (joined (differences_are_true world names) (joined (multiplications_are_true world names) (joined (shifts_are_true world names) (joined (scaled_sums_are_true world names) (joined (ands_are_true world names) (joined (ors_are_true world names) (joined (exclusive_ors_are_true world names) (joined (inversions_are_true world names) (joined (comparisons_are_true world names) (joined bytes_are_true (joined memories_are_true (joined (narrow_loads_are_true world names) (joined (narrow_stores_are_true world names) (narrow_displaced_are_true world names)))))))))))))))
