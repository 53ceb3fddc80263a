-- The operands of an operate by place, and those of a short list.
use Rattle.std.proofs.Common.{◌≡◌, ℕ, zero, suc, ◌+◌, ◌<◌, ◌≤◌, List, [], ◌∷◌, length, get_or, sym, refl, ◌∙◌, ap, inl, inr, arith, Bool, true, false, Some, None}
use Rattle.std.specs.Prelude.{slice_get, slice_index, is_some, ◌==◌, if◌then◌else◌}
use Rattle.std.proofs.lemmas.Bool.Decides.{Decides-eqb, eqb_tells}
use Rattle.std.proofs.lemmas.Option.{slice_get_cases, slice_get-get_or}
use Rattle.machine_table.specs.InstrOrder.{operate_kind}
use Rattle.word_ops.specs.declared.operators.WordOp.{WordOp}
use Rattle.schedule_meaning.specs.Launches.{operate_operands, word_op_operands, plain}
use Rattle.schedule_meaning.specs.Readers.{operand_of}
use Rattle.schedule_meaning.specs.declared.schedules.Operand.{Operand}

pub operate_count : (xs : List ℕ) → length (operate_operands xs) ≡ length xs
operate_count [] = refl
operate_count (x ∷ []) = refl
operate_count (x ∷ y ∷ ys) = ap suc (operate_count (y ∷ ys))

not_last : (n i : ℕ) → (zero + 1 == suc (suc n)) ≡ false
not_last n i = elim (eqb_tells (zero + 1) (suc (suc n))) [ inl t ↦ (let e : zero + 1 ≡ suc (suc n) = t.1 in absurd (omega arith)) | inr t ↦ t.0 ]

same_test : (a b c d : ℕ) → (a ≡ b → c ≡ d) → (c ≡ d → a ≡ b) → (a == b) ≡ (c == d)
same_test a b c d f g =
    elim (eqb_tells a b) [
      | inl t ↦ t.0 ∙ sym ((Decides-eqb c d).1 (f t.1))
      | inr t ↦ elim (eqb_tells c d) [ inl u ↦ absurd (t.1 (g u.1)) | inr u ↦ t.0 ∙ sym u.0 ]
    ]

operate_at : (xs : List ℕ) (i : ℕ) (d : Operand) → i < length xs → get_or (operate_operands xs) i d ≡ operand_of (slice_index xs i) (i + 1 == length xs)
operate_at [] i d h = absurd (omega arith)
operate_at (x ∷ []) zero d h = ap (operand_of x) (sym ((Decides-eqb (zero + 1) 1).1 (omega arith)))
operate_at (x ∷ []) (suc i) d h = absurd (omega arith)
operate_at (x ∷ y ∷ ys) zero d h = ap (operand_of x) (sym (not_last (length ys) 0))
operate_at (x ∷ y ∷ ys) (suc i) d h =
    operate_at (y ∷ ys) i d (omega arith)
    ∙ ap (operand_of (slice_index (y ∷ ys) i)) (same_test (i + 1) (suc (length ys)) (suc i + 1) (suc (suc (length ys))) (λ e. omega arith) (λ e. omega arith))

-- no element behind the last
pub past_end : {X : Type 0} (xs : List X) (i : ℕ) → length xs ≤ i → slice_get xs i ≡ None
past_end xs i le = elim ((slice_get_cases xs i).1) [ inl h ↦ (let lt : i < length xs = h.1 in absurd (omega arith)) | inr h ↦ h.1 ]

pub operate_place : (xs : List ℕ) (i : ℕ) → i < length xs → slice_get (operate_operands xs) i ≡ Some (operand_of (slice_index xs i) (i + 1 == length xs))
operate_place xs i lt =
    slice_get-get_or (operate_operands xs) i (plain 0) (let n : length (operate_operands xs) ≡ length xs = operate_count xs in omega arith)
    ∙ ap Some (operate_at xs i (plain 0) lt)

pub operate_past : (xs : List ℕ) (i : ℕ) → length xs ≤ i → slice_get (operate_operands xs) i ≡ None
operate_past xs i le =
    past_end (operate_operands xs) i (let n : length (operate_operands xs) ≡ length xs = operate_count xs in omega arith)

-- ---- one and two

pub first_of : {X : Type 0} (x : X) (xs : List X) (i : ℕ) → i ≡ 0 → slice_get (x ∷ xs) i ≡ Some x
first_of x xs i e = ap (slice_get (x ∷ xs)) e

pub second_of : {X : Type 0} (x y : X) (xs : List X) (i : ℕ) → i ≡ 1 → slice_get (x ∷ y ∷ xs) i ≡ Some y
second_of x y xs i e = ap (slice_get (x ∷ y ∷ xs)) e

-- ---- those of a word's operator

module _ (o : WordOp) (xs : List ℕ) where
  abbrev by_kind : Bool → List Operand
  by_kind b = if b then operate_operands xs else plain (slice_index xs 0) ∷ []

  pub of_operate : is_some (operate_kind o) ≡ true → word_op_operands o xs ≡ operate_operands xs
  of_operate e = ap by_kind e

  pub of_address : is_some (operate_kind o) ≡ false → word_op_operands o xs ≡ plain (slice_index xs 0) ∷ []
  of_address e = ap by_kind e
