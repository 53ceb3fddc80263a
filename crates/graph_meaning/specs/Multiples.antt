-- Which classes of rows are multiples of 2, 4 or 8, by what their rows say: the value of such a class is one wherever
-- the rows are true. From this project.
use Rattle.std.specs.Prelude.{◌≡◌, ℕ, ◌+◌, ◌%◌, ◌<◌, ◌≤◌, ◌==◌, ◌&&◌, ◌||◌, nat_lt, nat_le, min, max, if◌then◌else◌, List, [], ◌∷◌, length, slice_index, Option, Some, Contains, Bool, true, false}
use Rattle.std.specs.List.{list_any}
use Rattle.word_ops.specs.Memory.{alignment}
use Rattle.word_ops.specs.declared.operates.Operate.{Operate as OperateOf}
use Rattle.word_ops.specs.declared.operates.Operate.TheVariants.{Addq, Subq, And, Bic, Bis, Xor, Zap, Zapnot, Sll, S4addq, S4subq, S8addq, S8subq, Mulq}
use Rattle.word_ops.specs.declared.operators.WordOp.TheVariants.{Operate, Neg, Lda, Ldah}
use Rattle.word_ops.specs.declared.sorts.Op.{Op}
use Rattle.word_ops.specs.declared.sorts.Op.TheVariants.{Constant, Word, Select, Store, Load, Put}
use Rattle.graph_meaning.specs.Graphs.{constant_among, multiple_of}
use Rattle.graph_meaning.specs.declared.graphs.LaunchRow.{LaunchRow}
use Rattle.graph_meaning.specs.declared.graphs.LaunchGraph.{LaunchGraph}

-- how many low bits of a word are 0, at most 3
abbrev pub low_zeros : ℕ → ℕ
low_zeros w = if w % 8 == 0 then 3 else (if w % 4 == 0 then 2 else (if w % 2 == 0 then 1 else 0))

-- how many low bits of it are 1 before the first 0, at most 3
abbrev pub low_ones : ℕ → ℕ
low_ones w = low_zeros (w + 1)

-- What an operate of two operands gives: the first is a multiple of 2 ^ a, the second of 2 ^ b, and the second has the
-- constant, if there is one. The result is a power, at most 3.
abbrev pub operate_multiple : OperateOf → Option ℕ → ℕ → ℕ → ℕ
operate_multiple Addq k a b = min a b
operate_multiple Subq k a b = min a b
operate_multiple Bis k a b = min a b
operate_multiple Xor k a b = min a b
operate_multiple And k a b = max a b
operate_multiple Bic (Some k) a b = max a (low_ones k)
operate_multiple Zapnot (Some k) a b = if k % 2 == 0 then 3 else a
operate_multiple Zap (Some k) a b = if k % 2 == 0 then a else 3
operate_multiple Sll (Some k) a b = min 3 (a + k % 64)
operate_multiple S4addq k a b = min (a + 2) b
operate_multiple S4subq k a b = min (a + 2) b
operate_multiple S8addq k a b = min (a + 3) b
operate_multiple S8subq k a b = min (a + 3) b
operate_multiple Mulq k a b = min 3 (a + b)
operate_multiple _ k a b = 0

-- the same of any operator
abbrev pub pair_multiple : Op → Option ℕ → ℕ → ℕ → ℕ
pair_multiple (Word (Operate op)) k a b = operate_multiple op k a b
pair_multiple (Word Lda) k a b = min a b
pair_multiple (Word Ldah) k a b = a
pair_multiple _ k a b = 0

-- a row of the rows, in this class and with this operator and these operands
abbrev pub HasRow : List LaunchRow → ℕ → Op → List ℕ → Type 0
HasRow rows class o operands =
    (row : LaunchRow) × Contains rows row × (row.class ≡ class) × (row.op ≡ o) × (row.operands ≡ operands)

-- the rows show that the class is a multiple of 2 ^ n
pub data IsShown (rows : List LaunchRow) : ℕ → ℕ → Type 0 where
  -- each is one of 1
  by_nothing : {class : ℕ} → IsShown rows class 0
  by_constant : {class : ℕ} (w : ℕ) → HasRow rows class (Constant w) [] → IsShown rows class (low_zeros w)
  by_negation : {class x a : ℕ} → HasRow rows class (Word Neg) (x ∷ []) → IsShown rows x a → IsShown rows class a
  by_operands : {class x y a b : ℕ} (o : Op) → HasRow rows class o (x ∷ y ∷ []) → IsShown rows x a → IsShown rows y b
      → IsShown rows class (pair_multiple o (constant_among rows y) a b)
  -- an `and` with a constant whose low bits are 1 is 0
  by_mask : {class x y k : ℕ} → HasRow rows class (Word (Operate And)) (x ∷ y ∷ []) → constant_among rows class ≡ Some 0
      → constant_among rows y ≡ Some k → IsShown rows x (low_ones k)
  by_mask_before : {class x y k : ℕ} → HasRow rows class (Word (Operate And)) (y ∷ x ∷ [])
      → constant_among rows class ≡ Some 0 → constant_among rows y ≡ Some k → IsShown rows x (low_ones k)

-- the greatest power of 2 that is shown of a class
pub record IsMultiple (rows : List LaunchRow) (class n : ℕ) : Type 0 where
  pub shown : IsShown rows class n
  pub most : (m : ℕ) → IsShown rows class m → m ≤ n

-- ---- of a graph

-- the power of 2 of which the address of an operator's instruction has to be a multiple, by its exponent
abbrev pub alignment_of_op : Op → ℕ
alignment_of_op (Select access) = alignment access
alignment_of_op (Store access) = alignment access
alignment_of_op (Load access) = alignment access
alignment_of_op (Put access) = alignment access
alignment_of_op _ = 0

-- for the instruction of some row not every address will do
abbrev pub wants_multiples : List LaunchRow → Bool
wants_multiples rows = list_any (λ r. nat_lt 0 (alignment_of_op r.op)) rows

-- the multiple of each class, where rows want them; else none
pub record AreMultiplesOf (rows : List LaunchRow) (ms : List ℕ) : Type 0 where
  pub unwanted : wants_multiples rows ≡ false → ms ≡ []
  pub size : wants_multiples rows ≡ true → length ms ≡ length rows
  pub each : wants_multiples rows ≡ true → (class : ℕ) → class < length rows
      → IsMultiple rows class (slice_index ms class)

abbrev pub are_two : ℕ → ℕ → List ℕ → Bool
are_two x y (a ∷ b ∷ []) = (a == x) && (b == y)
are_two x y _ = false

abbrev pub is_lda : Op → Bool
is_lda (Word Lda) = true
is_lda _ = false

-- an `lda` of base x and displacement k, whose class is known to be a multiple of 2 ^ n
abbrev pub is_sum_row : LaunchGraph → ℕ → ℕ → ℕ → LaunchRow → Bool
is_sum_row g n x k r = is_lda r.op && are_two x k r.operands && nat_le n (multiple_of g r.class)

abbrev pub has_sum_row : LaunchGraph → ℕ → ℕ → ℕ → Bool
has_sum_row g n x k = list_any (is_sum_row g n x k) g.rows

-- the sum of base x and displacement k is known to be a multiple of 2 ^ n: both are, or a class that has the sum is
abbrev pub is_sum_multiple : LaunchGraph → ℕ → ℕ → ℕ → Bool
is_sum_multiple g n x k = nat_le n (min (multiple_of g x) (multiple_of g k)) || has_sum_row g n x k
