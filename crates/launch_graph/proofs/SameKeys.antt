-- Rows with one key apply one operator to one list.
use Rattle.std.proofs.Common.{◌≡◌, ℕ, zero, suc, ◌<◌, ◌≤◌, List, [], ◌∷◌, length, get_or, refl, ap, ◌∙◌, arith}
use Rattle.word_ops.specs.declared.sorts.Op.{Op}
use Rattle.word_terms.specs.Keys.{key_of}
use Rattle.word_terms.specs.Laws.{op_key_is_own}
use Rattle.launch_graph.specs.Numbering.{operand_or_none}

pair_same : (x y : ℕ × ℕ) → x.0 ≡ y.0 → x.1 ≡ y.1 → x ≡ y
pair_same (a, b) (c, d) e f = cc

pub same_op : (o p : Op) → (key_of o).0 ≡ (key_of p).0 → (key_of o).1 ≡ (key_of p).1 → o ≡ p
same_op o p kind number = op_key_is_own o p (pair_same (key_of o) (key_of p) kind number)

-- lists of one length of at most four
pub same_four : (xs ys : List ℕ) → length xs ≡ length ys → length xs ≤ 4 → operand_or_none xs 0 ≡ operand_or_none ys 0 → operand_or_none xs 1 ≡ operand_or_none ys 1
    → operand_or_none xs 2 ≡ operand_or_none ys 2 → operand_or_none xs 3 ≡ operand_or_none ys 3 → xs ≡ ys
same_four xs ys n few a b c d = by_each xs ys n (λ k lt. at k (omega arith))
  where
    at : (k : ℕ) → k < 4 → get_or xs k 4294967295 ≡ get_or ys k 4294967295
    at zero lt = a
    at (suc zero) lt = b
    at (suc (suc zero)) lt = c
    at (suc (suc (suc zero))) lt = d
    at (suc (suc (suc (suc k)))) lt = absurd (omega arith)

    by_each : (us vs : List ℕ) → length us ≡ length vs → ((k : ℕ) → k < length us → get_or us k 4294967295 ≡ get_or vs k 4294967295) → us ≡ vs
    by_each [] [] n h = refl
    by_each [] (v ∷ vs) n h = absurd (omega arith)
    by_each (u ∷ us) [] n h = absurd (omega arith)
    by_each (u ∷ us) (v ∷ vs) n h = ap (λ z. z ∷ us) (h 0 (omega arith)) ∙ ap (λ zs. v ∷ zs) (by_each us vs (omega arith) (λ k lt. h (suc k) (omega arith)))
