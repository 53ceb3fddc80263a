-- Reads beside a store at an address that is far enough away. What a memory holds after a write is what `word_ops`
-- promises, given here as an argument.
use Rattle.std.proofs.Common.{◌≡◌, ◌≢◌, ℕ, ◌/◌, sym, arith}
use Rattle.word_ops.specs.Words.{IsWord}
use Rattle.word_ops.specs.Memory.{Memory, word_at, put_word, select, store}
use Rattle.word_ops.specs.Values.{addq, subq}
use Rattle.axiom_base.specs.Conditions.{IsFar}

far_apart : (x c : ℕ) → IsWord x → IsFar c → addq x c / 8 ≢ x / 8
unfolding addq
far_apart x c f h e = omega (arith, h.0, h.1, e)

far_apart_by : (x c d : ℕ) → IsWord x → IsWord c → IsWord d → IsFar (subq d c) → addq x d / 8 ≢ addq x c / 8
unfolding addq subq
far_apart_by x c d f g h far e = omega (arith, far.0, far.1, e)

module _ (others : (m : Memory) (place v other : ℕ) → other ≢ place → word_at (put_word m place v) other ≡ word_at m other) where
  select_apart : (m : Memory) (a b v : ℕ) → b / 8 ≢ a / 8 → select (store m a v) b ≡ select m b
  unfolding select store
  select_apart m a b v h = others m (a / 8) v (b / 8) h

  pub select_behind : (m : Memory) (x v c : ℕ) → IsWord x → IsFar c → select (store m x v) (addq x c) ≡ select m (addq x c)
  select_behind m x v c f h = select_apart m x (addq x c) v (far_apart x c f h)

  pub select_before : (m : Memory) (x v c : ℕ) → IsWord x → IsFar c → select (store m (addq x c) v) x ≡ select m x
  select_before m x v c f h = select_apart m (addq x c) x v (λ e. far_apart x c f h (sym e))

  pub select_beside : (m : Memory) (x v c d : ℕ) → IsWord x → IsWord c → IsWord d → IsFar (subq d c) → select (store m (addq x c) v) (addq x d) ≡ select m (addq x d)
  select_beside m x v c d f g h far = select_apart m (addq x c) (addq x d) v (far_apart_by x c d f g h far)
