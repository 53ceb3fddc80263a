-- Laws of memories. What a memory holds after a write is what `word_ops` promises, given here as arguments.
use Rattle.std.proofs.Common.{◌≡◌, ℕ, ◌/◌, refl}
use Rattle.word_ops.specs.Memory.{Memory, word_at, put_word, select, store, loaded, stored, load, put}
use Rattle.word_ops.specs.declared.sorts.Access.TheVariants.{Quad}
use Rattle.word_ops.specs.Values.{lda}

pub select_of_store : ((m : Memory) (place v : ℕ) → word_at (put_word m place v) place ≡ v)
    → (m : Memory) (a v : ℕ) → select (store m a v) a ≡ v
unfolding select store
select_of_store reads m a v = reads m (a / 8) v

pub store_of_store : ((m : Memory) (place v w : ℕ) → put_word (put_word m place v) place w ≡ put_word m place w)
    → (m : Memory) (a v w : ℕ) → store (store m a v) a w ≡ store m a w
unfolding store
store_of_store again m a v w = again m (a / 8) v w

pub select_of_lda_is_load : (m : Memory) (x k : ℕ) → select m (lda x k) ≡ load Quad m x k
unfolding load loaded
select_of_lda_is_load m x k = refl

pub store_of_lda_is_put : (m : Memory) (x k v : ℕ) → store m (lda x k) v ≡ put Quad m x k v
unfolding put stored
store_of_lda_is_put m x k v = refl
