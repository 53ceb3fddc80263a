-- A memory: a finite map from places to words that aren't 0; a place that is absent holds 0, and address a has the
-- place a div 8. From the Alpha Architecture Handbook, LDQ_U and STQ_U, which ignore an address's low three bits, and
-- LDBU, LDWU, LDL, STB, STW and STL, at addresses that are multiples of their width; `select` and `store` are Denali's
-- (PLDI 2002). At other addresses the narrow accesses have the values of the byte operations, which are this project's
-- choice: there no instruction gives them.
use Rattle.std.specs.Prelude.{ℕ, ◌≡◌, ◌<◌, ◌^◌, ◌/◌, ◌==◌, if◌then◌else◌, Some}
use Rattle.std.specs.Ordering.{nat_cmp}
use Rattle.std.specs.FinMap.{FinMap, get, insert, remove}
use Rattle.std.specs.Option.{unwrap_or}
use Rattle.word_ops.specs.Words.{IsWord}
use Rattle.word_ops.specs.Values.{addq, bis, ext_low, ins_low, lda, msk_low, sign_extended}
use Rattle.word_ops.specs.declared.sorts.Access.{Access}
use Rattle.word_ops.specs.declared.sorts.Access.TheVariants.{Quad, Byte, Word, Long}

abbrev pub Memory : Type 0
Memory = FinMap nat_cmp ℕ

-- each place is below 2 ^ 61, and holds a word that isn't 0
pub record IsMemory (m : Memory) : Type 0 where
  pub words : (place v : ℕ) → get m place ≡ Some v → (0 < v) × IsWord v × (place < 2 ^ 61)

-- the word at a place
unfoldable pub word_at : Memory → ℕ → ℕ
word_at m place = unwrap_or (get m place) 0

-- the memory with a word put at a place: a word 0 takes the entry away
unfoldable pub put_word : Memory → ℕ → ℕ → Memory
put_word m place v = if v == 0 then remove m place else insert m place v

-- the word at the place of address a
unfoldable pub select : Memory → ℕ → ℕ
select m a = word_at m (a / 8)

unfoldable pub store : Memory → ℕ → ℕ → Memory
store m a v = put_word m (a / 8) v

-- the power of 2 of which an address has to be a multiple, so that an instruction with this access doesn't trap there
abbrev pub alignment : Access → ℕ
alignment Quad = 0
alignment Byte = 0
alignment Word = 1
alignment Long = 2

-- what an access reads at address a, where q is the word at its place; of four bytes as `addl` extends their sign
abbrev pub read_in : Access → ℕ → ℕ → ℕ
read_in Quad q a = q
read_in Byte q a = ext_low 1 q a
read_in Word q a = ext_low 2 q a
read_in Long q a = sign_extended 32 (addq (ext_low 4 q a) 0)

-- the word q with the low w bytes of v put at the offset of address a
abbrev pub with_bytes : ℕ → ℕ → ℕ → ℕ → ℕ
with_bytes w q a v = bis (msk_low w q a) (ins_low w v a)

-- the word that stands there once an access wrote v
abbrev pub written_in : Access → ℕ → ℕ → ℕ → ℕ
written_in Quad q a v = v
written_in Byte q a v = with_bytes 1 q a v
written_in Word q a v = with_bytes 2 q a v
written_in Long q a v = with_bytes 4 q a v

-- the word that an access reads at address a
unfoldable pub loaded : Access → Memory → ℕ → ℕ
loaded access m a = read_in access (select m a) a

-- the memory that it leaves where it writes v there
unfoldable pub stored : Access → Memory → ℕ → ℕ → Memory
stored access m a v = store m a (written_in access (select m a) a v)

-- with the address as a base and a displacement
unfoldable pub load : Access → Memory → ℕ → ℕ → ℕ
load access m x k = loaded access m (lda x k)

unfoldable pub put : Access → Memory → ℕ → ℕ → ℕ → Memory
put access m x k v = stored access m (lda x k) v
