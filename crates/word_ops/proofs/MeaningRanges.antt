-- What an operator of a term gives is a value of its sort, where its operands are values of theirs.
use Rattle.std.proofs.Common.{◌≡◌, ℕ, ◌<◌, ◌^◌, List, length, get_or, sym, subst, refl, arith, ⊎_elim}
use Rattle.std.proofs.lemmas.Bool.{cases_lt}
use Rattle.std.proofs.lemmas.List.{get_or_past}
use Rattle.word_ops.specs.Words.{IsWord}
use Rattle.word_ops.specs.Memory.{Memory, IsMemory, select, store, read_in, with_bytes, written_in, loaded, stored, load, put}
use Rattle.word_ops.specs.Values.{addq, ext_low, ins_low, msk_low}
use Rattle.word_ops.specs.declared.sorts.Access.{Access}
use Rattle.word_ops.specs.declared.sorts.Access.TheVariants as accesses
use Rattle.word_ops.specs.Worlds.{Value, word, memory, World, IsWorld, IsValue}
use Rattle.word_ops.specs.Meanings.{meaning, sort_of, arity_of_op, operand_sort, AreOperands, IsInRange, as_word, as_memory, word_operand, memory_operand}
use Rattle.word_ops.specs.declared.sorts.Sort.{Sort}
use Rattle.word_ops.specs.declared.sorts.Sort.TheVariants as sorts
use Rattle.word_ops.specs.declared.sorts.Op.{Op}
use Rattle.word_ops.specs.declared.sorts.Op.TheVariants.{Entry, Input, Constant, Word, Select, Store, Load, Put, Declared}
use Rattle.word_ops.proofs.OperatorBits.{sign_extended-lt}
use Rattle.word_ops.proofs.StoredByte.{bis-lt, ins_low-lt, msk_low-lt}
use Rattle.word_ops.proofs.ValueRanges.{value_at-lt, operand-lt, lda-lt, ext_low-lt}
use Rattle.word_ops.proofs.Stored.{word_at-lt, IsMemory-put_word}

word_of_value : (sort : Sort) (v : Value) → IsValue sort v → IsWord (as_word v)
word_of_value sorts.Word (word n) h = h
word_of_value sorts.Word (memory m) h = absurd h
word_of_value sorts.Memory (word n) h = absurd h
word_of_value sorts.Memory (memory m) h = omega arith

memory_of_value : (v : Value) → IsValue sorts.Memory v → IsMemory (as_memory v)
memory_of_value (word n) h = absurd h
memory_of_value (memory m) h = h

-- a word operand is a word, also where there is none or a memory stands there
word_operand-lt : (op : Op) (vs : List Value) → AreOperands op vs → (at : ℕ) → IsWord (word_operand vs at)
word_operand-lt op vs h at = ⊎_elim (λ l. word_of_value _ _ (h.each at l)) (λ l. subst (λ v. IsWord (as_word v)) (sym (get_or_past vs at (word 0) l)) (omega arith)) (cases_lt at (length vs))

memory_operand-is : (op : Op) (vs : List Value) → operand_sort op 0 ≡ sorts.Memory → 0 < arity_of_op op → AreOperands op vs → IsMemory (memory_operand vs)
memory_operand-is op vs s l h = memory_of_value _ (subst (λ sort. IsValue sort (get_or vs 0 (word 0))) s (h.each 0 (subst (λ n. 0 < n) (sym h.count) l)))

-- what is read is a word, and what is written is a memory
select-lt : (m : Memory) (a : ℕ) → IsMemory m → IsWord (select m a)
unfolding select
select-lt m a h = word_at-lt m _ h

store-is : (m : Memory) (a v : ℕ) → IsMemory m → a < 2 ^ 64 → v < 2 ^ 64 → IsMemory (store m a v)
unfolding store
store-is m a v h f g = IsMemory-put_word m _ v h (omega arith) g

with_bytes-lt : (w q a v : ℕ) → with_bytes w q a v < 2 ^ 64
with_bytes-lt w q a v = bis-lt (msk_low w q a) (ins_low w v a) (msk_low-lt w q a) (ins_low-lt w v a)

read_in-lt : (access : Access) (q a : ℕ) → IsWord q → IsWord (read_in access q a)
read_in-lt accesses.Quad q a h = h
read_in-lt accesses.Byte q a h = ext_low-lt 1 q a h
read_in-lt accesses.Word q a h = ext_low-lt 2 q a h
read_in-lt accesses.Long q a h = sign_extended-lt 32 (addq (ext_low 4 q a) 0) (omega arith)

written_in-lt : (access : Access) (q a v : ℕ) → IsWord v → IsWord (written_in access q a v)
written_in-lt accesses.Quad q a v h = h
written_in-lt accesses.Byte q a v h = with_bytes-lt 1 q a v
written_in-lt accesses.Word q a v h = with_bytes-lt 2 q a v
written_in-lt accesses.Long q a v h = with_bytes-lt 4 q a v

pub loaded-lt : (access : Access) (m : Memory) (a : ℕ) → IsMemory m → IsWord (loaded access m a)
unfolding loaded
loaded-lt access m a h = read_in-lt access (select m a) a (select-lt m a h)

pub stored-is : (access : Access) (m : Memory) (a v : ℕ) → IsMemory m → a < 2 ^ 64 → v < 2 ^ 64 → IsMemory (stored access m a v)
unfolding stored
stored-is access m a v h f g = store-is m a _ h f (written_in-lt access (select m a) a v g)

load-lt : (access : Access) (m : Memory) (x k : ℕ) → IsMemory m → IsWord (load access m x k)
unfolding load
load-lt access m x k h = loaded-lt access m _ h

put-is : (access : Access) (m : Memory) (x k v : ℕ) → IsMemory m → v < 2 ^ 64 → IsMemory (put access m x k v)
unfolding put
put-is access m x k v h g = stored-is access m _ v h (lda-lt x k) g

pub meaning_in_range : (world : World) (names : ℕ → List ℕ) (op : Op) (vs : List Value) → IsWorld world → IsInRange op → AreOperands op vs → IsValue (sort_of op) (meaning world names op vs)
meaning_in_range world names Entry vs w r h = w.memory_is
meaning_in_range world names (Input register) vs w r h = operand-lt world.registers register w.each
meaning_in_range world names (Constant c) vs w r h = r
meaning_in_range world names (Word op) vs w r h = value_at-lt op _ _ _ (word_operand-lt (Word op) vs h 0) (word_operand-lt (Word op) vs h 1) (word_operand-lt (Word op) vs h 2)
meaning_in_range world names (Select access) vs w r h = loaded-lt access _ _ (memory_operand-is (Select access) vs refl (omega arith) h)
meaning_in_range world names (Store access) vs w r h = stored-is access _ _ _ (memory_operand-is (Store access) vs refl (omega arith) h) (word_operand-lt (Store access) vs h 1) (word_operand-lt (Store access) vs h 2)
meaning_in_range world names (Load access) vs w r h = load-lt access _ _ _ (memory_operand-is (Load access) vs refl (omega arith) h)
meaning_in_range world names (Put access) vs w r h = put-is access _ _ _ _ (memory_operand-is (Put access) vs refl (omega arith) h) (word_operand-lt (Put access) vs h 3)
meaning_in_range world names (Declared index arity) vs w r h = w.declared _ _
