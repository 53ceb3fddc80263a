-- Two bytes at any address, in one word of the memory or in two: as compilers write them for a machine that loads and
-- stores whole words, with the byte operations of the Alpha Architecture Handbook, version 4, and by bytes. In each row
-- the left side comes first. Each is true for all words and memories. The choice is this project's.
use Rattle.std.specs.Prelude.{List, [], ◌∷◌}
use Rattle.word_ops.specs.declared.operates.Operate.TheVariants.{Addq, Bis, Extwh, Extwl, Inswh, Inswl, Mskwh, Mskwl, Sll, Srl}
use Rattle.word_ops.specs.declared.sorts.Access.TheVariants.{Byte}
use Rattle.word_ops.specs.declared.sorts.Op.{Op}
use Rattle.word_terms.specs.Tree.{Tree}
use Rattle.word_terms.specs.Building.{o2, constant, select_of, store_of, read_of, written_of}
use Rattle.axiom_base.specs.Rewrites.{Rewrite}
use Rattle.axiom_base.specs.Equations.{memory_1, memory_2}

-- the address of the next byte
abbrev pub next : Tree Op → Tree Op
next p = o2 Addq p (constant 1)

-- the two bytes at p, out of the words at p and at the next byte
abbrev pub taken_from_words : Tree Op → Tree Op → Tree Op
taken_from_words m p = o2 Bis (o2 Extwl (select_of m p) p) (o2 Extwh (select_of m (next p)) p)

abbrev pub taken_by_bytes : Tree Op → Tree Op → Tree Op
taken_by_bytes m p = o2 Bis (read_of Byte m p) (o2 Sll (read_of Byte m (next p)) (constant 8))

-- the word at the next byte with the high byte of v put in, if that byte is in a word of its own
abbrev pub with_high : Tree Op → Tree Op → Tree Op → Tree Op
with_high m p v = o2 Bis (o2 Mskwh (select_of m (next p)) p) (o2 Inswh v p)

-- the word at p with those of the two low bytes of v put in that are in it
abbrev pub with_low : Tree Op → Tree Op → Tree Op → Tree Op
with_low m p v = o2 Bis (o2 Mskwl (select_of m p) p) (o2 Inswl v p)

-- the word at p is stored last: where both bytes are in one word, it counts
abbrev pub put_into_words : Tree Op → Tree Op → Tree Op → Tree Op
put_into_words m p v = store_of (store_of m (next p) (with_high m p v)) p (with_low m p v)

abbrev pub put_by_bytes : Tree Op → Tree Op → Tree Op → Tree Op
put_by_bytes m p v = written_of Byte (written_of Byte m p v) (next p) (o2 Srl v (constant 8))

abbrev pub unaligned_load : Rewrite
unaligned_load = memory_1 (λ m p. (taken_from_words m p, taken_by_bytes m p))

abbrev pub unaligned_store : Rewrite
unaligned_store = memory_2 (λ m p v. (put_into_words m p v, put_by_bytes m p v))

abbrev pub unaligned_equations : List Rewrite
unaligned_equations = unaligned_load ∷ unaligned_store ∷ []
