-- The names of the operators, in lower case. From the Alpha Architecture Handbook, version 4, the mnemonics of the
-- instructions; neg, not, selectb, storeb, select and store are Denali's (PLDI 2002), and those of loads and stores
-- with a displacement are this project's.
use Rattle.std.specs.Prelude.{ℕ, List, codes}
use Rattle.word_ops.specs.declared.operators.WordOp.{WordOp}
use Rattle.word_ops.specs.declared.operators.WordOp.TheVariants.{Operate, Neg, Not, Selectb, Storeb, Lda, Ldah}
use Rattle.word_ops.specs.declared.sorts.Access.{Access}
use Rattle.word_ops.specs.declared.sorts.Access.TheVariants.{Quad, Byte, Word, Long}
use Rattle.word_ops.specs.Operates.{row_of}

abbrev pub name_of : WordOp → List ℕ
name_of (Operate operate) = (row_of operate).name
name_of Neg = codes "neg"
name_of Not = codes "not"
name_of Selectb = codes "selectb"
name_of Storeb = codes "storeb"
name_of Lda = codes "lda"
name_of Ldah = codes "ldah"

-- the operators on memories, by how much each of them reads or writes
abbrev pub select_name : Access → List ℕ
select_name Quad = codes "select"
select_name Byte = codes "ldbu"
select_name Word = codes "ldwu"
select_name Long = codes "ldl"

abbrev pub store_name : Access → List ℕ
store_name Quad = codes "store"
store_name Byte = codes "stb"
store_name Word = codes "stw"
store_name Long = codes "stl"

abbrev pub load_name : Access → List ℕ
load_name Quad = codes "load"
load_name Byte = codes "loadbu"
load_name Word = codes "loadwu"
load_name Long = codes "loadl"

abbrev pub put_name : Access → List ℕ
put_name Quad = codes "put"
put_name Byte = codes "putb"
put_name Word = codes "putw"
put_name Long = codes "putl"
