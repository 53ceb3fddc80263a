-- Trees over the operators of words and memories, built from their operands. From Denali (PLDI 2002), whose terms these
-- are.
use Rattle.std.specs.Prelude.{ℕ}
use Rattle.word_ops.specs.declared.operates.Operate.{Operate}
use Rattle.word_ops.specs.declared.operators.WordOp.{WordOp}
use Rattle.word_ops.specs.declared.operators.WordOp.TheVariants as words
use Rattle.word_ops.specs.declared.sorts.Access.{Access}
use Rattle.word_ops.specs.declared.sorts.Access.TheVariants.{Quad}
use Rattle.word_ops.specs.declared.sorts.Op.{Op}
use Rattle.word_ops.specs.declared.sorts.Op.TheVariants.{Constant, Word, Select, Store, Load, Put}
use Rattle.word_terms.specs.Tree.{Tree, application, none, more}

-- an operator of words over one operand, two and three
abbrev pub w1 : WordOp → Tree Op → Tree Op
w1 op a = application (Word op) (more a none)

abbrev pub w2 : WordOp → Tree Op → Tree Op → Tree Op
w2 op a b = application (Word op) (more a (more b none))

abbrev pub w3 : WordOp → Tree Op → Tree Op → Tree Op → Tree Op
w3 op a b c = application (Word op) (more a (more b (more c none)))

-- an operate over one operand and two
abbrev pub o1 : Operate → Tree Op → Tree Op
o1 operate a = w1 (words.Operate operate) a

abbrev pub o2 : Operate → Tree Op → Tree Op → Tree Op
o2 operate a b = w2 (words.Operate operate) a b

abbrev pub constant : ℕ → Tree Op
constant n = application (Constant n) none

-- what an access reads of a memory at an address, and the memory that it leaves where it writes there
abbrev pub read_of : Access → Tree Op → Tree Op → Tree Op
read_of access m a = application (Select access) (more m (more a none))

abbrev pub written_of : Access → Tree Op → Tree Op → Tree Op → Tree Op
written_of access m a v = application (Store access) (more m (more a (more v none)))

abbrev pub select_of : Tree Op → Tree Op → Tree Op
select_of m a = read_of Quad m a

abbrev pub store_of : Tree Op → Tree Op → Tree Op → Tree Op
store_of m a v = written_of Quad m a v

-- the same at a base and a displacement
abbrev pub displaced_read_of : Access → Tree Op → Tree Op → Tree Op → Tree Op
displaced_read_of access m x k = application (Load access) (more m (more x (more k none)))

abbrev pub displaced_written_of : Access → Tree Op → Tree Op → Tree Op → Tree Op → Tree Op
displaced_written_of access m x k v = application (Put access) (more m (more x (more k (more v none))))
