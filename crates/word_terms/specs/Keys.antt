-- How an operator of words and memories is used, and its key: what tells it from every other one. The keys are this
-- project's own.
use Rattle.std.specs.Prelude.{ℕ, ◌+◌}
use Rattle.word_ops.specs.Operators.{number_of}
use Rattle.word_ops.specs.Meanings.{count_of, arity_of_op, sort_of, operand_sort, constant_in}
use Rattle.word_ops.specs.declared.sorts.Access.{Access}
use Rattle.word_ops.specs.declared.sorts.Access.TheVariants as accesses
use Rattle.word_ops.specs.declared.sorts.Op.{Op}
use Rattle.word_ops.specs.declared.sorts.Op.TheVariants.{Entry, Input, Constant, Word, Select, Store, Load, Put, Declared}
use Rattle.word_terms.specs.Signature.{Signature}

-- the access's place among the accesses, from 0
abbrev pub access_number : Access → ℕ
access_number accesses.Quad = 0
access_number accesses.Byte = 1
access_number accesses.Word = 2
access_number accesses.Long = 3

abbrev pub key_of : Op → ℕ × ℕ
key_of Entry = (0, 0)
key_of (Input register) = (1, register)
key_of (Constant c) = (2, c)
key_of (Word op) = (3, number_of op)
key_of (Select access) = (4, access_number access)
key_of (Store access) = (5, access_number access)
key_of (Load access) = (6, access_number access)
key_of (Put access) = (7, access_number access)
key_of (Declared index arity) = (7 + count_of arity, index)

abbrev pub op_signature : Signature Op
op_signature = record {
  arity = arity_of_op;
  sort = sort_of;
  operand_sort = operand_sort;
  constant = constant_in;
  key = key_of;
}
