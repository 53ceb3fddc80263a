-- The small operator type: each of its operators is used as one of `Op` is, and gives what that gives.
use Rattle.std.specs.Prelude.{ℕ}
use Rattle.word_ops.specs.Meanings.{arity_of_op, sort_of, operand_sort, constant_in, meaning}
use Rattle.word_ops.specs.declared.operates.Operate.TheVariants.{Addq}
use Rattle.word_ops.specs.declared.operators.WordOp.TheVariants.{Operate}
use Rattle.word_ops.specs.declared.sorts.Access.TheVariants.{Quad}
use Rattle.word_ops.specs.declared.sorts.Op.{Op}
use Rattle.word_ops.specs.declared.sorts.Op.TheVariants as ops
use Rattle.word_terms.specs.Signature.{Signature, Meaning}
use Rattle.word_terms.specs.declared.small.SmallOp.{SmallOp}
use Rattle.word_terms.specs.declared.small.SmallOp.TheVariants.{Number, Leaf, Entry, Sum, Look}

abbrev pub as_op : SmallOp → Op
as_op (Number n) = ops.Constant n
as_op (Leaf register) = ops.Input register
as_op Entry = ops.Entry
as_op Sum = ops.Word (Operate Addq)
as_op Look = ops.Select Quad

abbrev pub small_key : SmallOp → ℕ × ℕ
small_key (Number n) = (0, n)
small_key (Leaf register) = (1, register)
small_key Entry = (2, 0)
small_key Sum = (3, 0)
small_key Look = (4, 0)

abbrev pub small_signature : Signature SmallOp
small_signature = record {
  arity = λ op. arity_of_op (as_op op);
  sort = λ op. sort_of (as_op op);
  operand_sort = λ op. operand_sort (as_op op);
  constant = λ op. constant_in (as_op op);
  key = small_key;
}

abbrev pub small_meaning : Meaning SmallOp
small_meaning world names op = meaning world names (as_op op)
