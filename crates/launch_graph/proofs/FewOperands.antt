-- No operator takes more than four operands.
use Rattle.std.proofs.Common.{ℕ, ◌+◌, ◌≤◌, ◌≡◌, ◌∷◌, ◌++◌, [], length, arith, ap, List}
use Rattle.std.proofs.lemmas.List.{length_push}
use Rattle.word_ops.specs.Meanings.{count_of}
use Rattle.word_terms.specs.Laws.{op_takes_at_most_four}
use Rattle.word_ops.specs.declared.sorts.Arity.{Arity}
use Rattle.word_ops.specs.declared.sorts.Arity.TheVariants as arities
use Rattle.word_ops.specs.declared.sorts.Op.{Op}
use Rattle.launch_graph.specs.declared.numbering.UsedName.{UsedName}
use Rattle.launch_graph.specs.declared.row_lines.LineOp.{LineOp}
use Rattle.launch_graph.specs.Numbering.{IsNumberedOp, plain, again, anew}

count_four : (a : Arity) → count_of a ≤ 4
count_four arities.One = omega arith
count_four arities.Two = omega arith
count_four arities.Three = omega arith
count_four arities.Four = omega arith

pub few_more : (used more : List UsedName) (line : LineOp) (count : ℕ) (op : Op) → length used ≤ 16 → IsNumberedOp used more line count op → length more ≤ 16
few_more used more line count op few (plain e c m) = (let n : length more ≡ length used = ap length m in omega arith)
few_more used more line count op few (again e lt there named c o m) = (let n : length more ≡ length used = ap length m in omega arith)
few_more used more line count op few (anew {one = one} e unused low named c o m) =
    (let n : length more ≡ length (used ++ one ∷ []) = ap length m in let k : length (used ++ one ∷ []) ≡ length used + 1 = length_push used one in omega arith)

pub count_is : (used more : List UsedName) (line : LineOp) (count : ℕ) (op : Op) → IsNumberedOp used more line count op → count ≤ 4
count_is used more line count op (plain e c m) = (let h = op_takes_at_most_four op in omega (arith, h, c))
count_is used more line count op (again {one = one} e lt there named c o m) = (let h = count_four one.arity in omega (arith, h, c))
count_is used more line count op (anew {one = one} e unused low named c o m) = (let h = count_four one.arity in omega (arith, h, c))
