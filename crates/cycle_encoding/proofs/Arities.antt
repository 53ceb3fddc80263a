-- A row has four word operands at most.
use Rattle.std.proofs.Common.{◌≡◌, ℕ, zero, suc, ◌+◌, ◌*◌, ◌≤◌, Bool, true, false, cond, List, ◌∷◌, [], length, get_or, Option, Some, None, refl, subst, arith}
use Rattle.std.specs.Prelude.{◌==◌, nat_le, is_some, slice_get}
use Rattle.std.specs.Option.{option_map_or}
use Rattle.std.proofs.lemmas.Bool.{leb-true}
use Rattle.word_ops.specs.Meanings.{arity_of_op}
use Rattle.word_ops.specs.declared.operators.WordOp.{WordOp}
use Rattle.word_ops.specs.declared.operates.Operate.TheVariants as operates
use Rattle.word_ops.specs.declared.operators.WordOp.TheVariants as ops
use Rattle.word_ops.specs.declared.sorts.Op.{Op}
use Rattle.word_ops.specs.declared.sorts.Op.TheVariants.{Word, Select, Store, Load, Put}
use Rattle.machine_table.specs.InstrOrder.{operate_kind}
use Rattle.graph_meaning.specs.WellFormed.{IsLaunchGraph}
use Rattle.graph_meaning.specs.declared.graphs.LaunchGraph.{LaunchGraph}
use Rattle.graph_meaning.specs.declared.graphs.LaunchRow.{LaunchRow}
use Rattle.graph_meaning.specs.declared.graphs.Guard.{Guard}
use Rattle.schedule_meaning.specs.Launches.{copied_at, copy_operands, operands_at, row_operands, guard_operands}
use Rattle.schedule_meaning.specs.Launches.{op_operands, operate_operands, plain}
use Rattle.cycle_encoding.proofs.OperandLists.{operate_size}
use Rattle.cycle_encoding.proofs.Tables.{got_is}

arity_few : (op : WordOp) → nat_le (arity_of_op (Word op)) 4 ≡ true
arity_few (ops.Operate operates.Addl) = refl
arity_few (ops.Operate _) = refl
arity_few _ = refl

word_few : (b : Bool) (operands : List ℕ) → length operands ≤ 4 → length (cond b (operate_operands operands) (plain (get_or operands 0 0) ∷ [])) ≤ 4
word_few true operands le = (let s = operate_size operands in omega arith)
word_few false operands le = (let s : length (plain (get_or operands 0 0) ∷ []) ≡ 1 = refl in omega (arith, s))

op_few : (op : Op) (operands : List ℕ) → length operands ≡ arity_of_op op → length (op_operands op operands) ≤ 4
op_few (Word op) operands e = word_few (is_some (operate_kind op)) operands (let a = leb-true (arity_of_op (Word op)) 4 (arity_few op) in omega arith)
op_few (Select access) operands e = omega arith
op_few (Load access) operands e = omega arith
op_few (Store access) operands e = omega arith
op_few (Put access) operands e = omega arith
op_few op operands e = omega arith

module _ (g : LaunchGraph) (well : IsLaunchGraph g) where
  row_few : (row : ℕ) (o : Option LaunchRow) → slice_get g.rows row ≡ o → length (row_operands o) ≤ 4
  row_few row None e = omega arith
  row_few row (Some r) e =
      let at = got_is g.rows row r e in
      op_few r.op r.operands (subst (λ (r : LaunchRow). length r.operands ≡ arity_of_op r.op) at.1 (well.arities row r at.0))

  guard_few : (o : Option Guard) → length (guard_operands o) ≤ 4
  guard_few None = omega arith
  guard_few (Some x) = omega arith

  either_few : (row : ℕ) (b : Bool) (o : Option ℕ) → length (cond b (guard_operands g.guard) (option_map_or copy_operands o (row_operands (slice_get g.rows row)))) ≤ 4
  either_few row true o = guard_few g.guard
  either_few row false None = row_few row (slice_get g.rows row) refl
  either_few row false (Some class) = omega arith

  pub operands_few : (row : ℕ) → length (operands_at g row) ≤ 4
  operands_few row = either_few row (row == length g.rows) (copied_at g row)

pub times_le : (n b m : ℕ) → n ≤ b → n * m ≤ b * m
times_le n b zero le = (let x : n * zero ≡ 0 = omega arith in let y : b * zero ≡ 0 = omega arith in omega arith)
times_le n b (suc m) le =
    let r = times_le n b m le in
    let x : n * suc m ≡ n * m + n = omega arith in
    let y : b * suc m ≡ b * m + b = omega arith in
    omega arith
