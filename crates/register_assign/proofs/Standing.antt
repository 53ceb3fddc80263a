-- The words of a listing may stand where they do: a branch leads to one word behind the last.
use Rattle.std.proofs.Common.{◌≡◌, ℕ, zero, suc, ◌-◌, ◌<◌, ◌≤◌, List, [], ◌∷◌, length, map, sym, ◌∙◌, ap, subst, inl, inr, arith, pos, Option, Some, None}
use Rattle.std.specs.Prelude.{slice_get, IsSomeAnd}
use Rattle.std.specs.Option.{option_map_or}
use Rattle.std.proofs.lemmas.Option.{same_Some, none-some, slice_get_cases}
use Rattle.word_ops.specs.declared.operates.Operate.{Operate as OperateOf}
use Rattle.word_ops.specs.declared.operators.WordOp.{WordOp}
use Rattle.word_ops.specs.declared.operators.WordOp.TheVariants as ops
use Rattle.word_ops.specs.declared.sorts.Op.{Op}
use Rattle.word_ops.specs.declared.sorts.Op.TheVariants as op
use Rattle.alpha_encode.specs.Decoded.{decoded}
use Rattle.alpha_encode.specs.declared.instructions.Instr.{Instr}
use Rattle.alpha_encode.specs.declared.instructions.Instr.TheVariants as instrs
use Rattle.alpha_machine.specs.Runs.{IsAllowedAt, AllMayStand}
use Rattle.register_assign.specs.Listings.{instr_of, copy_instr, row_instr, word_instr, operate_instr, items_of, branch_class, reg}
use Rattle.schedule_meaning.specs.Launches.{copied_at}
use Rattle.register_assign.specs.Outcomes.{AreWordsOf, instrs_of}
use Rattle.graph_meaning.specs.declared.graphs.LaunchRow.{LaunchRow}
use Rattle.graph_meaning.specs.declared.graphs.LaunchGraph.{LaunchGraph}
use Rattle.machine_table.specs.declared.tables.Table.{Table}
use Rattle.schedule_meaning.specs.declared.schedules.Allocation.{Allocation}
use Rattle.schedule_meaning.specs.declared.schedules.Launch.{Launch}
use Rattle.schedule_meaning.proofs.Rules.{in_list}
use Rattle.register_assign.proofs.Whole.{word_at_place}
use Rattle.register_assign.proofs.Falling.{words_count, items_count}

at_map : {X Y : Type 0} (f : X → Y) (xs : List X) (i : ℕ) (x : X) → slice_get xs i ≡ Some x → slice_get (map f xs) i ≡ Some (f x)
at_map f [] i x e = absurd (none-some x e)
at_map f (y ∷ ys) zero x e = ap (λ z. Some (f z)) (same_Some y x e)
at_map f (y ∷ ys) (suc i) x e = at_map f ys i x e

module _ (g : LaunchGraph) (table : Table) (allocation : Allocation) (ordered : List Launch) (n : ℕ) (l : Launch)
    (count : ℕ) (total : count ≡ length ordered) where
  operate_stands : (o : OperateOf) (xs : List ℕ) → IsAllowedAt count n (operate_instr g table allocation ordered n l o xs)
  operate_stands o [] = tt
  operate_stands o (x ∷ []) = tt
  operate_stands o (x ∷ y ∷ ys) = tt

  word_stands : (o : WordOp) (xs : List ℕ) → IsAllowedAt count n (word_instr g table allocation ordered n l o xs)
  word_stands ops.Lda xs = tt
  word_stands ops.Ldah xs = tt
  word_stands (ops.Operate o) xs = operate_stands o xs
  word_stands _ xs = tt

  row_stands : (o : Op) (xs : List ℕ) → IsAllowedAt count n (row_instr g table allocation ordered n l o xs)
  row_stands (op.Word o) xs = word_stands o xs
  row_stands (op.Select access) xs = tt
  row_stands (op.Store access) xs = tt
  row_stands (op.Load access) xs = tt
  row_stands (op.Put access) xs = tt
  row_stands op.Entry xs = tt
  row_stands (op.Input r) xs = tt
  row_stands (op.Constant c) xs = tt
  row_stands (op.Declared d a) xs = tt

  stands_by : (o : Option LaunchRow) → IsAllowedAt count n (option_map_or (λ r. row_instr g table allocation ordered n l r.op r.operands) o (instrs.Beq (reg g table allocation ordered n l (branch_class g table allocation ordered n l)) (pos (length ordered - n))))
  stands_by None = ap (λ m. pos (m - n)) (sym total)
  stands_by (Some r) = row_stands r.op r.operands

  stands_copied : (o : Option ℕ) → IsAllowedAt count n (option_map_or (copy_instr g table allocation ordered n l) o (option_map_or (λ r. row_instr g table allocation ordered n l r.op r.operands) (slice_get g.rows l.row) (instrs.Beq (reg g table allocation ordered n l (branch_class g table allocation ordered n l)) (pos (length ordered - n)))))
  stands_copied (Some class) = tt
  stands_copied None = stands_by (slice_get g.rows l.row)

  instr_stands : IsAllowedAt count n (instr_of g table allocation ordered n l)
  instr_stands = stands_copied (copied_at g l.row)

pub words_stand : (g : LaunchGraph) (table : Table) (allocation : Allocation) (ordered : List Launch) (words : List ℕ)
    → AreWordsOf (items_of g table allocation ordered) words → AllMayStand words
words_stand g table allocation ordered words are at word here =
    let total : length words ≡ length ordered = words_count (items_of g table allocation ordered) words are ∙ items_count g table allocation ordered 0 ordered in
    let inside : at < length words = in_list words at word here in
    elim ((slice_get_cases ordered at).1) [
      | inl a ↦ (
          let is : decoded word ≡ Some (instr_of g table allocation ordered at a.0) =
          same_Some (decoded word) (Some (instr_of g table allocation ordered at a.0))
          (sym (at_map decoded words at word here) ∙ ap (λ os. slice_get os at) are ∙ at_map Some (instrs_of (items_of g table allocation ordered)) at (instr_of g table allocation ordered at a.0) (word_at_place g table allocation ordered at a.0 a.2)) in
          subst (λ (o : Option Instr). IsSomeAnd o (IsAllowedAt (length words) at)) (sym is) (instr_stands g table allocation ordered at a.0 (length words) total))
      | inr b ↦ (let le : length ordered ≤ at = b.0 in absurd (omega arith))
    ]
