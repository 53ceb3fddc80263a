use Rattle.std.proofs.Common.{◌≡◌, ◌<◌, ℕ, List, length, Some, get_or, sym, ap, ◌∙◌, subst, arith, inl, inr, refl}
use Rattle.std.specs.Prelude.{slice_get}
use Rattle.std.proofs.lemmas.Bool.{false≢true, cases_eq}
use Rattle.std.proofs.lemmas.Option.{slice_get-get_or, get_or_from_slice_get, slice_get_within}
use Rattle.word_ops.specs.declared.sorts.Sort.{Sort}
use Rattle.launch_graph.specs.RowFaults.{IsWrongClass, sort_taken}
use Rattle.launch_graph.proofs.class_marks.has_wrong_operand.Goals as goal

operand_at : (operands others : List ℕ) (at : ℕ) → others ≡ operands → at < length others → slice_get operands at ≡ Some (get_or others at 0)
operand_at operands others at e less = subst (λ (xs : List ℕ). slice_get xs at ≡ Some (get_or others at 0)) e (slice_get-get_or others at 0 less)

the_same : (operands others : List ℕ) (at class : ℕ) → others ≡ operands → slice_get operands at ≡ Some class → get_or others at 0 ≡ class
the_same operands others at class e is = ap (λ (xs : List ℕ). get_or xs at 0) e ∙ get_or_from_slice_get operands at class 0 is

pub returns-then-is_wrong : goal.returns-then-is_wrong
returns-then-is_wrong c = λ rows h.
    (let operands = c.as_slice-operands.result.now in
    let at = c.loop-at.at in
    let wrong = (c.is_wrong.ensures.wrong rows h).0 c.if-is_wrong.true in (
      λ e. (
        at,
        get_or operands at 0,
        operand_at c.args.row.now.operands operands at c.as_slice-operands.ensures c.loop-at-test.true,
        subst (λ (s : Sort). IsWrongClass (length c.args.marks.now) rows s (get_or operands at 0)) c.taken_sort.ensures wrong,
      ),
      λ w. refl,
    ))

pub loop-at-preserved : goal.loop-at-preserved
loop-at-preserved c = λ rows h at class less is wrong.
    (let operands = c.as_slice-operands.result.now in
    elim (cases_eq at c.loop-at.at) [
      | inl same ↦
          (let here : get_or operands c.loop-at.at 0 ≡ class = the_same c.args.row.now.operands operands c.loop-at.at class c.as_slice-operands.ensures (subst (λ n. slice_get c.args.row.now.operands n ≡ Some class) same is) in
          let bad = subst (λ n. IsWrongClass (length c.args.marks.now) rows (sort_taken c.args.row.now.op n) class) same wrong in
          let told = subst (λ (s : Sort). IsWrongClass (length c.args.marks.now) rows s (get_or operands c.loop-at.at 0)) (sym c.taken_sort.ensures) (subst (λ n. IsWrongClass (length c.args.marks.now) rows (sort_taken c.args.row.now.op c.loop-at.at) n) (sym here) bad) in
          false≢true (sym c.if-is_wrong.false ∙ (c.is_wrong.ensures.wrong rows h).1 told))
      | inr other ↦ c.loop-at.invariant rows h at class (omega arith) is wrong
    ])

pub returns : goal.returns
returns c = λ rows h. (
  λ e. absurd (false≢true e),
  λ w. (let operands = c.as_slice-operands.ensures in
      let size : length c.as_slice-operands.result.now ≡ length c.args.row.now.operands = ap (λ (xs : List ℕ). length xs) operands in
      let within = slice_get_within c.args.row.now.operands w.0 w.1 w.2 in
      let done = c.loop-at-test.false in
      absurd (c.loop-at.invariant rows h w.0 w.1 (omega (arith, size, within, done)) w.2 w.3)),
)
