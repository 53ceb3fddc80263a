use Rattle.std.proofs.Common.{ℕ, inl, inr, refl, sym, ◌∙◌, subst, arith, get_or, length, None, Option}
use Rattle.std.proofs.lemmas.Bool.{false≢true, cases_eq}
use Rattle.word_ops.specs.declared.sorts.Sort.{Sort}
use Rattle.launch_graph.specs.RowFaults.{IsWrongClass, own, operand}
use Rattle.launch_graph.proofs.SeenClasses.{Differ, bad_number, bad_constant, no_other}
use Rattle.launch_graph.proofs.seen_rows.has_bad_class.Goals as goal

pub returns-then-is_wrong-clause-bad : goal.returns-then-is_wrong-clause-bad
returns-then-is_wrong-clause-bad c = λ all before marks seen.
    (let count = length c.args.marks.now in
    let wrong = (c.is_wrong.ensures.wrong all marks).0 c.if-is_wrong.true in
    (λ e. own (subst (λ (s : Sort). IsWrongClass count all s c.args.row.now.class) c.given_sort.ensures wrong), λ b. refl))

pub returns-then-row-next-clause-bad : goal.returns-then-row-next-clause-bad
returns-then-row-next-clause-bad c = λ all before marks seen.
    (λ e. bad_number (length c.args.marks.now) all before c.args.next c.args.constants.now c.args.row.now seen c.if-row-next.true, λ b. refl)

pub returns-then-differ-clause-bad : goal.returns-then-differ-clause-bad
returns-then-differ-clause-bad c = λ all before marks seen.
    (let count = length c.args.marks.now in
    let low = c.is_wrong.ensures.low c.if-is_wrong.false in
    let differs = c.differ.ensures.0 c.if-differ.true in (
      λ e. bad_constant count all before c.args.next c.args.constants.now c.args.row.now seen low
          (subst (λ (o : Option ℕ). Differ (get_or c.args.constants.now c.args.row.now.class None) o) c.constant.ensures differs),
      λ b. refl,
    ))

pub returns-clause-bad : goal.returns-clause-bad
returns-clause-bad c = λ all before marks seen.
    (let count = length c.args.marks.now in
    let low = c.is_wrong.ensures.low c.if-is_wrong.false in
    let near = c.if-row-next.false in
    let told = c.has_wrong_operand.ensures all marks in (
      λ e. (let w = told.0 e in operand w.0 w.1 w.2 w.3),
      λ b. told.1 (no_other count all before c.args.next c.args.constants.now c.args.row.now seen
          (λ wrong. false≢true (sym c.if-is_wrong.false ∙ (c.is_wrong.ensures.wrong all marks).1 (subst (λ (s : Sort). IsWrongClass count all s c.args.row.now.class) (sym c.given_sort.ensures) wrong)))
          low (omega (arith, near))
          (λ d. false≢true (sym c.if-differ.false ∙ c.differ.ensures.1 (subst (λ (o : Option ℕ). Differ (get_or c.args.constants.now c.args.row.now.class None) o) (sym c.constant.ensures) d)))
          b),
    ))

pub returns-clause-agree : goal.returns-clause-agree
returns-clause-agree c = λ same m n one two.
    elim (cases_eq m n) [
      | inl e ↦ e
      | inr apart ↦
          absurd (false≢true (sym c.if-differ.false
          ∙ c.differ.ensures.1 (subst (λ (o : Option ℕ). Differ (get_or c.args.constants.now c.args.row.now.class None) o) (sym c.constant.ensures) (m, n, one, two, apart))))
    ]
