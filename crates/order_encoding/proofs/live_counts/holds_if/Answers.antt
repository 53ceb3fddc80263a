use Rattle.std.proofs.Common.{◌≡◌, ◌∙◌, ◌*◌, ℕ, sym, ap, arith}
use Rattle.cycle_encoding.specs.Counts.{one_if}
use Rattle.order_encoding.specs.OrderCounts.{row_holds}
use Rattle.order_encoding.proofs.live_counts.holds_if.Goals as goal

pub returns-then-passes-clause-value : goal.returns-then-passes-clause-value
returns-then-passes-clause-value c =
    let all = row_holds c.args.frame.now.facts.now c.args.frame.now.table.now c.args.frame.now.k c.args.frame.now.scope.now c.args.row in
    let one : (x : ℕ) → x ≡ 1 * x = λ x. omega arith in
    c.row_holds.ensures.value ∙ one all ∙ ap (λ b. one_if b * all) (sym c.if-passes.true)

pub returns-else-passes-clause-value : goal.returns-else-passes-clause-value
returns-else-passes-clause-value c =
    let all = row_holds c.args.frame.now.facts.now c.args.frame.now.table.now c.args.frame.now.k c.args.frame.now.scope.now c.args.row in
    let none : (x : ℕ) → 0 ≡ 0 * x = λ x. omega arith in
    none all ∙ ap (λ b. one_if b * all) (sym c.if-passes.false)
