use Rattle.std.proofs.Common.{◌≡◌, ◌∙◌, ◌*◌, ℕ, sym, ap, arith}
use Rattle.std.specs.Prelude.{length}
use Rattle.cycle_encoding.specs.Counts.{one_if, row_destinations}
use Rattle.order_encoding.proofs.DestinedSteps.{sum_same}
use Rattle.order_encoding.proofs.tallies.places_if.Goals as goal

pub returns-then-passes-clause-value : goal.returns-then-passes-clause-value
returns-then-passes-clause-value c =
    let g = c.args.facts.now in
    let places = length (row_destinations g c.args.allocation c.args.row) in
    let one : (x : ℕ) → x ≡ x * 1 = λ x. omega arith in
    c.destination_count.ensures.value ∙ one places ∙ ap (λ b. places * one_if b) (sym c.if-passes.true)
    ∙ sym (sum_same g c.args.allocation c.args.row (one_if c.args.passes))

pub returns-else-passes-clause-value : goal.returns-else-passes-clause-value
returns-else-passes-clause-value c =
    let g = c.args.facts.now in
    let places = length (row_destinations g c.args.allocation c.args.row) in
    let none : (x : ℕ) → 0 ≡ x * 0 = λ x. omega arith in
    none places ∙ ap (λ b. places * one_if b) (sym c.if-passes.false)
    ∙ sym (sum_same g c.args.allocation c.args.row (one_if c.args.passes))
