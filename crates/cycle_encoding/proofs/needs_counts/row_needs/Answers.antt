use Rattle.std.proofs.Common.{◌≡◌, ◌+◌, ◌*◌, ◌∙◌, ℕ, sym, ap}
use Rattle.std.specs.List.{count_by, sum_by}
use Rattle.graph_meaning.specs.declared.graphs.LaunchGraph.{LaunchGraph}
use Rattle.schedule_meaning.specs.Launches.{class_at, operands_at}
use Rattle.schedule_meaning.specs.declared.schedules.To.{To}
use Rattle.schedule_meaning.specs.declared.schedules.To.TheVariants.{Pool, Set}
use Rattle.cycle_encoding.specs.Counts.{one_if}
use Rattle.cycle_encoding.specs.Counts.{needs_clause}
use Rattle.cycle_encoding.specs.Variables.{takes, pinned_sets}
use Rattle.cycle_encoding.proofs.RowPlaces.{sum_all}
use Rattle.cycle_encoding.proofs.needs_counts.row_needs.Goals as goal

pub returns-clause-value : goal.returns-clause-value
returns-clause-value c =
    let g = c.args.facts.now in
    let row = c.args.row in
    let i = c.in-Some.instr in
    let f : To → ℕ = λ to. count_by (needs_clause g to) (operands_at g row) in
    let class : c.class_at-class.result ≡ class_at g row = c.class_at-class.ensures ∙ ap (λ (g : LaunchGraph). class_at g row) c.graph.ensures in
    ap (λ n. n + c.set_needs.result) c.needed_count-own.ensures.value
    ∙ ap (λ n. f Pool + n) (c.set_needs.ensures.value ∙ ap (λ (n : ℕ). sum_by (λ j. one_if (takes g c.args.allocation i n j) * f (Set j)) (pinned_sets g)) class)
    ∙ sym (sum_all g c.args.allocation row f i (sym c.instr_at.ensures ∙ c.in-Some.is) (sym c.gives_word.ensures ∙ c.if-not-gives_word.false))
