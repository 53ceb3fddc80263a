use Rattle.std.proofs.Common.{◌≡◌, ◌≤◌, ◌+◌, ◌∙◌, ℕ, List, length, sym, ap, subst}
use Rattle.std.specs.List.{count_by}
use Rattle.std.proofs.lemmas.List.{take_all}
use Rattle.graph_meaning.specs.declared.graphs.LaunchGraph.{LaunchGraph}
use Rattle.schedule_meaning.specs.Launches.{class_at}
use Rattle.cycle_encoding.specs.Variables.{takes, pinned_sets}
use Rattle.cycle_encoding.proofs.RowPlaces.{count_is}
use Rattle.cycle_encoding.proofs.reaching.destination_count.Goals as goal

pub returns-clause-value : goal.returns-clause-value
returns-clause-value c =
    let g = c.args.facts.now in
    let row = c.args.row in
    let i = c.in-Some.instr in
    let class : c.class_at-class.result ≡ class_at g row = c.class_at-class.ensures ∙ ap (λ (g : LaunchGraph). class_at g row) c.graph.ensures in
    let end : length (pinned_sets g) ≤ c.loop-set.set-index = subst (λ (js : List ℕ). length js ≤ c.loop-set.set-index) c.pins-set-items.ensures.value c.loop-set-test.false in
    let all = take_all c.loop-set.set-index (pinned_sets g) end in
    c.loop-set.invariant.is
    ∙ ap (λ (js : List ℕ). 1 + count_by (takes g c.args.allocation i c.class_at-class.result) js) all
    ∙ ap (λ (n : ℕ). 1 + count_by (takes g c.args.allocation i n) (pinned_sets g)) class
    ∙ sym (count_is g c.args.allocation row i (sym c.instr_at.ensures ∙ c.in-Some.is) (sym c.gives_word.ensures ∙ c.if-not-gives_word.false))
