use Rattle.std.proofs.Common.{◌≡◌, ◌≤◌, ◌+◌, ◌*◌, ◌∙◌, ℕ, List, false, length, sym, ap, subst, arith}
use Rattle.std.specs.Option.{option_map_or}
use Rattle.std.specs.List.{sum_by}
use Rattle.std.proofs.lemmas.List.{take_all}
use Rattle.graph_meaning.specs.Graphs.{is_input_register}
use Rattle.graph_meaning.specs.declared.graphs.LaunchGraph.{LaunchGraph}
use Rattle.schedule_meaning.specs.Launches.{class_at, pin_of}
use Rattle.schedule_meaning.specs.declared.schedules.To.{To}
use Rattle.cycle_encoding.specs.Counts.{one_if}
use Rattle.cycle_encoding.specs.Variables.{takes, pinned_sets, is_overwriting}
use Rattle.cycle_encoding.proofs.RowPlaces.{sum_all}
use Rattle.cycle_encoding.proofs.reaching.late.Goals as goal

none_first : (n : ℕ) → n ≡ 0 + n
none_first n = omega arith

pub returns-clause-value : goal.returns-clause-value
returns-clause-value c =
    let g = c.args.facts.now in
    let row = c.args.row in
    let i = c.in-Some.instr in
    let class : c.class_at-class.result ≡ class_at g row = c.class_at-class.ensures ∙ ap (λ (g : LaunchGraph). class_at g row) c.graph.ensures in
    let end : length (pinned_sets g) ≤ c.loop-set.set-index = subst (λ (js : List ℕ). length js ≤ c.loop-set.set-index) c.pins-set-items.ensures.value c.loop-set-test.false in
    let all = take_all c.loop-set.set-index (pinned_sets g) end in
    let f : To → ℕ = λ to. one_if (option_map_or (is_input_register g) (pin_of g to) false) in
    c.loop-set.invariant.is
    ∙ ap (λ (js : List ℕ). sum_by (λ j. one_if (takes g c.args.allocation i c.class_at-class.result j) * one_if (is_overwriting g j)) js) all
    ∙ ap (λ (n : ℕ). sum_by (λ j. one_if (takes g c.args.allocation i n j) * one_if (is_overwriting g j)) (pinned_sets g)) class
    ∙ none_first (sum_by (λ j. one_if (takes g c.args.allocation i (class_at g row) j) * one_if (is_overwriting g j)) (pinned_sets g))
    ∙ sym (sum_all g c.args.allocation row f i (sym c.instr_at.ensures ∙ c.in-Some.is) (sym c.gives_word.ensures ∙ c.if-not-gives_word.false))
