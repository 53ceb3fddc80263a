use Rattle.std.proofs.Common.{◌≤◌, ◌∙◌, ℕ, List, length, ap, subst}
use Rattle.std.specs.List.{filter}
use Rattle.std.proofs.lemmas.List.{take_all}
use Rattle.cycle_encoding.specs.Variables.{is_overwriting, pinned_sets}
use Rattle.cycle_encoding.proofs.DestinedTotals.{overwriting_pins}
use Rattle.cycle_encoding.proofs.overwriting.overwritten_vars.Goals as goal

pub returns-clause-sets : goal.returns-clause-sets
returns-clause-sets c =
    let g = c.args.facts.now in
    let end : length (pinned_sets g) ≤ c.loop-set.set-index = subst (λ (js : List ℕ). length js ≤ c.loop-set.set-index) c.pins-set-items.ensures.value c.loop-set-test.false in
    c.loop-set.invariant.are ∙ ap (λ (js : List ℕ). filter (is_overwriting g) js) (take_all c.loop-set.set-index (pinned_sets g) end) ∙ overwriting_pins g
