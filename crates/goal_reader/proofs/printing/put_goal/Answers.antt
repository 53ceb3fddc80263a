use Rattle.std.proofs.Common.{◌≡◌, ◌++◌, List, ap, ◌∙◌, map, codes, option_map}
use Rattle.forms.specs.Printing.{others_of, plain_text, plains_from}
use Rattle.goal_meaning.specs.Expanded.{let_names}
use Rattle.goal_meaning.specs.InputForms.{Naming, assume_plain, guard_plains, input_plain, let_plain, naming, pool_plain, target_plain}
use Rattle.goal_meaning.specs.Views.{assume_view, let_view, target_view}
use Rattle.goal_meaning.specs.declared.goals.Assume.{Assume}
use Rattle.goal_meaning.specs.declared.goals.Let.{Let}
use Rattle.goal_meaning.specs.declared.goals.Set.{Set}
use Rattle.word_terms.specs.View.{tree_of}
use Rattle.goal_reader.proofs.Printed.{goal_items, goal_printed}
use Rattle.goal_reader.proofs.printing.put_goal.Goals as goal

pub returns : goal.returns
returns c =
    let g = c.args.goal.now in
    let d = c.args.declared.now in
    let inputs = c.as_slice-inputs.ensures in
    let lets = c.as_slice-lets.ensures in
    let names : Naming = naming d g.inputs (let_names (map let_view g.lets)) in
    let same : naming d c.as_slice-inputs.result.now c.as_slice-names.result.now ≡ names =
    ap (λ is. naming d is c.as_slice-names.result.now) inputs
    ∙ ap (λ ns. naming d g.inputs ns) (c.as_slice-names.ensures ∙ c.in_ok-names.ensures ∙ ap (λ (ls : List Let). let_names (map let_view ls)) lets) in
    let binds : Naming → List Let → List _ = λ ns xs. others_of (plains_from (map (λ (l : Let). let_plain ns (let_view l)) xs)) in
    let assumes : Naming → List Assume → List _ = λ ns xs. others_of (plains_from (map (λ (a : Assume). assume_plain ns (assume_view a)) xs)) in
    let guards : Naming → List _ = λ ns. others_of (plains_from (guard_plains ns (option_map tree_of g.guard))) in
    let targets : Naming → List Set → List _ = λ ns xs. others_of (plains_from (map (λ (t : Set). target_plain ns (target_view t)) xs)) in
    goal_printed c.args.text.now.items c.extend_from_slice.new.self.items c.extend_from_slice-2.new.self.items c.put_inputs.new.text.items c.extend_from_slice-3.new.self.items c.put_pool.new.text.items c.put_lets.new.text.items c.put_assumes.new.text.items c.put_guard.new.text.items c.put_targets.new.text.items c.extend_from_slice-4.new.self.items
    (codes "(goal ") g.name (others_of (plains_from (map input_plain g.inputs))) (plain_text (pool_plain g.pool)) (binds names g.lets) (assumes names g.assumes) (guards names) (targets names g.sets) _ (goal_items d g names)
    c.in_ok-extend_from_slice.ensures.items
    (c.in_ok-extend_from_slice-2.ensures.items ∙ ap (λ l. c.extend_from_slice.new.self.items ++ l) c.bytes.ensures)
    (c.in_ok-put_inputs.ensures ∙ ap (λ is. c.extend_from_slice-2.new.self.items ++ others_of (plains_from (map input_plain is))) inputs)
    c.in_ok-extend_from_slice-3.ensures.items
    (c.in_ok-put_pool.ensures ∙ ap (λ p. c.extend_from_slice-3.new.self.items ++ plain_text (pool_plain p)) c.as_slice.ensures)
    (c.in_ok-put_lets.ensures ∙ ap (λ ns. c.put_pool.new.text.items ++ binds ns c.as_slice-lets.result.now) same ∙ ap (λ xs. c.put_pool.new.text.items ++ binds names xs) lets)
    (c.in_ok-put_assumes.ensures ∙ ap (λ ns. c.put_lets.new.text.items ++ assumes ns c.as_slice-2.result.now) same ∙ ap (λ xs. c.put_lets.new.text.items ++ assumes names xs) c.as_slice-2.ensures)
    (c.in_ok-put_guard.ensures ∙ ap (λ ns. c.put_assumes.new.text.items ++ guards ns) same)
    (c.in_ok-put_targets.ensures ∙ ap (λ ns. c.put_guard.new.text.items ++ targets ns c.as_slice-3.result.now) same ∙ ap (λ xs. c.put_guard.new.text.items ++ targets names xs) c.as_slice-3.ensures)
    c.in_ok-extend_from_slice-4.ensures.items
