use Rattle.std.proofs.Common.{[], Some, map, not, ◌∙◌, sym, ap, subst}
use Rattle.word_terms.specs.View.{tree_of}
use Rattle.goal_meaning.specs.Expanded.{expanded_terms, let_terms, let_values}
use Rattle.goal_meaning.specs.Views.{goal_view, let_view}
use Rattle.graph_meaning.specs.declared.graphs.Guard.{Guard}
use Rattle.saturation.specs.Numbered.{IsGuardNumber}
use Rattle.saturation.specs.OverLets.{has_select_over}
use Rattle.saturation.specs.StandsFor.{has_select}
use Rattle.saturation.proofs.LetTerms.{select_without}
use Rattle.saturation.proofs.launching.launch_guard.Goals as goal

pub returns-in_ok-lets_read_memory-in-Some : goal.returns-in_ok-lets_read_memory-in-Some
returns-in_ok-lets_read_memory-in-Some c =
    let t = tree_of c.in-Some.term in
    let es = let_terms (goal_view c.args.goal.now) in
    let reads = c.deref.ensures.value ∙ c.in_ok-lets_read_memory-in-Some.ensures ∙ ap (λ xs. map has_select (expanded_terms [] (let_values (map let_view xs)))) c.as_slice.ensures in
    let guard : Guard = record { class = c.in_ok-term_number-in-Some.field-0; held = not c.reads_memory.result } in
    subst (IsGuardNumber c.args.graph.now c.args.lets.now es c.args.numbers.now (Some guard)) (sym c.in-Some.is)
    (c.in_ok-term_number-in-Some.ensures, ap not (c.reads_memory.ensures ∙ ap (λ rs. has_select_over rs t) reads ∙ sym (select_without es t)))
