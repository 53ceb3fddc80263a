use Rattle.std.proofs.Common.{◌≡◌, ◌<◌, ◌≤◌, ℕ, map, length, sym, ap, ◌∙◌, subst, subst₂, All, IfSome, []}
use Rattle.std.specs.List.{AllZip}
use Rattle.word_ops.specs.declared.sorts.Op.{Op}
use Rattle.word_terms.specs.Tree.{Tree}
use Rattle.word_terms.specs.View.{tree_of}
use Rattle.pattern_match.specs.Classes.{CanFindClass, IsClass}
use Rattle.goal_meaning.specs.Expanded.{expanded_terms, let_terms, let_values}
use Rattle.goal_meaning.specs.Views.{goal_view, input_view, let_view}
use Rattle.goal_meaning.specs.declared.goals.InputReg.{InputReg}
use Rattle.goal_meaning.specs.declared.goals.Set.{Set}
use Rattle.graph_meaning.specs.Multiples.{AreMultiplesOf}
use Rattle.graph_meaning.specs.declared.graphs.LaunchGraph.{LaunchGraph}
use Rattle.saturation.specs.GoalTerms.{entry_term, input_term}
use Rattle.saturation.specs.Numbered.{IsClassNumber, IsInputNumber, IsSetNumber, IsGuardNumber, firsts, indexes_of, launched_row}
use Rattle.saturation.specs.OverLets.{AreLetsBelow}
use Rattle.saturation.proofs.Closed.{Closed}
use Rattle.saturation.proofs.LaunchedRows.{few_used}
use Rattle.saturation.proofs.LaunchedGraphs.{goal_is, lets_below, lets_have, inputs_have, rows_can_have, guard_has, guard_read, sets_have, sets_read, IsApplied, launched, keeps_grown, keeps_stop}
use Rattle.saturation.proofs.launching.to_launch.Goals as goal
use Rattle.saturation.proofs.launching.to_launch.Goals.{In_ok-lets}

pub launch_rows-requires-clause-used : goal.launch_rows-requires-clause-used
launch_rows-requires-clause-used c =
    subst (λ xs. length xs ≤ 16) (sym (c.deref-2.ensures.value ∙ c.in_ok-used.ensures)) (few_used c.args.input.now.ops c.args.saturated.now.graph.rows c.requires.input.few.0 c.requires.can.operators)

pub launch_inputs-requires-clause-there : goal.launch_inputs-requires-clause-there
launch_inputs-requires-clause-there c =
    subst (λ xs. All (λ (i : InputReg). (n : ℕ) × IsClass c.args.saturated.now.graph [] (input_term i.reg) n) xs) (sym c.as_slice-4.ensures) (inputs_have (input_view c.args.input.now) c.args.goal.now c.requires.input c.requires.goal c.args.saturated.now.graph c.requires.can)

pub let_classes-requires-clause-below : goal.let_classes-requires-clause-below
let_classes-requires-clause-below c = subst (λ xs. AreLetsBelow (let_values (map let_view xs))) (sym c.as_slice-2.ensures) (lets_below (input_view c.args.input.now) c.args.goal.now c.requires.input c.requires.goal c.args.saturated.now.graph c.requires.can)

pub let_classes-requires-clause-there : goal.let_classes-requires-clause-there
let_classes-requires-clause-there c =
    subst (λ xs. All (λ (t : Tree Op). (n : ℕ) × IsClass c.args.saturated.now.graph [] t n) (expanded_terms [] (let_values (map let_view xs)))) (sym c.as_slice-2.ensures) (lets_have (input_view c.args.input.now) c.args.goal.now c.requires.input c.requires.goal c.args.saturated.now.graph c.requires.can)

-- the terms without lets, and the classes of the lets
record Facts (c : In_ok-lets) : Type 0 where
  pub closed : Closed c.args.input.now.ops (goal_view c.args.goal.now)
  pub lets : AllZip (IsClass c.args.saturated.now.graph []) (let_terms (goal_view c.args.goal.now)) c.in_ok-lets.lets.items

facts : (c : In_ok-lets) → Facts c
facts c =
    let is = goal_is (input_view c.args.input.now) c.args.goal.now c.requires.input c.requires.goal c.args.saturated.now.graph c.requires.can in
    record {
      closed = record {
        lets = c.expanded_terms_are_sorted.ensures.lets c.args.input.now.ops (goal_view c.args.goal.now) is;
        assumes = c.expanded_terms_are_sorted.ensures.assumes c.args.input.now.ops (goal_view c.args.goal.now) is;
        guard = c.expanded_terms_are_sorted.ensures.guard c.args.input.now.ops (goal_view c.args.goal.now) is;
        sets = c.expanded_terms_are_sorted.ensures.sets c.args.input.now.ops (goal_view c.args.goal.now) is;
      };
      lets = subst (λ xs. AllZip (IsClass c.args.saturated.now.graph []) (expanded_terms [] (let_values (map let_view xs))) c.in_ok-lets.lets.items) c.as_slice-2.ensures c.in_ok-lets.ensures;
    }

-- the rows are those of the graph, with other numbers
launched_rows : (c : In_ok-lets) → c.in_ok-rows.rows.items
    ≡ map (launched_row c.in_ok-numbers.numbers.items (firsts (indexes_of c.args.saturated.now.graph.rows)) c.args.input.now.ops) c.args.saturated.now.graph.rows
launched_rows c =
    let graph = c.args.saturated.now.graph in
    let numbers = c.in_ok-numbers.numbers.items in
    c.in_ok-rows.ensures.rows
    ∙ ap (λ ns. map (launched_row ns c.deref-2.result.now c.as_slice.result.now) graph.rows) c.deref.ensures.value
    ∙ ap (λ ns. map (launched_row numbers ns c.as_slice.result.now) graph.rows) (c.deref-2.ensures.value ∙ c.in_ok-used.ensures)
    ∙ ap (λ ds. map (launched_row numbers (firsts (indexes_of graph.rows)) ds) graph.rows) c.as_slice.ensures

pub known_multiples-requires-clause-below : goal.known_multiples-requires-clause-below
known_multiples-requires-clause-below c =
    let made = (goal.at.known_multiples-requires-clause-below c).In_ok-lets in
    subst (λ rs. All (λ r. (r.class < length rs) × All (λ n. n < length rs) r.operands) rs) (sym c.as_slice-3.ensures.value)
    (rows_can_have (input_view c.args.input.now) c.args.goal.now c.requires.input c.requires.goal c.args.saturated.now.graph c.requires.can
    c.graphs_are_consistent.ensures.rows_below c.in_ok-numbers.numbers.items c.in_ok-numbers.ensures.numbers c.in_ok-rows.rows.items
    (launched_rows made)).below

pub launch_guard-requires-clause-can : goal.launch_guard-requires-clause-can
launch_guard-requires-clause-can c =
    let f = facts (goal.at.launch_guard-requires-clause-can c).In_ok-lets in
    subst (λ ls. IfSome c.args.goal.now.guard (λ t. CanFindClass c.args.saturated.now.graph ls (tree_of t))) (sym c.deref-6.ensures.value) (guard_read (input_view c.args.input.now) c.args.goal.now c.requires.input c.requires.goal c.args.saturated.now.graph c.requires.can f.closed c.in_ok-lets.lets.items f.lets)

pub launch_guard-requires-clause-there : goal.launch_guard-requires-clause-there
launch_guard-requires-clause-there c =
    let f = facts (goal.at.launch_guard-requires-clause-there c).In_ok-lets in
    subst (λ ls. IfSome c.args.goal.now.guard (λ t. (n : ℕ) × IsClass c.args.saturated.now.graph ls (tree_of t) n)) (sym c.deref-6.ensures.value) (guard_has (input_view c.args.input.now) c.args.goal.now c.requires.input c.requires.goal c.args.saturated.now.graph c.requires.can f.closed c.in_ok-lets.lets.items f.lets)

pub launch_sets-requires-clause-can : goal.launch_sets-requires-clause-can
launch_sets-requires-clause-can c =
    let f = facts (goal.at.launch_sets-requires-clause-can c).In_ok-lets in
    subst₂ (λ ls xs. All (λ (s : Set). CanFindClass c.args.saturated.now.graph ls (tree_of s.value)) xs) (sym c.deref-8.ensures.value) (sym c.as_slice-6.ensures) (sets_read (input_view c.args.input.now) c.args.goal.now c.requires.input c.requires.goal c.args.saturated.now.graph c.requires.can f.closed c.in_ok-lets.lets.items f.lets)

pub launch_sets-requires-clause-there : goal.launch_sets-requires-clause-there
launch_sets-requires-clause-there c =
    let f = facts (goal.at.launch_sets-requires-clause-there c).In_ok-lets in
    subst₂ (λ ls xs. All (λ (s : Set). (n : ℕ) × IsClass c.args.saturated.now.graph ls (tree_of s.value) n) xs) (sym c.deref-8.ensures.value) (sym c.as_slice-6.ensures) (sets_have (input_view c.args.input.now) c.args.goal.now c.requires.input c.requires.goal c.args.saturated.now.graph c.requires.can f.closed c.in_ok-lets.lets.items f.lets)

pub returns : goal.returns
returns c =
    let graph = c.args.saturated.now.graph in
    let numbers = c.in_ok-numbers.numbers.items in
    let lets = c.in_ok-lets.lets.items in
    let f = facts (goal.at.returns c).In_ok-lets in
    let g : LaunchGraph = record { rows = c.from.result; multiples = c.in_ok-multiples.multiples; entry = c.leaf_number.result; inputs = c.from-2.result; pool = c.in_ok-from_slice.field-0; guard = c.in_ok-launch_guard.field-0; sets = c.from-3.result } in
    let made : IsApplied (input_view c.args.input.now) c.args.goal.now c.requires.input c.requires.goal graph c.requires.can f.closed lets f.lets numbers g = record {
      numbers_are = c.in_ok-numbers.ensures.numbers;
      rows_are = c.from.ensures ∙ launched_rows (goal.at.returns c).In_ok-lets;
      multiples =
          subst (λ rows. AreMultiplesOf rows c.in_ok-multiples.multiples) (c.as_slice-3.ensures.value ∙ sym c.from.ensures)
          c.in_ok-multiples.ensures;
      entry = subst (λ ns. IsClassNumber graph [] ns entry_term c.leaf_number.result) c.deref-3.ensures.value c.leaf_number.ensures;
      inputs =
          subst (λ cs. AllZip (IsInputNumber graph numbers) cs c.args.goal.now.inputs) (sym c.from-2.ensures)
          (subst (λ is. AllZip (IsInputNumber graph numbers) c.in_ok-launch_inputs.field-0.items is) c.as_slice-4.ensures
          (subst (λ ns. AllZip (IsInputNumber graph ns) c.in_ok-launch_inputs.field-0.items c.as_slice-4.result.now) c.deref-4.ensures.value c.in_ok-launch_inputs.ensures));
      pool = c.in_ok-from_slice.ensures ∙ c.as_slice-5.ensures;
      guard =
          subst (λ ls. IsGuardNumber graph ls (let_terms (goal_view c.args.goal.now)) numbers c.in_ok-launch_guard.field-0 c.args.goal.now.guard) c.deref-6.ensures.value
          (subst (λ ns. IsGuardNumber graph c.deref-6.result.now (let_terms (goal_view c.args.goal.now)) ns c.in_ok-launch_guard.field-0 c.args.goal.now.guard) c.deref-5.ensures.value c.in_ok-launch_guard.ensures);
      sets =
          subst (λ cs. AllZip (IsSetNumber graph lets numbers) cs c.args.goal.now.sets) (sym c.from-3.ensures)
          (subst (λ ss. AllZip (IsSetNumber graph lets numbers) c.in_ok-launch_sets.field-0.items ss) c.as_slice-6.ensures
          (subst (λ ls. AllZip (IsSetNumber graph ls numbers) c.in_ok-launch_sets.field-0.items c.as_slice-6.result.now) c.deref-8.ensures.value
          (subst (λ ns. AllZip (IsSetNumber graph c.deref-8.result.now ns) c.in_ok-launch_sets.field-0.items c.as_slice-6.result.now) c.deref-7.ensures.value c.in_ok-launch_sets.ensures)));
    } in
    record {
      launched = launched (input_view c.args.input.now) c.args.goal.now c.requires.input c.requires.goal graph c.requires.can f.closed lets f.lets numbers g made;
      grown = keeps_grown (input_view c.args.input.now) c.args.goal.now c.requires.input c.requires.goal graph c.requires.can f.closed lets f.lets numbers g made;
      stops = keeps_stop (input_view c.args.input.now) c.args.goal.now c.requires.input c.requires.goal graph c.requires.can f.closed lets f.lets numbers g made c.schemes_are_true.ensures.usable;
    }
