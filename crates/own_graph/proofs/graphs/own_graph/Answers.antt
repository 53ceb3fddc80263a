use Rattle.std.proofs.Common.{◌≡◌, [], length, map, fold, None, refl, sym, ap, ap₂, ◌∙◌, subst, All}
use Rattle.word_ops.specs.declared.sorts.Op.TheVariants.{Input}
use Rattle.graph_meaning.specs.Multiples.{AreMultiplesOf}
use Rattle.goal_meaning.specs.Views.{target_view}
use Rattle.code_lift.specs.Lifted.{goal_of_lift}
use Rattle.code_lift.specs.LiftingView.{lifting_view}
use Rattle.code_lift.specs.Views.{lift_view}
use Rattle.own_graph.specs.Own.{IsOwnGraph, with_multiple}
use Rattle.own_graph.specs.OwnView.{IsGiven, own_view}
use Rattle.own_graph.specs.Rows.{HasItsRow}
use Rattle.own_graph.specs.declared.operands.Part.TheVariants.{Leaf}
use Rattle.own_graph.proofs.OwnGoals.{IsBehind, WordsAreFormed, addresses_are_given, few_rows_of, has_room, inputs_have_rows, inputs_made, is_launch_graph, pool_made, powers_are_low, registers_of_lift, rows_are_below, rows_of_lift, sets_have_low_pins, sets_have_rows, sets_made, values_are_given}
use Rattle.own_graph.proofs.OwnMeaning.{AreDisplaced}
use Rattle.own_graph.proofs.OwnTruth.{is_true_of}
use Rattle.own_graph.proofs.graphs.own_graph.Goals as goal

pub run-requires-clause-inputs : goal.run-requires-clause-inputs
run-requires-clause-inputs c =
    c.deref.ensures.value ∙ c.in_ok-registers.ensures
    ∙ registers_of_lift (lift_view c.args.lift.now) c.as_slice.result.now (c.as_slice.ensures ∙ ap (λ g. g.inputs) c.in_ok-goal.ensures)

pub input_classes-requires : goal.input_classes-requires
input_classes-requires c =
    let lift = lift_view c.args.lift.now in
    let law : WordsAreFormed = λ w i l e. (c.words_and_instructions.ensures.forth w i l e).0 in
    let s = lifting_view c.in_ok-lifting.lifting in
    let o = own_view c.in_ok-lifting.own in
    let behind : IsBehind lift s o = record { lifting_is = c.in_ok-lifting.ensures.lifting; own_is = c.in_ok-lifting.ensures.own } in
    subst (λ rows. All (λ i. HasItsRow rows (Leaf (Input i.reg))) c.as_slice-2.result.now) (sym c.deref-2.ensures.value)
    (inputs_have_rows law lift c.requires s o behind c.as_slice-2.result.now (c.as_slice-2.ensures ∙ ap (λ g. g.inputs) c.in_ok-goal.ensures))

pub set_classes-requires-clause-low : goal.set_classes-requires-clause-low
set_classes-requires-clause-low c =
    let lift = lift_view c.args.lift.now in
    let law : WordsAreFormed = λ w i l e. (c.words_and_instructions.ensures.forth w i l e).0 in
    let s = lifting_view c.in_ok-lifting.lifting in
    let o = own_view c.in_ok-lifting.own in
    let behind : IsBehind lift s o = record { lifting_is = c.in_ok-lifting.ensures.lifting; own_is = c.in_ok-lifting.ensures.own } in
    sets_have_low_pins law lift c.requires s o behind c.as_slice-3.result.now (ap (map target_view) c.as_slice-3.ensures ∙ ap (λ g. g.sets) c.in_ok-goal.ensures)

pub set_classes-requires-clause-given : goal.set_classes-requires-clause-given
set_classes-requires-clause-given c =
    let lift = lift_view c.args.lift.now in
    let law : WordsAreFormed = λ w i l e. (c.words_and_instructions.ensures.forth w i l e).0 in
    let s = lifting_view c.in_ok-lifting.lifting in
    let o = own_view c.in_ok-lifting.own in
    let behind : IsBehind lift s o = record { lifting_is = c.in_ok-lifting.ensures.lifting; own_is = c.in_ok-lifting.ensures.own } in
    values_are_given law lift c.requires s o behind

pub set_classes-requires-clause-rows : goal.set_classes-requires-clause-rows
set_classes-requires-clause-rows c =
    let lift = lift_view c.args.lift.now in
    let law : WordsAreFormed = λ w i l e. (c.words_and_instructions.ensures.forth w i l e).0 in
    let s = lifting_view c.in_ok-lifting.lifting in
    let o = own_view c.in_ok-lifting.own in
    let behind : IsBehind lift s o = record { lifting_is = c.in_ok-lifting.ensures.lifting; own_is = c.in_ok-lifting.ensures.own } in
    sets_have_rows law lift c.requires s o behind c.as_slice-3.result.now (ap (map target_view) c.as_slice-3.ensures ∙ ap (λ g. g.sets) c.in_ok-goal.ensures)

pub place_multiples-requires-clause-given : goal.place_multiples-requires-clause-given
place_multiples-requires-clause-given c =
    let lift = lift_view c.args.lift.now in
    let law : WordsAreFormed = λ w i l e. (c.words_and_instructions.ensures.forth w i l e).0 in
    let s = lifting_view c.in_ok-lifting.lifting in
    let o = own_view c.in_ok-lifting.own in
    let behind : IsBehind lift s o = record { lifting_is = c.in_ok-lifting.ensures.lifting; own_is = c.in_ok-lifting.ensures.own } in
    subst (λ values. All (λ a. IsGiven (length values) a.value) c.deref-4.result.now) (sym c.deref-3.ensures.value)
    (addresses_are_given law lift c.requires s o behind c.deref-4.result.now c.deref-4.ensures.value)

pub place_multiples-requires-clause-powers : goal.place_multiples-requires-clause-powers
place_multiples-requires-clause-powers c =
    let lift = lift_view c.args.lift.now in
    let law : WordsAreFormed = λ w i l e. (c.words_and_instructions.ensures.forth w i l e).0 in
    let s = lifting_view c.in_ok-lifting.lifting in
    let o = own_view c.in_ok-lifting.own in
    let behind : IsBehind lift s o = record { lifting_is = c.in_ok-lifting.ensures.lifting; own_is = c.in_ok-lifting.ensures.own } in
    powers_are_low law lift c.requires s o behind c.deref-4.result.now c.deref-4.ensures.value

pub place_multiples-requires-clause-room : goal.place_multiples-requires-clause-room
place_multiples-requires-clause-room c =
    let lift = lift_view c.args.lift.now in
    let law : WordsAreFormed = λ w i l e. (c.words_and_instructions.ensures.forth w i l e).0 in
    let s = lifting_view c.in_ok-lifting.lifting in
    let o = own_view c.in_ok-lifting.own in
    let behind : IsBehind lift s o = record { lifting_is = c.in_ok-lifting.ensures.lifting; own_is = c.in_ok-lifting.ensures.own } in
    has_room law lift c.requires s o behind c.deref-4.result.now c.deref-4.ensures.value

pub known_multiples-requires-clause-few_rows : goal.known_multiples-requires-clause-few_rows
known_multiples-requires-clause-few_rows c =
    let lift = lift_view c.args.lift.now in
    let law : WordsAreFormed = λ w i l e. (c.words_and_instructions.ensures.forth w i l e).0 in
    let s = lifting_view c.in_ok-lifting.lifting in
    let o = own_view c.in_ok-lifting.own in
    let behind : IsBehind lift s o = record { lifting_is = c.in_ok-lifting.ensures.lifting; own_is = c.in_ok-lifting.ensures.own } in
    let addresses = c.deref-4.ensures.value in
    let rows_are = rows_of_lift law lift c.requires s o behind c.as_slice-5.result.now c.place_multiples.new.rows.items
    (c.in_ok-place_multiples.ensures ∙ ap₂ (λ values addresses. fold (with_multiple values) o.rows addresses) c.deref-3.ensures.value addresses) c.as_slice-5.ensures.value in
    few_rows_of law lift c.requires s o behind c.as_slice-5.result.now rows_are

pub known_multiples-requires-clause-below : goal.known_multiples-requires-clause-below
known_multiples-requires-clause-below c =
    let lift = lift_view c.args.lift.now in
    let law : WordsAreFormed = λ w i l e. (c.words_and_instructions.ensures.forth w i l e).0 in
    let s = lifting_view c.in_ok-lifting.lifting in
    let o = own_view c.in_ok-lifting.own in
    let behind : IsBehind lift s o = record { lifting_is = c.in_ok-lifting.ensures.lifting; own_is = c.in_ok-lifting.ensures.own } in
    let addresses = c.deref-4.ensures.value in
    let rows_are = rows_of_lift law lift c.requires s o behind c.as_slice-5.result.now c.place_multiples.new.rows.items
    (c.in_ok-place_multiples.ensures ∙ ap₂ (λ values addresses. fold (with_multiple values) o.rows addresses) c.deref-3.ensures.value addresses) c.as_slice-5.ensures.value in
    rows_are_below law lift c.requires s o behind c.graphs_are_consistent.ensures.rows_below c.as_slice-5.result.now rows_are

pub returns : goal.returns
returns c =
    let lift = lift_view c.args.lift.now in
    let law : WordsAreFormed = λ w i l e. (c.words_and_instructions.ensures.forth w i l e).0 in
    let s = lifting_view c.in_ok-lifting.lifting in
    let o = own_view c.in_ok-lifting.own in
    let behind : IsBehind lift s o = record { lifting_is = c.in_ok-lifting.ensures.lifting; own_is = c.in_ok-lifting.ensures.own } in
    let addresses = c.deref-4.ensures.value in
    let sets_are : map target_view c.in_ok-goal.goal.sets ≡ (goal_of_lift lift).sets = ap (λ g. g.sets) c.in_ok-goal.ensures in
    let inputs_are : c.in_ok-goal.goal.inputs ≡ (goal_of_lift lift).inputs = ap (λ g. g.inputs) c.in_ok-goal.ensures in
    let own : IsOwnGraph lift (record { rows = c.from.result; multiples = c.in_ok-multiples.multiples; entry = 0; inputs = c.in_ok-inputs.inputs; pool = c.in_ok-pool.pool; guard = None; sets = c.in_ok-sets.sets }) = record {
      rows = rows_of_lift law lift c.requires s o behind c.from.result c.place_multiples.new.rows.items
          (c.in_ok-place_multiples.ensures ∙ ap₂ (λ values addresses. fold (with_multiple values) o.rows addresses) c.deref-3.ensures.value addresses) c.from.ensures;
      multiples = subst (λ rows. AreMultiplesOf rows c.in_ok-multiples.multiples) (c.as_slice-5.ensures.value ∙ sym c.from.ensures) c.in_ok-multiples.ensures;
      entry = refl;
      inputs = c.in_ok-inputs.ensures ∙ inputs_made lift s o behind c.deref-2.result.now c.as_slice-2.result.now c.deref-2.ensures.value (c.as_slice-2.ensures ∙ inputs_are);
      pool = c.in_ok-pool.ensures ∙ pool_made lift s o behind c.deref-5.result.now c.as_slice-4.result.now (c.deref-5.ensures.value ∙ c.in_ok-registers.ensures ∙ registers_of_lift lift c.as_slice.result.now (c.as_slice.ensures ∙ inputs_are)) (ap (map target_view) c.as_slice-4.ensures ∙ sets_are);
      guard = refl;
      sets = c.in_ok-sets.ensures ∙ sets_made lift s o behind c.as_slice-3.result.now (ap (map target_view) c.as_slice-3.ensures ∙ sets_are);
    } in
    let displaced : AreDisplaced = record { low = c.displacements_are_low_bits.ensures.low; high = c.displacements_are_low_bits.ensures.high } in
    record {
      own = own;
      well_formed = is_launch_graph law lift c.requires _ own c.goals_of_lifts_are_well_formed.ensures.well_formed;
      is_true = is_true_of law displaced (λ w is_world op vs. c.meanings_are_in_range.ensures.values w (λ n. []) op vs is_world)
          c.lifted_goals_are_their_code.ensures.does c.lifted_goals_are_their_code.ensures.decided lift c.requires _ own;
    }
