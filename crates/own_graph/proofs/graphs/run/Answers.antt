use Rattle.std.proofs.Common.{◌≡◌, ◌<◌, ◌≤◌, Some, length, take, slice_index, map, sym, ap, ap₂, ◌∙◌, subst, subst₂, arith, filter_map, All}
use Rattle.std.proofs.lemmas.List.{length-map, length-take-le, take_all}
use Rattle.std.proofs.lemmas.List.Elements.{All-take}
use Rattle.text_core.specs.Limits.{most_inputs}
use Rattle.alpha_encode.specs.Decoded.{decoded}
use Rattle.goal_meaning.specs.Views.{let_view}
use Rattle.code_lift.specs.Lifted.{at_start, lift_step, lifted}
use Rattle.code_lift.specs.LiftingView.{lifting_view}
use Rattle.code_lift.specs.Limits.{most_lift_words}
use Rattle.code_lift.specs.Views.{lift_view}
use Rattle.code_lift.specs.WellFormed.{IsPlainWord}
use Rattle.own_graph.specs.Own.{own_from, own_start, own_step}
use Rattle.own_graph.specs.OwnView.{own_view}
use Rattle.own_graph.specs.Rows.{HasRoom}
use Rattle.own_graph.proofs.OwnGoals.{low_inputs}
use Rattle.own_graph.proofs.OwnRuns.{are_given, lifted_next, own_next, words_room}
use Rattle.own_graph.proofs.OwnSteps.{IsKnown, known_start, known_step}
use Rattle.own_graph.proofs.graphs.run.Goals as goal

pub loop-at-init : goal.loop-at-init
loop-at-init c = record {
  lifting_is = c.new-lifting.ensures;
  own_is = c.in_ok-own.ensures;
  known = subst₂ (λ s o. IsKnown c.args.inputs.now s o) (sym c.new-lifting.ensures) (sym c.in_ok-own.ensures) (known_start c.args.inputs.now (subst (All (λ r. r < 31)) (sym c.requires.inputs) (low_inputs (lift_view c.args.lift.now))));
  few_lets =
      (let none : length (map let_view c.new-lifting.result.lets.items) ≡ 0 = ap (λ s. length s.lets) c.new-lifting.ensures in
      omega (arith, none, length-map c.new-lifting.result.lets.items let_view));
}

pub step-requires-clause-given : goal.step-requires-clause-given
step-requires-clause-given c = are_given c.args.inputs.now (lifting_view c.loop-at.lifting) (own_view c.loop-at.own) c.loop-at.invariant.known

pub step-requires-clause-room : goal.step-requires-clause-room
step-requires-clause-room c =
    let k = c.loop-at.at in
    let words = c.as_slice-words.result.now in
    let inputs = c.args.inputs.now in
    let plain : All IsPlainWord words = subst (All IsPlainWord) (sym c.as_slice-words.ensures) c.requires.lift.rules.words in
    let few_words : length words ≤ most_lift_words = subst (λ ws. length ws ≤ most_lift_words) (sym c.as_slice-words.ensures) c.requires.lift.rules.few_words in
    let few_inputs : length inputs ≤ most_inputs = subst (λ rs. length rs ≤ most_inputs) (sym c.requires.inputs) c.requires.lift.rules.few_inputs in
    let within = c.loop-at-test.true in
    let count : length (take k words) ≡ k = length-take-le k words (omega (arith, within)) in
    subst (λ o. HasRoom 5 o.rows) (sym c.loop-at.invariant.own_is)
    (words_room 5 inputs (take k words) (All-take IsPlainWord k words plain) (omega (arith, count, within, few_words, few_inputs)))

pub loop-at-preserved : goal.loop-at-preserved
loop-at-preserved c =
    let k = c.loop-at.at in
    let words = c.as_slice-words.result.now in
    let inputs = c.args.inputs.now in
    let plain : All IsPlainWord words = subst (All IsPlainWord) (sym c.as_slice-words.ensures) c.requires.lift.rules.words in
    let i = c.in-Some.instr in
    let s = lifting_view c.loop-at.lifting in
    let o = own_view c.loop-at.own in
    let old = c.loop-at.invariant in
    let is : decoded (slice_index words k) ≡ Some i = sym c.in-Some.ensures.fields in
    let step = c.in_ok-step-2.ensures.step in
    let own = c.in_ok-step.ensures in
    record {
      lifting_is = step ∙ ap (lift_step k i) old.lifting_is ∙ sym (lifted_next words k i c.loop-at-test.true plain is);
      own_is = own ∙ ap₂ (λ s o. own_step s i o) old.lifting_is old.own_is ∙ sym (own_next words k i c.loop-at-test.true plain is (own_start inputs));
      known = subst₂ (λ s o. IsKnown inputs s o) (sym step) (sym own) (known_step inputs s o old.known k i c.in-Some.ensures.some.0);
      few_lets = (let few = c.in_ok-step-2.ensures.few in omega (arith, few, old.few_lets));
    }

pub returns : goal.returns
returns c =
    let words = c.as_slice-words.result.now in
    let old = c.loop-at.invariant in
    let all : take c.loop-at.at words ≡ c.args.lift.now.words = take_all c.loop-at.at words c.loop-at-test.false ∙ c.as_slice-words.ensures in
    record {
      lifting = old.lifting_is ∙ ap lifted all;
      own = old.own_is ∙ ap₂ (λ ws rs. own_from 0 (filter_map decoded ws) at_start (own_start rs)) all c.requires.inputs;
    }
