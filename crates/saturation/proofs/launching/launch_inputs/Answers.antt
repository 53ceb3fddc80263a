use Rattle.std.proofs.Common.{◌+◌, take, refl, sym, subst, ℕ, []}
use Rattle.std.specs.List.{AllZip}
use Rattle.pattern_match.specs.Classes.{IsClass}
use Rattle.goal_meaning.specs.declared.goals.InputReg.{InputReg}
use Rattle.saturation.specs.GoalTerms.{input_term}
use Rattle.saturation.specs.Numbered.{IsInputNumber}
use Rattle.saturation.proofs.Mapped.{all_zip_next}
use Rattle.saturation.proofs.launching.launch_inputs.Goals as goal

pub leaf_number-requires-clause-there : goal.leaf_number-requires-clause-there
leaf_number-requires-clause-there c =
    let i = c.loop-input.input-index in
    let x = c.input-item.result in
    subst (λ (r : InputReg). (n : ℕ) × IsClass c.args.graph.now [] (input_term r.reg) n) (sym c.input-item.is) (c.requires.there i x c.loop-input-test.true)

pub loop-input-preserved : goal.loop-input-preserved
loop-input-preserved c =
    let i = c.loop-input.input-index in
    let x = c.input-item.result in
    subst (λ ys. AllZip (IsInputNumber c.args.graph.now c.args.numbers.now) ys (take (i + 1) c.args.inputs.now)) (sym c.in_ok-push.ensures.items)
    (all_zip_next (IsInputNumber c.args.graph.now c.args.numbers.now) c.args.inputs.now c.loop-input.classes.items i x _ c.loop-input-test.true c.input-item.is c.loop-input.invariant (record { name = c.in_ok-copy.ensures; register = refl; class = c.leaf_number.ensures }))
