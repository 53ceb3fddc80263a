use Rattle.std.proofs.Common.{◌≡◌, ◌<◌, ◌∙◌, ap, map, refl, subst, sym}
use Rattle.std.specs.Prelude.{All, unwrap_or}
use Rattle.goal_meaning.specs.Views.{let_view}
use Rattle.proc_goal.specs.Goals.{sets_or_memory}
use Rattle.code_lift.specs.Lifted.{Lifting, assume_of, input_named, inputs_read, lifted, sets_of, spare_registers}
use Rattle.code_lift.specs.LiftingView.{lifting_view}
use Rattle.code_lift.specs.declared.lifting.Address.{Address}
use Rattle.code_lift.proofs.SameGoals.{same_goal}
use Rattle.code_lift.proofs.WordByWord.{small_powers}
use Rattle.code_lift.proofs.lift_goals.goal.Goals as goal

pub assumes-requires : goal.assumes-requires
assumes-requires c =
    subst (All (λ (a : Address). a.power < 4)) (sym c.deref.ensures.value)
    (subst (λ (l : Lifting). All (λ (a : Address). a.power < 4) l.addresses) (sym c.in_ok-lifting.ensures) (small_powers c.as_slice.result.now))

pub sets-requires : goal.sets-requires
sets-requires c = subst (All (λ r. r < 31)) (sym c.as_slice-2.ensures) c.requires.rules.out.low

pub returns : goal.returns
returns c =
    let lift = c.args.lift.now in
    let known = lifting_view c.in_ok-lifting.lifting in
    let is : known ≡ lifted lift.words = c.in_ok-lifting.ensures ∙ ap lifted c.as_slice.ensures in
    same_goal _ _ c.in_ok-name.ensures
    (c.in_ok-inputs.ensures ∙ ap (λ (s : Lifting). map input_named (inputs_read s)) is)
    (c.in_ok-pool.ensures ∙ ap (λ (s : Lifting). unwrap_or lift.pool (spare_registers s lift.out)) is)
    (ap (map let_view) c.from-lets.ensures ∙ ap (λ (s : Lifting). s.lets) is)
    (c.in_ok-assumes.ensures ∙ ap (map assume_of) c.deref.ensures.value ∙ ap (λ (s : Lifting). map assume_of s.addresses) is) refl
    (c.in_ok-sets.ensures ∙ ap (λ out. sets_or_memory (sets_of known out)) c.as_slice-2.ensures ∙ ap (λ (s : Lifting). sets_or_memory (sets_of s lift.out)) is)
