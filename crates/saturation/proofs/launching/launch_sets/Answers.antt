use Rattle.std.proofs.Common.{◌+◌, take, refl, sym, subst, ℕ}
use Rattle.std.specs.List.{AllZip}
use Rattle.word_terms.specs.View.{tree_of}
use Rattle.pattern_match.specs.Classes.{IsClass}
use Rattle.goal_meaning.specs.declared.goals.Set.{Set}
use Rattle.saturation.specs.Numbered.{IsSetNumber}
use Rattle.saturation.proofs.Mapped.{all_zip_next}
use Rattle.saturation.proofs.launching.launch_sets.Goals as goal

pub term_number-requires-clause-there : goal.term_number-requires-clause-there
term_number-requires-clause-there c =
    let i = c.loop-set.set-index in
    let x = c.set-item.result in
    subst (λ (r : Set). (n : ℕ) × IsClass c.args.graph.now c.args.lets.now (tree_of r.value) n) (sym c.set-item.is) (c.requires.there i x c.loop-set-test.true)

pub loop-set-preserved : goal.loop-set-preserved
loop-set-preserved c =
    let i = c.loop-set.set-index in
    let x = c.set-item.result in
    subst (λ ys. AllZip (IsSetNumber c.args.graph.now c.args.lets.now c.args.numbers.now) ys (take (i + 1) c.args.sets.now)) (sym c.in_ok-push.ensures.items)
    (all_zip_next (IsSetNumber c.args.graph.now c.args.lets.now c.args.numbers.now) c.args.sets.now c.loop-set.classes.items i x _ c.loop-set-test.true c.set-item.is c.loop-set.invariant (record { name = c.in_ok-copy.ensures; pin = refl; class = c.in_ok-term_number.ensures }))
