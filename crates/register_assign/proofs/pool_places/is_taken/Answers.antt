use Rattle.std.proofs.Common.{rules, ◌≡◌, ℕ, ◌∙◌, get_or, refl, sym, true, false, arith, ◌&&◌, Bool}
use Rattle.std.specs.Prelude.{◌==◌}
use Rattle.schedule_meaning.specs.Lifetimes.{holds}
use Rattle.schedule_meaning.specs.declared.schedules.Allocation.TheVariants.{Live}
use Rattle.schedule_meaning.specs.declared.schedules.Launch.{Launch}
use Rattle.schedule_meaning.specs.declared.schedules.To.TheVariants.{Pool}
use Rattle.schedule_meaning.proofs.Comparisons.{and_both}
use Rattle.schedule_meaning.proofs.Pins.{number_same, same_number}
use Rattle.register_assign.proofs.Zipped.{none_more, none_passes, one_passes}
use Rattle.register_assign.proofs.pool_places.is_taken.Goals as goal
use Rattle.register_assign.proofs.pool_places.is_taken.Goals.{else-had-place-via-then-had-place+else-holds, else-had-place-via-else-had-place}

and_not_right : (a b : Bool) → b ≡ false → (a && b) ≡ false
and_not_right true b e = e
and_not_right false b e = refl

and_not_left : (a b : Bool) → ¬ (a ≡ true) → (a && b) ≡ false
and_not_left true b n = absurd (n refl)
and_not_left false b n = refl

pub returns-then-holds : goal.returns-then-holds
returns-then-holds c =
    let passes : Launch × ℕ → Bool = λ h. (h.1 == c.args.place) && holds c.args.graph.now Live c.args.launches.now
    c.args.cycle h.0 in
    let l : Launch = get_or c.args.launches.now c.loop-before.before
    (record { cycle = 0; slot = 0; row = 0; to = Pool }) in
    let had : ℕ = get_or c.args.places.now c.loop-before.before 0 in
    let same : had ≡ c.args.place = c.if-had-place.true in
    let held : holds c.args.graph.now Live c.args.launches.now c.args.cycle l ≡ true = search rules in
    sym (one_passes passes c.args.launches.now c.args.places.now c.requires c.loop-before.before (record {
      cycle =
          0;
      slot = 0;
      row = 0;
      to = Pool;
    }) c.loop-before-test.true
    (and_both (had == c.args.place) (holds c.args.graph.now Live c.args.launches.now c.args.cycle l)
    (number_same had c.args.place same) held))

pub loop-before-preserved : goal.loop-before-preserved
loop-before-preserved c =
    let passes : Launch × ℕ → Bool = λ h. (h.1 == c.args.place) && holds c.args.graph.now Live c.args.launches.now
    c.args.cycle h.0 in
    let l : Launch = get_or c.args.launches.now c.loop-before.before
    (record { cycle = 0; slot = 0; row = 0; to = Pool }) in
    let had : ℕ = get_or c.args.places.now c.loop-before.before 0 in
    let held : Bool = holds c.args.graph.now Live c.args.launches.now c.args.cycle l in
    none_more passes c.args.launches.now c.args.places.now c.requires c.loop-before.before (record {
      cycle =
          0;
      slot = 0;
      row = 0;
      to = Pool;
    }) c.loop-before-test.true c.loop-before.invariant
    (elim c.else-had-place.branch [
      | else-had-place-via-then-had-place+else-holds w ↦
          and_not_right (had == c.args.place) held (sym w.holds.ensures ∙ w.if-holds.false)
      | else-had-place-via-else-had-place w ↦
          and_not_left (had == c.args.place) held (λ t. w.if-had-place.false (same_number had c.args.place t))
    ])

pub returns : goal.returns
returns c =
    let passes : Launch × ℕ → Bool = λ h. (h.1 == c.args.place) && holds c.args.graph.now Live c.args.launches.now
    c.args.cycle h.0 in
    sym (none_passes passes c.args.launches.now c.args.places.now c.requires c.loop-before.before (omega arith)
    c.loop-before.invariant)
