use Rattle.std.proofs.Common.{◌≡◌, ℕ, ◌+◌, ◌<◌, true, false, length, take, get_or, set, refl, sym, subst, arith}
use Rattle.std.proofs.lemmas.List.{length-set}
use Rattle.cnf_core.specs.declared.literal.Lit.{Lit}
use Rattle.sat_core.specs.Walks.{IsStepOf, MarksClause, trail_index, last_level_count}
use Rattle.sat_core.proofs.Marking.{needs-more, late_marked, late_again, late_early, late-le}
use Rattle.sat_core.proofs.conflict.mark_clause.Goals as goal
use Rattle.sat_core.proofs.conflict.mark_clause.Goals.{then-last-index+then-not-seen-index, else-last-index, else-last-index-via-then-last-index+else-not-seen-index, else-last-index-via-else-last-index}

pub overflow_add-added : goal.overflow_add-added
overflow_add-added c =
    let d : Lit = record { var = 0; positive = false } in
    let at : IsStepOf c.args.indices.now (length c.args.seen.now) (get_or c.args.clause.now c.loop-lit.lit-index d) = c.requires.steps c.loop-lit.lit-index d c.loop-lit-test.true in
    let before = at.before in
    let size = c.loop-lit.invariant.size in
    let seen = c.loop-lit.seen in
    let i = trail_index c.args.indices.now (get_or c.args.clause.now c.loop-lit.lit-index d) in
    let low : i < length seen = omega (arith, before, size) in
    let more = late_marked c.args.last i seen low c.if-last-index.true c.if-not-seen-index.true in
    let few = late-le c.args.last (set seen i true) in
    let kept = length-set seen i true in
    let count = c.loop-lit.invariant.count in
    omega (arith, size, more, few, kept, count)

pub loop-lit-preserved : goal.loop-lit-preserved
loop-lit-preserved c =
    let d : Lit = record { var = 0; positive = false } in
    let indices = c.args.indices.now in
    let clause = c.args.clause.now in
    let last = c.args.last in
    let k = c.loop-lit.lit-index in
    let at : IsStepOf indices (length c.args.seen.now) (get_or clause k d) = c.requires.steps k d c.loop-lit-test.true in
    let before = at.before in
    let size = c.loop-lit.invariant.size in
    let seen = c.loop-lit.seen in
    let i = trail_index indices (get_or clause k d) in
    let low : i < length seen = omega (arith, before, size) in
    let more : (n : ℕ) → last_level_count last (set seen i true) ≡ last_level_count last seen + n → MarksClause indices (take (k + 1) clause) clause last c.args.seen.now (set seen i true) (c.loop-lit.added + n) =
    λ n count. needs-more indices clause last k d c.args.seen.now seen (set seen i true) c.loop-lit.added n c.loop-lit-test.true low c.loop-lit.invariant refl count in
    elim c.if-last-index.branch [
      | then-last-index+then-not-seen-index w ↦
          subst (MarksClause indices (take (k + 1) clause) clause last c.args.seen.now (set seen i true)) (sym w.added-is)
          (more 1 (late_marked last i seen low w.if-last-index.true w.if-not-seen-index.true))
      | else-last-index w ↦
          (let same : c.if-last-index.added ≡ c.loop-lit.added + 0 = (let e = w.added-is in omega (arith, e)) in
          subst (MarksClause indices (take (k + 1) clause) clause last c.args.seen.now (set seen i true)) (sym same)
          (more 0 (elim w.else-last-index.branch [
            | else-last-index-via-then-last-index+else-not-seen-index w' ↦ (let e = late_again last i seen low w'.if-not-seen-index.false in omega (arith, e))
            | else-last-index-via-else-last-index w' ↦ (let e = late_early last i seen true w'.if-last-index.false in omega (arith, e))
          ])))
    ]
