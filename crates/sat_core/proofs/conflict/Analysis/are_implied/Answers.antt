use Rattle.std.proofs.Common.{◌≡◌, ◌-◌, ◌<◌, true, length, get_or, refl, inl, inr, subst, arith}
use Rattle.std.specs.Prelude.{◌⊎◌}
use Rattle.std.specs.List.{All}
use Rattle.std.proofs.lemmas.List.{get_or_read, take_all}
use Rattle.std.proofs.lemmas.List.Elements.{All-more}
use Rattle.sat_core.specs.Watches.{no_literal}
use Rattle.sat_core.specs.Walks.{trail_index, is_marked, IsStepOf, IsImpliedStep, AddsNoLiteral}
use Rattle.sat_core.proofs.Resolving.{adds-none, mark-read}
use Rattle.sat_core.proofs.conflict.Analysis.are_implied.Goals as goal
use Rattle.sat_core.proofs.conflict.Analysis.are_implied.Goals.{else-other-index-via-then-other-index+then-first-other+then-not-index+else-not-is_implied, else-other-index-via-then-other-index+then-first-other+else-not-index, else-other-index-via-then-other-index+else-first-other, else-other-index-via-else-other-index}

pub loop-lit-preserved : goal.loop-lit-preserved
loop-lit-preserved c =
    let t = c.args.trail.now in
    let clauses = c.args.clauses.now in
    let seen = c.args.self.now.seen.items in
    let indices = t.indices.items in
    let clause = c.args.clause.now in
    let i = c.loop-lit.lit-index in
    let m = get_or clause i no_literal in
    let j = c.index-other.result.now in
    let step : IsStepOf indices (length t.steps.items) m = c.requires.steps i no_literal c.loop-lit-test.true in
    let within : m.var - 1 < length indices = (let above = step.above in let high = step.within in omega arith) in
    let at : j ≡ trail_index indices m = get_or_read indices (m.var - 1) j within c.index-other.ensures 0 in
    let few : j < length seen = (let before = step.before in let size = c.requires.size in omega arith) in
    let which : (j ≡ c.args.index) ⊎ (j < c.args.first) ⊎ (is_marked seen j ≡ true) ⊎ IsImpliedStep clauses t.steps.items indices seen c.args.first j = elim c.else-other-index.branch [
      | else-other-index-via-then-other-index+then-first-other+then-not-index+else-not-is_implied w ↦ inr (inr (inr (w.is_implied.ensures.0 w.if-not-is_implied.false)))
      | else-other-index-via-then-other-index+then-first-other+else-not-index w ↦ inr (inr (inl (mark-read seen j w.index.result.now true few w.index.ensures w.if-not-index.false)))
      | else-other-index-via-then-other-index+else-first-other w ↦ (let early = w.if-first-other.false in inr (inl (omega arith)))
      | else-other-index-via-else-other-index w ↦ inl w.if-other-index.false
    ] in
    All-more (AddsNoLiteral clauses t.steps.items indices seen c.args.first c.args.index) clause i no_literal c.loop-lit-test.true c.loop-lit.invariant
    (adds-none clauses t.steps.items indices seen c.args.first c.args.index j m at which)

pub returns : goal.returns
returns c =
    let t = c.args.trail.now in (
      (λ on. subst (All (AddsNoLiteral c.args.clauses.now t.steps.items t.indices.items c.args.self.now.seen.items c.args.first c.args.index))
          (take_all c.loop-lit.lit-index c.args.clause.now (let end = c.loop-lit-test.false in omega arith)) c.loop-lit.invariant),
      (λ all. refl),
    )
