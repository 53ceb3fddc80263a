use Rattle.std.proofs.Common.{◌-◌, ℕ, [], ◌∷◌, ◌++◌, length, ap, ◌∙◌, refl}
use Rattle.std.specs.Prelude.{slice_set}
use Rattle.sat_core.proofs.States.{steps-push}
use Rattle.sat_core.proofs.Deciding.{push-with, stay-with}
use Rattle.sat_core.specs.Steps.{var_count}
use Rattle.sat_core.proofs.trail.Trail.assign.Goals as goal

pub returns-in_ok-push-2-clause-state : goal.returns-in_ok-push-2-clause-state
returns-in_ok-push-2-clause-state c = λ clauses h right.
    let old = c.args.self.now in
    let size = c.len-place.ensures ∙ old.steps.ok.0 in
    steps-push clauses (var_count old) old.steps.items _ old.values.items _ old.indices.items _ old.decisions.items _ c.args.step c.of.result c.of.ensures c.requires.exist
    c.in_ok-push.ensures.items refl (ap (λ (n : ℕ). slice_set old.indices.items (c.args.step.lit.var - 1) n) size)
    (push-with c.args.step.reason c.is_none.result (length old.steps.items) old.decisions.items _ c.is_none.ensures c.if-is_none.true
    (c.in_ok-push-2.ensures.items ∙ ap (λ (n : ℕ). old.decisions.items ++ n ∷ []) size)) h right

pub returns-else-is_none-clause-state : goal.returns-else-is_none-clause-state
returns-else-is_none-clause-state c = λ clauses h right.
    let old = c.args.self.now in
    let size = c.len-place.ensures ∙ old.steps.ok.0 in
    steps-push clauses (var_count old) old.steps.items _ old.values.items _ old.indices.items _ old.decisions.items _ c.args.step c.of.result c.of.ensures c.requires.exist
    c.in_ok-push.ensures.items refl (ap (λ (n : ℕ). slice_set old.indices.items (c.args.step.lit.var - 1) n) size)
    (stay-with c.args.step.reason c.is_none.result (length old.steps.items) old.decisions.items c.is_none.ensures c.if-is_none.false) h right
