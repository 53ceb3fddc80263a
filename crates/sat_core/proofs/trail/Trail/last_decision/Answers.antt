use Rattle.std.proofs.Common.{ℕ, List, ◌-◌, ◌≡◌, length, get_or, sym, ap, ◌∙◌, subst, arith}
use Rattle.std.proofs.lemmas.List.{get_or_read, nil_from_length}
use Rattle.sat_core.specs.Walks.{IsLastDecision}
use Rattle.sat_core.proofs.Deciding.{last-none, last-some}
use Rattle.sat_core.proofs.trail.Trail.last_decision.Goals as goal

pub returns-then-count-eq0 : goal.returns-then-count-eq0
returns-then-count-eq0 c =
    let t = c.args.self.now in
    let none = nil_from_length t.decisions.items (sym (c.len-count.ensures ∙ t.decisions.ok.0) ∙ c.if-count-eq0.true) in
    subst (IsLastDecision t.steps.items) (sym (c.len.ensures ∙ t.steps.ok.0)) (last-none t.steps.items (sym c.requires.decided ∙ none))

pub returns-else-count-eq0 : goal.returns-else-count-eq0
returns-else-count-eq0 c =
    let t = c.args.self.now in
    let count = c.len-count.result in
    let size : count ≡ length t.decisions.items = c.len-count.ensures ∙ t.decisions.ok.0 in
    let some = c.if-count-eq0.false in
    let is = ap length c.requires.decided in
    subst (IsLastDecision t.steps.items) (sym (get_or_read t.decisions.items (count - 1) c.index.result.now (omega arith) c.index.ensures 0 ∙ ap (λ (ds : List ℕ). get_or ds (count - 1) 0) c.requires.decided))
    (last-some t.steps.items (count - 1) (omega arith))
