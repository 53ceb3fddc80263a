use Rattle.std.proofs.Common.{sym, ◌∙◌, subst}
use Rattle.std.proofs.lemmas.List.{nil_from_length}
use Rattle.sat_core.proofs.Deciding.{IsFirstDecision, first-none, first-read, empty-of}
use Rattle.sat_core.proofs.trail.Trail.first_decision.Goals as goal

pub returns-then-is_empty-clause-before : goal.returns-then-is_empty-clause-before
returns-then-is_empty-clause-before c =
    let t = c.args.self.now in
    let none = nil_from_length t.decisions.items (sym t.decisions.ok.0 ∙ empty-of t.decisions.len c.is_empty.result c.is_empty.ensures c.if-is_empty.true) in
    (subst (IsFirstDecision t.steps.items) (sym (c.len.ensures ∙ t.steps.ok.0)) (first-none t.steps.items (sym c.requires.decided ∙ none))).before

pub returns-else-is_empty-clause-decides : goal.returns-else-is_empty-clause-decides
returns-else-is_empty-clause-decides c =
    let t = c.args.self.now in
    let ds = t.decisions in
    (first-read t.steps.items ds.items c.index.result.now ds.len c.is_empty.result c.requires.decided ds.ok.0 c.is_empty.ensures c.if-is_empty.false c.index.ensures).decides

pub returns-else-is_empty-clause-before : goal.returns-else-is_empty-clause-before
returns-else-is_empty-clause-before c =
    let t = c.args.self.now in
    let ds = t.decisions in
    (first-read t.steps.items ds.items c.index.result.now ds.len c.is_empty.result c.requires.decided ds.ok.0 c.is_empty.ensures c.if-is_empty.false c.index.ensures).before
