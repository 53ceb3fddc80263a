use Rattle.std.proofs.Common.{◌≡◌, ℕ, ◌+◌, ◌-◌, length, get_or, sym, ap, ◌∙◌, subst, arith}
use Rattle.std.specs.Prelude.{reverse}
use Rattle.cnf_core.specs.Refutation.{clause_at}
use Rattle.sat_core.specs.declared.conflict.Analysis.{Analysis}
use Rattle.sat_core.specs.declared.trail.Step.{Step}
use Rattle.sat_core.specs.Steps.{var_count}
use Rattle.sat_core.specs.Walks.{IsLastDecision, IsDecisionOrEnd, IsWalked, LeadsToConflict, IsBackjump, backjump_after, backjump_at_end}
use Rattle.sat_core.proofs.Walking.{walked-moved, stays-more, back-more, walked-end, leads-end, stays-end, back-end}
use Rattle.sat_core.proofs.conflict.analyze.Goals as goal

pub loop-analysis-preserved : goal.loop-analysis-preserved
loop-analysis-preserved c =
    let clauses = c.args.clauses.now in
    let steps = c.args.trail.now.steps.items in
    let n = var_count c.args.trail.now in
    let a = c.loop-analysis.analysis in
    let b = c.resolve_or_keep.new.self in
    let m = c.set_backjump.new.self in
    let h = c.loop-analysis.invariant in
    let e = c.in_ok-resolve_or_keep.ensures in
    let new = c.set_backjump.ensures in
    let some = c.loop-analysis-test.true in
    let within = h.within in
    let i = c.loop-analysis.index - 1 in
    let at : c.loop-analysis.index ≡ i + 1 = omega arith in
    let conflict = clause_at clauses c.args.id in
    let step = c.index.result.now in
    let (more, is) = e.grows in
    let lits : m.lits.items ≡ b.lits.items = ap (λ (x : Analysis). x.lits.items) new in
    let backjump : m.backjump ≡ backjump_after step (length b.lits.items) i b.backjump = ap (λ (x : Analysis). x.backjump) new in
    record {
      within = omega arith;
      last = subst (IsLastDecision steps) (sym e.last ∙ sym (ap (λ (x : Analysis). x.last) new)) h.last;
      walked = subst (IsWalked clauses n steps i) (sym new) (walked-moved clauses n steps i (backjump_after step (length b.lits.items) i b.backjump) b e.walked);
      leads = subst (λ (x : Analysis). LeadsToConflict clauses steps i x.seen.items x.lits.items (reverse x.hints.items) conflict) (sym new)
          (e.leads conflict (subst (λ (k : ℕ). LeadsToConflict clauses steps k a.seen.items a.lits.items (reverse a.hints.items) conflict) at h.leads));
      stays = stays-more clauses n steps i step a.backjump m.backjump a.lits.items m.lits.items more b e.walked (sym lits) (lits ∙ is) (omega arith)
          (backjump ∙ ap (λ (x : Step). backjump_after x (length b.lits.items) i b.backjump) c.index.ensures ∙ ap (λ (k : ℕ). backjump_after (get_or steps i step) k i b.backjump) (ap length (sym lits))
          ∙ ap (λ (k : ℕ). backjump_after (get_or steps i step) (length m.lits.items) i k) e.backjump)
          (subst (λ (k : ℕ). IsBackjump steps k a.backjump a.lits.items) at h.stays);
      back = subst (IsDecisionOrEnd steps) (sym backjump)
          (back-more steps i (length b.lits.items) b.backjump step c.index.ensures (subst (IsDecisionOrEnd steps) (sym e.backjump) h.back));
      notes = e.notes;
    }

pub returns-clause-last : goal.returns-clause-last
returns-clause-last c = subst (λ (x : Analysis). IsLastDecision c.args.trail.now.steps.items x.last) (sym c.end.ensures) c.loop-analysis.invariant.last

pub returns-clause-walked : goal.returns-clause-walked
returns-clause-walked c =
    let a = c.loop-analysis.analysis in
    let h = c.loop-analysis.invariant in
    let t = c.args.trail.now in
    let end = c.loop-analysis-test.false in
    subst (IsWalked c.args.clauses.now (var_count t) t.steps.items 0) (sym c.end.ensures)
    (walked-end c.args.clauses.now (var_count t) t.steps.items c.loop-analysis.index (backjump_at_end c.first_decision-first.result c.args.restarts (length a.lits.items) a.backjump) a (omega arith) h.walked)

pub returns-clause-leads : goal.returns-clause-leads
returns-clause-leads c =
    let a = c.loop-analysis.analysis in
    let h = c.loop-analysis.invariant in
    let t = c.args.trail.now in
    let clauses = c.args.clauses.now in
    let conflict = clause_at clauses c.args.id in
    let end = c.loop-analysis-test.false in
    subst (λ (x : Analysis). LeadsToConflict clauses t.steps.items 0 x.seen.items x.lits.items (reverse x.hints.items) conflict) (sym c.end.ensures)
    (leads-end clauses (var_count t) t.steps.items c.loop-analysis.index a (reverse a.hints.items) conflict (omega arith) h.walked h.leads)

pub returns-clause-stays : goal.returns-clause-stays
returns-clause-stays c =
    let a = c.loop-analysis.analysis in
    let h = c.loop-analysis.invariant in
    let t = c.args.trail.now in
    let first = c.first_decision-first.result in
    let before = c.first_decision-first.ensures.before in
    subst (λ (x : Analysis). IsBackjump t.steps.items 0 x.backjump x.lits.items) (sym c.end.ensures)
    (stays-end c.args.clauses.now (var_count t) t.steps.items c.loop-analysis.index first c.args.restarts a h.walked before h.stays)

pub returns-clause-back : goal.returns-clause-back
returns-clause-back c =
    let a = c.loop-analysis.analysis in
    let t = c.args.trail.now in
    let first = c.first_decision-first.result in
    let decides = c.first_decision-first.ensures.decides in
    subst (λ (x : Analysis). IsDecisionOrEnd t.steps.items x.backjump) (sym c.end.ensures)
    (back-end t.steps.items first c.args.restarts (length a.lits.items) a.backjump decides c.loop-analysis.invariant.back)
