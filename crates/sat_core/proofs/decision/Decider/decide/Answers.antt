use Rattle.std.proofs.Common.{◌≡◌, ℕ, ◌-◌, ◌<◌, ◌≤◌, false, [], ◌∷◌, ◌++◌, None, length, refl, sym, ap, ◌∙◌, subst, arith}
use Rattle.std.proofs.lemmas.List.{get_or_read}
use Rattle.pick_rule.specs.declared.pick.Pick.{Pick}
use Rattle.cnf_core.specs.declared.literal.Lit.{Lit}
use Rattle.sat_core.specs.declared.trail.Trail.{Trail}
use Rattle.sat_core.specs.Steps.{var_count, assignment_of, IsTrailState}
use Rattle.sat_core.specs.Picks.{decision_of, IsDecidedBy, Offers}
use Rattle.sat_core.specs.Tournament.{IsBest}
use Rattle.sat_core.proofs.Choices.{best-choice, over-none}
use Rattle.sat_core.proofs.Offering.{offers-decided}
use Rattle.sat_core.proofs.States.{decision-right}
use Rattle.sat_core.proofs.decision.Decider.decide.Goals as goal

pub returns-then-is_free-clause-decided : goal.returns-then-is_free-clause-decided
returns-then-is_free-clause-decided c =
    let d = c.loop-var.self in
    let h = c.loop-var.invariant in
    let old = c.args.trail.now in
    let new = c.assign.new.self in
    let mid = c.loop-var.trail in
    let x = c.in-Some.var in
    let best : IsBest d.tournament x = c.in-Some.ensures in
    let free : assignment_of mid.values.items x ≡ None = c.is_free.ensures.0 c.if-is_free.true in
    let low = best.above in
    let high : x ≤ length mid.values.items = (let within = best.within in let size = h.offers.players in omega arith) in
    let positive = c.index.result.now in
    let few : x - 1 < length d.phases.items = (let size = h.offers.phases in omega arith) in
    let choice = best-choice mid.values.items d x h.offers best free in
    let lit : Lit = record { var = x; positive = positive } in
    let decided : IsDecidedBy d.pick d.scores.items mid new = record {
      place = choice.place;
      positive = positive;
      picked = choice.picked;
      within = choice.within;
      tried = λ other. get_or_read d.phases.items (x - 1) positive few c.index.ensures false ∙ h.offers.tried other (x - 1);
      steps = c.in_ok-assign.ensures.steps ∙ ap (λ (y : ℕ). mid.steps.items ++ decision_of y positive ∷ []) (sym choice.is);
      state = λ clauses state. c.in_ok-assign.ensures.state clauses state
          (decision-right clauses (var_count mid) mid.steps.items mid.values.items mid.indices.items mid.decisions.items lit state low high free);
    } in
    subst (λ (t : Trail). IsDecidedBy c.args.self.now.pick c.args.self.now.scores.items t new) h.trail
    (subst (λ (p : Pick). IsDecidedBy p c.args.self.now.scores.items mid new) h.pick
    (subst (λ v. IsDecidedBy d.pick v.items mid new) h.scores decided))

pub returns-then-is_free-clause-offers : goal.returns-then-is_free-clause-offers
returns-then-is_free-clause-offers c = λ clauses state'.
    let d = c.loop-var.self in
    let h = c.loop-var.invariant in
    let new = c.assign.new.self in
    let mid = c.loop-var.trail in
    let x = c.in-Some.var in
    let best : IsBest d.tournament x = c.in-Some.ensures in
    let free : assignment_of mid.values.items x ≡ None = c.is_free.ensures.0 c.if-is_free.true in
    let low = best.above in
    let high : x ≤ length mid.values.items = (let within = best.within in let size = h.offers.players in omega arith) in
    let lit : Lit = record { var = x; positive = c.index.result.now } in
    let state : IsTrailState clauses (var_count mid) mid = subst (λ (t : Trail). IsTrailState clauses (var_count t) t) (sym h.trail) state' in
    let right = decision-right clauses (var_count mid) mid.steps.items mid.values.items mid.indices.items mid.decisions.items lit state low high free in
    offers-decided clauses (var_count mid) mid.steps.items new.steps.items (record { lit = lit; reason = None }) mid.values.items new.values.items mid.indices.items new.indices.items mid.decisions.items new.decisions.items d
    (record d { tournament = c.remove.new.self }) state (c.in_ok-assign.ensures.state clauses state right) c.in_ok-assign.ensures.steps
    refl refl refl c.remove.ensures low h.offers

pub returns-clause-decided : goal.returns-clause-decided
returns-clause-decided c =
    let d = c.loop-var.self in
    let h = c.loop-var.invariant in
    (over-none c.args.trail.now.values.items d (subst (λ (t : Trail). Offers t.values.items d) h.trail h.offers) c.in_default.ensures, h.trail)
