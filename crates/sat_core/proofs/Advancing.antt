-- One turn of the search between conflicts: propagation, then a decision.
use Rattle.std.proofs.Common.{◌≡◌, ℕ, ◌<◌, ◌≤◌, List, [], ◌∷◌, ◌++◌, length, sym, ap, ◌∙◌, subst, arith}
use Rattle.std.proofs.lemmas.List.{length-append, length_push}
use Rattle.cnf_core.specs.declared.literal.Lit.{Lit}
use Rattle.cnf_core.specs.Formula.{AreOver}
use Rattle.cnf_core.specs.Values.{IsClosed}
use Rattle.sat_core.specs.declared.trail.Step.{Step}
use Rattle.sat_core.specs.declared.trail.Trail.{Trail}
use Rattle.sat_core.specs.Steps.{assignment_of, var_count, IsTrailState, Propagates, AreClosedBefore}
use Rattle.sat_core.proofs.States.{propagated-closed, decided-closed, closed-held}

-- what a turn that decided leaves
pub record IsAdvanced (clauses : List (List Lit)) (n : ℕ) (old new : Trail) : Type 0 where
  pub state : IsTrailState clauses n new
  pub before : AreClosedBefore clauses new.steps.items
  pub size : var_count new ≡ n
  pub grown : length old.steps.items < length new.steps.items
  pub room : length new.steps.items ≤ n

pub advanced : (clauses : List (List Lit)) (n : ℕ) (old mid new : Trail) (step : Step)
    → AreOver n clauses → var_count old ≡ n → AreClosedBefore clauses old.steps.items
    → IsTrailState clauses (var_count old) mid → Propagates old.steps.items mid.steps.items → IsClosed (assignment_of mid.values.items) clauses
    → new.steps.items ≡ mid.steps.items ++ step ∷ [] → ((cs : List (List Lit)) → IsTrailState cs (var_count mid) mid → IsTrailState cs (var_count mid) new)
    → IsAdvanced clauses n old new
advanced clauses n old mid new step over size before state adds closed is keeps =
    let mid-n : var_count mid ≡ n = state.size ∙ size in
    let state-n = subst (λ (k : ℕ). IsTrailState clauses k mid) size state in
    let new-n = subst (λ (k : ℕ). IsTrailState clauses k new) mid-n (keeps clauses (subst (λ (k : ℕ). IsTrailState clauses k mid) (sym state.size) state)) in
    let (added, is-mid, forced) = adds in
    let long = ap length is ∙ length_push mid.steps.items step in
    let long' = ap length is-mid ∙ length-append old.steps.items added in
    let room = new-n.room in
    record {
      state = new-n;
      before = decided-closed clauses mid.steps.items new.steps.items step (propagated-closed clauses old.steps.items mid.steps.items before adds)
          (closed-held clauses n mid.steps.items mid.values.items mid.indices.items mid.decisions.items state-n over closed) is;
      size = new-n.size;
      grown = omega arith;
      room = omega arith;
    }
