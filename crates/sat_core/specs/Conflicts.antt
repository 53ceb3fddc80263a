-- How the search goes on after a conflict: this project; no public clause cites it.
use Rattle.std.specs.Prelude.{ℕ, List, [], ◌∷◌, ◌++◌}
use Rattle.cnf_core.specs.declared.literal.Lit.{Lit}
use Rattle.cnf_core.specs.Refutation.{IsFresh}
use Rattle.sat_core.specs.declared.trail.Trail.{Trail}
use Rattle.sat_core.specs.Steps.{IsTrailState, AreClosedBefore}

-- the lemma is fresh after these clauses, and the search goes on from the trail with it
pub record GoesOnWith (clauses : List (List Lit)) (n : ℕ) (lemma : List Lit) (trail : Trail) : Type 0 where
  pub fresh : IsFresh clauses lemma
  pub state : IsTrailState (clauses ++ lemma ∷ []) n trail
  pub before : AreClosedBefore (clauses ++ lemma ∷ []) trail.steps.items
