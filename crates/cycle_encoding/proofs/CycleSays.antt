-- What the family of what is seen says of the launches and of what is seen, whose variables are true.
use Rattle.std.proofs.Common.{◌≡◌, ℕ, Bool, true, List, [], ◌∷◌}
use Rattle.std.specs.List.{All, list_any}
use Rattle.std.proofs.lemmas.List.Elements.{All-weaker}
use Rattle.cnf_core.specs.Formula.{Satisfies}
use Rattle.machine_table.specs.declared.tables.Table.{Table}
use Rattle.graph_meaning.specs.declared.graphs.LaunchGraph.{LaunchGraph}
use Rattle.schedule_meaning.specs.declared.schedules.Launch.{Launch}
use Rattle.cycle_encoding.specs.Shapes.{vars_of, shown}
use Rattle.cycle_encoding.specs.declared.seen.Seen.{Seen}
use Rattle.cycle_encoding.specs.Families.{makes, seen_clauses}
use Rattle.cycle_encoding.proofs.Shown.{first, one, implied-out, implied-in}
use Rattle.cycle_encoding.proofs.ShownTests.{some-out, some-in}

module _ (g : LaunchGraph) (table : Table) (k : ℕ) (v : ℕ → Bool) (xs : List (ℕ × Launch)) (ds : List (ℕ × Seen)) where
  pub seen-out : Satisfies v (seen_clauses g table xs ds) → All (λ d. list_any (makes g table d) (shown v xs) ≡ true) (shown v ds)
  seen-out h = All-weaker (λ d. Satisfies v (vars_of (makes g table d) xs ∷ [])) (λ d. list_any (makes g table d) (shown v xs) ≡ true) (λ d p. some-out v (makes g table d) xs (first v (vars_of (makes g table d) xs) [] p)) (shown v ds) (implied-out v (λ d. vars_of (makes g table d) xs ∷ []) ds h)

  pub seen-in : All (λ d. list_any (makes g table d) (shown v xs) ≡ true) (shown v ds) → Satisfies v (seen_clauses g table xs ds)
  seen-in h = implied-in v (λ d. vars_of (makes g table d) xs ∷ []) ds (All-weaker (λ d. list_any (makes g table d) (shown v xs) ≡ true) (λ d. Satisfies v (vars_of (makes g table d) xs ∷ [])) (λ d p. one v (vars_of (makes g table d) xs) (some-in v (makes g table d) xs p)) (shown v ds) h)
