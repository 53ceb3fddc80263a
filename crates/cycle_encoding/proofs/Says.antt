-- What the families of cycles, slots and values say where sets may have pins, of the launches, of what is seen and of
-- what isn't overwritten.
use Rattle.std.proofs.Common.{◌≡◌, ℕ, Bool, true, List, ◌++◌, map, sym, ◌∙◌}
use Rattle.std.specs.Prelude.{◌||◌}
use Rattle.std.specs.List.{All, filter, list_any}
use Rattle.std.proofs.lemmas.List.Elements.{All-weaker}
use Rattle.cnf_core.specs.declared.literal.Lit.{Lit}
use Rattle.cnf_core.specs.Formula.{clause_true, Satisfies}
use Rattle.machine_table.specs.Tables.{cluster_of}
use Rattle.schedule_meaning.specs.Launches.{operands_at, gives, reads_until}
use Rattle.schedule_meaning.specs.declared.schedules.Operand.{Operand}
use Rattle.machine_table.specs.declared.tables.Table.{Table}
use Rattle.graph_meaning.specs.declared.graphs.LaunchGraph.{LaunchGraph}
use Rattle.graph_meaning.specs.declared.graphs.SetClass.{SetClass}
use Rattle.schedule_meaning.specs.declared.schedules.Launch.{Launch}
use Rattle.cycle_encoding.specs.Shapes.{vars_of, negated, shown}
use Rattle.cycle_encoding.specs.declared.seen.Seen.{Seen}
use Rattle.cycle_encoding.specs.Families.{is_seen, makes}
use Rattle.cycle_encoding.specs.Variables.{Overwritten}
use Rattle.cycle_encoding.specs.Families.{is_made_target, is_needed, is_lost, target_clauses, operand_clause, operand_clauses}
use Rattle.cycle_encoding.proofs.Shown.{implied-out, implied-in, map-out, map-in}
use Rattle.cycle_encoding.proofs.Unshown.{hidden, either-of}

module _ (g : LaunchGraph) (table : Table) (k : ℕ) where
  -- H is what isn't overwritten
  pub record SaysPinnedCycles (S : List Launch) (D : List Seen) (H : List Overwritten) : Type 0 where
    pub targets : All (λ s. (list_any (gives g s.class) S || list_any (is_lost g s.class k) H) ≡ true) (filter (is_made_target g) g.sets)
    pub operands : All (λ l. All (λ o. (list_any (is_seen o.class (cluster_of table l.slot) l.cycle) D || list_any (is_lost g o.class (reads_until g l)) H) ≡ true) (filter (is_needed g l) (operands_at g l.row))) S
    pub seen : All (λ d. list_any (makes g table d) S ≡ true) D

module _ (g : LaunchGraph) (table : Table) (k : ℕ) (v : ℕ → Bool) (xs : List (ℕ × Launch)) where
  module _ (vs : List (ℕ × Overwritten)) where
    abbrev reached : SetClass → List Lit
    reached s = vars_of (gives g s.class) xs ++ negated (is_lost g s.class k) vs

    abbrev IsReachedNow : SetClass → Type 0
    IsReachedNow s = (list_any (gives g s.class) (shown v xs) || list_any (is_lost g s.class k) (hidden v vs)) ≡ true

    reached_is : (s : SetClass) → clause_true v (reached s) ≡ (list_any (gives g s.class) (shown v xs) || list_any (is_lost g s.class k) (hidden v vs))
    reached_is s = either-of v (gives g s.class) (is_lost g s.class k) xs vs

    pub targets-out : Satisfies v (target_clauses g k xs vs) → All IsReachedNow (filter (is_made_target g) g.sets)
    targets-out h = All-weaker (λ s. clause_true v (reached s) ≡ true) IsReachedNow (λ s p. sym (reached_is s) ∙ p) (filter (is_made_target g) g.sets) (map-out v reached (filter (is_made_target g) g.sets) h)

    pub targets-in : All IsReachedNow (filter (is_made_target g) g.sets) → Satisfies v (target_clauses g k xs vs)
    targets-in h = map-in v reached (filter (is_made_target g) g.sets) (All-weaker IsReachedNow (λ s. clause_true v (reached s) ≡ true) (λ s p. reached_is s ∙ p) (filter (is_made_target g) g.sets) h)

    module _ (ds : List (ℕ × Seen)) where
      abbrev seen_by : Launch → List (List Lit)
      seen_by l = map (operand_clause g table ds vs l) (filter (is_needed g l) (operands_at g l.row))

      abbrev IsSeenNow : Launch → Operand → Type 0
      IsSeenNow l o = (list_any (is_seen o.class (cluster_of table l.slot) l.cycle) (shown v ds) || list_any (is_lost g o.class (reads_until g l)) (hidden v vs)) ≡ true

      abbrev Sees : Launch → Type 0
      Sees l = All (IsSeenNow l) (filter (is_needed g l) (operands_at g l.row))

      seen_is : (l : Launch) (o : Operand) → clause_true v (operand_clause g table ds vs l o) ≡ (list_any (is_seen o.class (cluster_of table l.slot) l.cycle) (shown v ds) || list_any (is_lost g o.class (reads_until g l)) (hidden v vs))
      seen_is l o = either-of v (is_seen o.class (cluster_of table l.slot) l.cycle) (is_lost g o.class (reads_until g l)) ds vs

      pub operands-out : Satisfies v (operand_clauses g table xs ds vs) → All Sees (shown v xs)
      operands-out h =
          All-weaker (λ l. Satisfies v (seen_by l)) Sees
          (λ l p. All-weaker (λ o. clause_true v (operand_clause g table ds vs l o) ≡ true) (IsSeenNow l) (λ o q. sym (seen_is l o) ∙ q) (filter (is_needed g l) (operands_at g l.row)) (map-out v (operand_clause g table ds vs l) (filter (is_needed g l) (operands_at g l.row)) p))
          (shown v xs) (implied-out v seen_by xs h)

      pub operands-in : All Sees (shown v xs) → Satisfies v (operand_clauses g table xs ds vs)
      operands-in h =
          implied-in v seen_by xs
          (All-weaker Sees (λ l. Satisfies v (seen_by l))
          (λ l p. map-in v (operand_clause g table ds vs l) (filter (is_needed g l) (operands_at g l.row)) (All-weaker (IsSeenNow l) (λ o. clause_true v (operand_clause g table ds vs l o) ≡ true) (λ o q. seen_is l o ∙ q) (filter (is_needed g l) (operands_at g l.row)) p))
          (shown v xs) h)
