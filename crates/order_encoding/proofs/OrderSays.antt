-- What the families of registers and pins say of the launches and the other things whose variables are true.
use Rattle.std.proofs.Common.{◌≡◌, ℕ, ◌+◌, Bool, true, List, [], ◌∷◌, get_or}
use Rattle.std.specs.Prelude.{◌==◌, is_some}
use Rattle.std.specs.List.{All, flat_map, list_any, range_with_len}
use Rattle.std.proofs.lemmas.List.Elements.{All-weaker}
use Rattle.cnf_core.specs.Formula.{clause_true, Satisfies}
use Rattle.schedule_meaning.specs.Launches.{goes_to, overwrites, takes_pool}
use Rattle.machine_table.specs.declared.tables.Table.{Table}
use Rattle.graph_meaning.specs.declared.graphs.LaunchGraph.{LaunchGraph}
use Rattle.schedule_meaning.specs.declared.schedules.Launch.{Launch}
use Rattle.cycle_encoding.specs.Shapes.{vars_of, shown, implied}
use Rattle.cycle_encoding.specs.Variables.{overwriting_sets, Overwritten}
use Rattle.order_encoding.specs.OrderVariables.{Taken}
use Rattle.order_encoding.specs.OrderFamilies.{is_taken_at}
use Rattle.order_encoding.specs.PinFamilies.{is_overwritten_at, unmet_sets, takes_register, pool_clauses, overwrites_next, stays_overwritten, set_clauses, overwritten_clauses, pin_clauses, overwrites_after, late_clauses}
use Rattle.cycle_encoding.proofs.Shown.{both, left, right, first, one, when-out, when-in, implied-out, implied-in, map-out, map-in, flat-out, flat-in}
use Rattle.cycle_encoding.proofs.ShownTests.{some-out, some-in}

module _ (g : LaunchGraph) (table : Table) (k : ℕ) where
  abbrev pub SaysPool : List Launch → List Taken → Type 0
  SaysPool S U = All (λ l. takes_pool g l ≡ true → list_any (is_taken_at l.slot l.cycle) U ≡ true) S

  -- V is what is overwritten
  pub record SaysPins (S : List Launch) (V : List Overwritten) : Type 0 where
    pub went : All (λ j. All (λ l. goes_to j l ≡ true → list_any (is_overwritten_at j (l.cycle + 1)) V ≡ true) S) (overwriting_sets g)
    pub on : All (λ j. All (λ t. All (λ v. is_overwritten_at j t v ≡ true → list_any (is_overwritten_at j (t + 1)) V ≡ true) V) (range_with_len 0 k)) (overwriting_sets g)
    pub some : All (λ j. list_any (goes_to j) S ≡ true) (unmet_sets g)

  abbrev pub SaysLate : List Launch → List ℕ → Type 0
  SaysLate S B = is_some g.guard ≡ true → All (λ l. overwrites g l ≡ true → list_any (λ t. t == l.cycle) B ≡ true) S

module _ (g : LaunchGraph) (table : Table) (k : ℕ) (v : ℕ → Bool) (xs : List (ℕ × Launch)) where
  module _ (vs : List (ℕ × Overwritten)) where
    abbrev Went : ℕ → Launch → Type 0
    Went j l = goes_to j l ≡ true → list_any (is_overwritten_at j (l.cycle + 1)) (shown v vs) ≡ true

    abbrev On : ℕ → ℕ → Overwritten → Type 0
    On j t o = is_overwritten_at j t o ≡ true → list_any (is_overwritten_at j (t + 1)) (shown v vs) ≡ true

    went_out : (j : ℕ) → Satisfies v (implied xs (overwrites_next vs j)) → All (Went j) (shown v xs)
    went_out j h = All-weaker (λ l. Satisfies v (overwrites_next vs j l)) (Went j) (λ l p e. some-out v (is_overwritten_at j (l.cycle + 1)) vs (first v (vars_of (is_overwritten_at j (l.cycle + 1)) vs) [] (when-out v (goes_to j l) (vars_of (is_overwritten_at j (l.cycle + 1)) vs ∷ []) p e))) (shown v xs) (implied-out v (overwrites_next vs j) xs h)

    went_in : (j : ℕ) → All (Went j) (shown v xs) → Satisfies v (implied xs (overwrites_next vs j))
    went_in j h = implied-in v (overwrites_next vs j) xs (All-weaker (Went j) (λ l. Satisfies v (overwrites_next vs j l)) (λ l p. when-in v (goes_to j l) (vars_of (is_overwritten_at j (l.cycle + 1)) vs ∷ []) (λ e. one v (vars_of (is_overwritten_at j (l.cycle + 1)) vs) (some-in v (is_overwritten_at j (l.cycle + 1)) vs (p e)))) (shown v xs) h)

    on_out : (j t : ℕ) → Satisfies v (implied vs (stays_overwritten vs j t)) → All (On j t) (shown v vs)
    on_out j t h = All-weaker (λ o. Satisfies v (stays_overwritten vs j t o)) (On j t) (λ o p e. some-out v (is_overwritten_at j (t + 1)) vs (first v (vars_of (is_overwritten_at j (t + 1)) vs) [] (when-out v (is_overwritten_at j t o) (vars_of (is_overwritten_at j (t + 1)) vs ∷ []) p e))) (shown v vs) (implied-out v (stays_overwritten vs j t) vs h)

    on_in : (j t : ℕ) → All (On j t) (shown v vs) → Satisfies v (implied vs (stays_overwritten vs j t))
    on_in j t h = implied-in v (stays_overwritten vs j t) vs (All-weaker (On j t) (λ o. Satisfies v (stays_overwritten vs j t o)) (λ o p. when-in v (is_overwritten_at j t o) (vars_of (is_overwritten_at j (t + 1)) vs ∷ []) (λ e. one v (vars_of (is_overwritten_at j (t + 1)) vs) (some-in v (is_overwritten_at j (t + 1)) vs (p e)))) (shown v vs) h)

    pub over-out : Satisfies v (overwritten_clauses g k xs vs) → All (λ j. All (Went j) (shown v xs)) (overwriting_sets g) × All (λ j. All (λ t. All (On j t) (shown v vs)) (range_with_len 0 k)) (overwriting_sets g)
    over-out h =
        let all = flat-out v (set_clauses k xs vs) (overwriting_sets g) h in (
          All-weaker (λ j. Satisfies v (set_clauses k xs vs j)) (λ j. All (Went j) (shown v xs)) (λ j p. went_out j (left v (implied xs (overwrites_next vs j)) (flat_map (λ t. implied vs (stays_overwritten vs j t)) (range_with_len 0 k)) p)) (overwriting_sets g) all,
          All-weaker (λ j. Satisfies v (set_clauses k xs vs j)) (λ j. All (λ t. All (On j t) (shown v vs)) (range_with_len 0 k))
              (λ j p. All-weaker (λ t. Satisfies v (implied vs (stays_overwritten vs j t))) (λ t. All (On j t) (shown v vs)) (λ t q. on_out j t q) (range_with_len 0 k)
              (flat-out v (λ t. implied vs (stays_overwritten vs j t)) (range_with_len 0 k) (right v (implied xs (overwrites_next vs j)) (flat_map (λ t. implied vs (stays_overwritten vs j t)) (range_with_len 0 k)) p))) (overwriting_sets g) all,
        )

    pub over-in : All (λ j. All (Went j) (shown v xs)) (overwriting_sets g) → All (λ j. All (λ t. All (On j t) (shown v vs)) (range_with_len 0 k)) (overwriting_sets g) → Satisfies v (overwritten_clauses g k xs vs)
    over-in p q =
        flat-in v (set_clauses k xs vs) (overwriting_sets g) (λ i d lt. one_set (get_or (overwriting_sets g) i d) (p i d lt) (q i d lt))
      where
        one_set : (j : ℕ) → All (Went j) (shown v xs) → All (λ t. All (On j t) (shown v vs)) (range_with_len 0 k) → Satisfies v (set_clauses k xs vs j)
        one_set j p q =
            both v (implied xs (overwrites_next vs j)) (flat_map (λ t. implied vs (stays_overwritten vs j t)) (range_with_len 0 k)) (went_in j p)
            (flat-in v (λ t. implied vs (stays_overwritten vs j t)) (range_with_len 0 k) (All-weaker (λ t. All (On j t) (shown v vs)) (λ t. Satisfies v (implied vs (stays_overwritten vs j t))) (λ t h. on_in j t h) (range_with_len 0 k) q))

  pub pins-out : Satisfies v (pin_clauses g xs) → All (λ j. list_any (goes_to j) (shown v xs) ≡ true) (unmet_sets g)
  pins-out h = All-weaker (λ j. clause_true v (vars_of (goes_to j) xs) ≡ true) (λ j. list_any (goes_to j) (shown v xs) ≡ true) (λ j p. some-out v (goes_to j) xs p) (unmet_sets g) (map-out v (λ j. vars_of (goes_to j) xs) (unmet_sets g) h)

  pub pins-in : All (λ j. list_any (goes_to j) (shown v xs) ≡ true) (unmet_sets g) → Satisfies v (pin_clauses g xs)
  pins-in h = map-in v (λ j. vars_of (goes_to j) xs) (unmet_sets g) (All-weaker (λ j. list_any (goes_to j) (shown v xs) ≡ true) (λ j. clause_true v (vars_of (goes_to j) xs) ≡ true) (λ j p. some-in v (goes_to j) xs p) (unmet_sets g) h)

  module _ (bs : List (ℕ × ℕ)) where
    pub late-out : Satisfies v (late_clauses g xs bs) → SaysLate g table k (shown v xs) (shown v bs)
    late-out h e = All-weaker (λ l. Satisfies v (overwrites_after g bs l)) (λ l. overwrites g l ≡ true → list_any (λ t. t == l.cycle) (shown v bs) ≡ true) (λ l p w. some-out v (λ t. t == l.cycle) bs (first v (vars_of (λ t. t == l.cycle) bs) [] (when-out v (overwrites g l) (vars_of (λ t. t == l.cycle) bs ∷ []) p w))) (shown v xs) (implied-out v (overwrites_after g bs) xs (when-out v (is_some g.guard) (implied xs (overwrites_after g bs)) h e))

    pub late-in : SaysLate g table k (shown v xs) (shown v bs) → Satisfies v (late_clauses g xs bs)
    late-in h = when-in v (is_some g.guard) (implied xs (overwrites_after g bs)) (λ e. implied-in v (overwrites_after g bs) xs (All-weaker (λ l. overwrites g l ≡ true → list_any (λ t. t == l.cycle) (shown v bs) ≡ true) (λ l. Satisfies v (overwrites_after g bs l)) (λ l p. when-in v (overwrites g l) (vars_of (λ t. t == l.cycle) bs ∷ []) (λ w. one v (vars_of (λ t. t == l.cycle) bs) (some-in v (λ t. t == l.cycle) bs (p w)))) (shown v xs) (h e)))

  module _ (us : List (ℕ × Taken)) where
    pub pool-out : Satisfies v (pool_clauses g xs us) → SaysPool g table k (shown v xs) (shown v us)
    pool-out h = All-weaker (λ l. Satisfies v (takes_register g us l)) (λ l. takes_pool g l ≡ true → list_any (is_taken_at l.slot l.cycle) (shown v us) ≡ true) (λ l p w. some-out v (is_taken_at l.slot l.cycle) us (first v (vars_of (is_taken_at l.slot l.cycle) us) [] (when-out v (takes_pool g l) (vars_of (is_taken_at l.slot l.cycle) us ∷ []) p w))) (shown v xs) (implied-out v (takes_register g us) xs h)

    pub pool-in : SaysPool g table k (shown v xs) (shown v us) → Satisfies v (pool_clauses g xs us)
    pool-in h = implied-in v (takes_register g us) xs (All-weaker (λ l. takes_pool g l ≡ true → list_any (is_taken_at l.slot l.cycle) (shown v us) ≡ true) (λ l. Satisfies v (takes_register g us l)) (λ l p. when-in v (takes_pool g l) (vars_of (is_taken_at l.slot l.cycle) us ∷ []) (λ w. one v (vars_of (is_taken_at l.slot l.cycle) us) (some-in v (is_taken_at l.slot l.cycle) us (p w)))) (shown v xs) h)
