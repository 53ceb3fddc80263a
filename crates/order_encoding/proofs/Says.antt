-- What the families of memory and of a guard's branch say of the launches and the other things whose variables are true.
use Rattle.std.proofs.Common.{◌≡◌, ℕ, ◌+◌, Bool, true, false, not, List, [], ◌∷◌, ◌++◌, get_or, sym, ap, ◌∙◌}
use Rattle.std.specs.Prelude.{◌||◌, ◌&&◌, ◌==◌, is_some}
use Rattle.std.specs.List.{All, list_any, range_with_len}
use Rattle.std.proofs.lemmas.List.Elements.{All-weaker}
use Rattle.std.proofs.lemmas.List.Folds.{list_any-append}
use Rattle.cnf_core.specs.declared.literal.Lit.{Lit}
use Rattle.cnf_core.specs.Formula.{lit_true, clause_true, Satisfies}
use Rattle.graph_meaning.specs.Graphs.{memory_target}
use Rattle.schedule_meaning.specs.Launches.{launches, is_store, is_branch, class_at, memory_class_at}
use Rattle.machine_table.specs.declared.tables.Table.{Table}
use Rattle.graph_meaning.specs.declared.graphs.LaunchGraph.{LaunchGraph}
use Rattle.schedule_meaning.specs.declared.schedules.Launch.{Launch}
use Rattle.cycle_encoding.specs.Shapes.{vars_of, shown, implied, when}
use Rattle.order_encoding.specs.OrderVariables.{Held}
use Rattle.order_encoding.specs.OrderFamilies.{is_held_at, stores_at, uses_memory, branches_by, waits, entry_clauses, memory_clauses, kept_clauses, last_memory_clauses, branch_clauses, wait_clauses, come_clauses}
use Rattle.cycle_encoding.proofs.Shown.{both, left, right, first, rest, one, when-out, when-in, any_of, implied-out, implied-in, flat-out, flat-in}
use Rattle.cycle_encoding.proofs.ShownTests.{some-out, some-in}

-- ---- what each plain family says

module _ (g : LaunchGraph) (table : Table) (k : ℕ) where
  pub record SaysMemory (S : List Launch) (M : List Held) (W : List ℕ) : Type 0 where
    pub entry : list_any (is_held_at g.entry 0) M ≡ true
    pub others : All (λ m. ((m.cycle == 0) && not (m.class == g.entry)) ≡ true → ⊥) M
    pub uses : All (λ l. uses_memory g l ≡ true → list_any (is_held_at (memory_class_at g l.row) l.cycle) M ≡ true) S
    pub leaves : All (λ l. launches g is_store l ≡ true → (list_any (is_held_at (class_at g l.row) (l.cycle + 1)) M ≡ true) × (list_any (λ t. t == l.cycle) W ≡ true)) S
    pub stored : All (λ t. All (λ c. (c == t) ≡ true → list_any (stores_at g t) S ≡ true) W) (range_with_len 0 k)
    pub stays : All (λ t. All (λ m. (m.cycle == t) ≡ true → (list_any (λ c. c == t) W || list_any (is_held_at m.class (t + 1)) M) ≡ true) M) (range_with_len 0 k)
    pub last : list_any (is_held_at (memory_target g) k) M ≡ true

  pub record SaysGuard (S : List Launch) (B : List ℕ) : Type 0 where
    pub branch : is_some g.guard ≡ true → list_any (launches g is_branch) S ≡ true
    pub wait : is_some g.guard ≡ true → All (λ l. waits g l ≡ true → list_any (λ t. t == l.cycle) B ≡ true) S
    pub come : is_some g.guard ≡ true → All (λ t. list_any (branches_by g t) S ≡ true) B

empty_clause : (v : ℕ → Bool) → Satisfies v ([] ∷ []) → ⊥
empty_clause v h = (let f : false ≡ true = first v [] [] h in cc)

module _ (g : LaunchGraph) (table : Table) (k : ℕ) (v : ℕ → Bool) (xs : List (ℕ × Launch)) where
  -- memory
  module _ (ms : List (ℕ × Held)) (ws : List (ℕ × ℕ)) where
    abbrev wrong : Held → Bool
    wrong m = (m.cycle == 0) && not (m.class == g.entry)

    pub entry-out : Satisfies v (entry_clauses g ms) → (list_any (is_held_at g.entry 0) (shown v ms) ≡ true) × All (λ m. wrong m ≡ true → ⊥) (shown v ms)
    entry-out h = (
      some-out v (is_held_at g.entry 0) ms (first v (vars_of (is_held_at g.entry 0) ms) (implied ms (λ m. when (wrong m) ([] ∷ []))) h),
      All-weaker (λ m. Satisfies v (when (wrong m) ([] ∷ []))) (λ m. wrong m ≡ true → ⊥) (λ m p e. empty_clause v (when-out v (wrong m) ([] ∷ []) p e)) (shown v ms) (implied-out v (λ m. when (wrong m) ([] ∷ [])) ms (rest v (vars_of (is_held_at g.entry 0) ms) (implied ms (λ m. when (wrong m) ([] ∷ []))) h)),
    )

    pub entry-in : list_any (is_held_at g.entry 0) (shown v ms) ≡ true → All (λ m. wrong m ≡ true → ⊥) (shown v ms) → Satisfies v (entry_clauses g ms)
    entry-in p h =
        both v (vars_of (is_held_at g.entry 0) ms ∷ []) (implied ms (λ m. when (wrong m) ([] ∷ [])))
        (one v (vars_of (is_held_at g.entry 0) ms) (some-in v (is_held_at g.entry 0) ms p))
        (implied-in v (λ m. when (wrong m) ([] ∷ [])) ms (All-weaker (λ m. wrong m ≡ true → ⊥) (λ m. Satisfies v (when (wrong m) ([] ∷ []))) (λ m q. when-in v (wrong m) ([] ∷ []) (λ e. absurd (q e))) (shown v ms) h))

    abbrev used : Launch → List (List Lit)
    used l = vars_of (is_held_at (memory_class_at g l.row) l.cycle) ms ∷ []

    abbrev left_by : Launch → List (List Lit)
    left_by l = vars_of (is_held_at (class_at g l.row) (l.cycle + 1)) ms ∷ vars_of (λ t. t == l.cycle) ws ∷ []

    abbrev UsesHeld : Launch → Type 0
    UsesHeld l = uses_memory g l ≡ true → list_any (is_held_at (memory_class_at g l.row) l.cycle) (shown v ms) ≡ true

    abbrev LeavesHeld : Launch → Type 0
    LeavesHeld l = launches g is_store l ≡ true → (list_any (is_held_at (class_at g l.row) (l.cycle + 1)) (shown v ms) ≡ true) × (list_any (λ t. t == l.cycle) (shown v ws) ≡ true)

    abbrev of_launch : Launch → List (List Lit)
    of_launch l = when (uses_memory g l) (used l) ++ when (launches g is_store l) (left_by l)

    pub memory-out : Satisfies v (memory_clauses g xs ms ws) → All UsesHeld (shown v xs) × All LeavesHeld (shown v xs)
    memory-out h =
        let all = implied-out v of_launch xs h in (
          All-weaker (λ l. Satisfies v (of_launch l)) UsesHeld (λ l p e. some-out v (is_held_at (memory_class_at g l.row) l.cycle) ms (first v (vars_of (is_held_at (memory_class_at g l.row) l.cycle) ms) [] (when-out v (uses_memory g l) (used l) (left v (when (uses_memory g l) (used l)) (when (launches g is_store l) (left_by l)) p) e))) (shown v xs) all,
          All-weaker (λ l. Satisfies v (of_launch l)) LeavesHeld
              (λ l p e.
              let q = when-out v (launches g is_store l) (left_by l) (right v (when (uses_memory g l) (used l)) (when (launches g is_store l) (left_by l)) p) e in (
                some-out v (is_held_at (class_at g l.row) (l.cycle + 1)) ms (first v (vars_of (is_held_at (class_at g l.row) (l.cycle + 1)) ms) (vars_of (λ t. t == l.cycle) ws ∷ []) q),
                some-out v (λ t. t == l.cycle) ws (first v (vars_of (λ t. t == l.cycle) ws) [] (rest v (vars_of (is_held_at (class_at g l.row) (l.cycle + 1)) ms) (vars_of (λ t. t == l.cycle) ws ∷ []) q)),
              )) (shown v xs) all,
        )

    memory_each : (l : Launch) → UsesHeld l → LeavesHeld l → Satisfies v (of_launch l)
    memory_each l p q =
        both v (when (uses_memory g l) (used l)) (when (launches g is_store l) (left_by l))
        (when-in v (uses_memory g l) (used l) (λ e. one v (vars_of (is_held_at (memory_class_at g l.row) l.cycle) ms) (some-in v (is_held_at (memory_class_at g l.row) l.cycle) ms (p e))))
        (when-in v (launches g is_store l) (left_by l) (λ e.
        both v (vars_of (is_held_at (class_at g l.row) (l.cycle + 1)) ms ∷ []) (vars_of (λ t. t == l.cycle) ws ∷ [])
        (one v (vars_of (is_held_at (class_at g l.row) (l.cycle + 1)) ms) (some-in v (is_held_at (class_at g l.row) (l.cycle + 1)) ms (q e).0))
        (one v (vars_of (λ t. t == l.cycle) ws) (some-in v (λ t. t == l.cycle) ws (q e).1))))

    pub memory-in : All UsesHeld (shown v xs) → All LeavesHeld (shown v xs) → Satisfies v (memory_clauses g xs ms ws)
    memory-in p q = implied-in v of_launch xs (λ i d lt. memory_each (get_or (shown v xs) i d) (p i d lt) (q i d lt))

    abbrev stored_at : ℕ → List (List Lit)
    stored_at t = implied ws (λ c. when (c == t) (vars_of (stores_at g t) xs ∷ []))

    abbrev or_stays : ℕ → Held → List (List Lit)
    or_stays t m = when (m.cycle == t) ((vars_of (λ c. c == t) ws ++ vars_of (is_held_at m.class (t + 1)) ms) ∷ [])

    abbrev Stored : ℕ → Type 0
    Stored t = All (λ c. (c == t) ≡ true → list_any (stores_at g t) (shown v xs) ≡ true) (shown v ws)

    abbrev Stays : ℕ → Type 0
    Stays t = All (λ m. (m.cycle == t) ≡ true → (list_any (λ c. c == t) (shown v ws) || list_any (is_held_at m.class (t + 1)) (shown v ms)) ≡ true) (shown v ms)

    either_is : (t : ℕ) (m : Held) → clause_true v (vars_of (λ c. c == t) ws ++ vars_of (is_held_at m.class (t + 1)) ms) ≡ (list_any (λ c. c == t) (shown v ws) || list_any (is_held_at m.class (t + 1)) (shown v ms))
    either_is t m =
        list_any-append (lit_true v) (vars_of (λ c. c == t) ws) (vars_of (is_held_at m.class (t + 1)) ms)
        ∙ ap (λ b. b || clause_true v (vars_of (is_held_at m.class (t + 1)) ms)) (any_of v (λ c. c == t) ws)
        ∙ ap (λ b. list_any (λ c. c == t) (shown v ws) || b) (any_of v (is_held_at m.class (t + 1)) ms)

    stored-out : (t : ℕ) → Satisfies v (stored_at t) → Stored t
    stored-out t h = All-weaker (λ c. Satisfies v (when (c == t) (vars_of (stores_at g t) xs ∷ []))) (λ c. (c == t) ≡ true → list_any (stores_at g t) (shown v xs) ≡ true) (λ c p e. some-out v (stores_at g t) xs (first v (vars_of (stores_at g t) xs) [] (when-out v (c == t) (vars_of (stores_at g t) xs ∷ []) p e))) (shown v ws) (implied-out v (λ c. when (c == t) (vars_of (stores_at g t) xs ∷ [])) ws h)

    stored-in : (t : ℕ) → Stored t → Satisfies v (stored_at t)
    stored-in t h = implied-in v (λ c. when (c == t) (vars_of (stores_at g t) xs ∷ [])) ws (All-weaker (λ c. (c == t) ≡ true → list_any (stores_at g t) (shown v xs) ≡ true) (λ c. Satisfies v (when (c == t) (vars_of (stores_at g t) xs ∷ []))) (λ c p. when-in v (c == t) (vars_of (stores_at g t) xs ∷ []) (λ e. one v (vars_of (stores_at g t) xs) (some-in v (stores_at g t) xs (p e)))) (shown v ws) h)

    stays-out : (t : ℕ) → Satisfies v (implied ms (or_stays t)) → Stays t
    stays-out t h = All-weaker (λ m. Satisfies v (or_stays t m)) (λ m. (m.cycle == t) ≡ true → (list_any (λ c. c == t) (shown v ws) || list_any (is_held_at m.class (t + 1)) (shown v ms)) ≡ true) (λ m p e. sym (either_is t m) ∙ first v (vars_of (λ c. c == t) ws ++ vars_of (is_held_at m.class (t + 1)) ms) [] (when-out v (m.cycle == t) ((vars_of (λ c. c == t) ws ++ vars_of (is_held_at m.class (t + 1)) ms) ∷ []) p e)) (shown v ms) (implied-out v (or_stays t) ms h)

    stays-in : (t : ℕ) → Stays t → Satisfies v (implied ms (or_stays t))
    stays-in t h = implied-in v (or_stays t) ms (All-weaker (λ m. (m.cycle == t) ≡ true → (list_any (λ c. c == t) (shown v ws) || list_any (is_held_at m.class (t + 1)) (shown v ms)) ≡ true) (λ m. Satisfies v (or_stays t m)) (λ m p. when-in v (m.cycle == t) ((vars_of (λ c. c == t) ws ++ vars_of (is_held_at m.class (t + 1)) ms) ∷ []) (λ e. one v (vars_of (λ c. c == t) ws ++ vars_of (is_held_at m.class (t + 1)) ms) (either_is t m ∙ p e))) (shown v ms) h)

    pub kept-out : Satisfies v (kept_clauses g k xs ms ws) → All Stored (range_with_len 0 k) × All Stays (range_with_len 0 k)
    kept-out h =
        let all = flat-out v (λ t. stored_at t ++ implied ms (or_stays t)) (range_with_len 0 k) h in (
          All-weaker (λ t. Satisfies v (stored_at t ++ implied ms (or_stays t))) Stored (λ t p. stored-out t (left v (stored_at t) (implied ms (or_stays t)) p)) (range_with_len 0 k) all,
          All-weaker (λ t. Satisfies v (stored_at t ++ implied ms (or_stays t))) Stays (λ t p. stays-out t (right v (stored_at t) (implied ms (or_stays t)) p)) (range_with_len 0 k) all,
        )

    pub kept-in : All Stored (range_with_len 0 k) → All Stays (range_with_len 0 k) → Satisfies v (kept_clauses g k xs ms ws)
    kept-in p q = flat-in v (λ t. stored_at t ++ implied ms (or_stays t)) (range_with_len 0 k) (λ i d lt. both v (stored_at _) (implied ms (or_stays _)) (stored-in _ (p i d lt)) (stays-in _ (q i d lt)))

    pub last-out : Satisfies v (last_memory_clauses g k ms) → list_any (is_held_at (memory_target g) k) (shown v ms) ≡ true
    last-out h = some-out v (is_held_at (memory_target g) k) ms (first v (vars_of (is_held_at (memory_target g) k) ms) [] h)

    pub last-in : list_any (is_held_at (memory_target g) k) (shown v ms) ≡ true → Satisfies v (last_memory_clauses g k ms)
    last-in h = one v (vars_of (is_held_at (memory_target g) k) ms) (some-in v (is_held_at (memory_target g) k) ms h)

  -- the guard
  module _ (bs : List (ℕ × ℕ)) where
    pub branch-out : Satisfies v (branch_clauses g xs) → is_some g.guard ≡ true → list_any (launches g is_branch) (shown v xs) ≡ true
    branch-out h e = some-out v (launches g is_branch) xs (first v (vars_of (launches g is_branch) xs) [] (when-out v (is_some g.guard) (vars_of (launches g is_branch) xs ∷ []) h e))

    pub branch-in : (is_some g.guard ≡ true → list_any (launches g is_branch) (shown v xs) ≡ true) → Satisfies v (branch_clauses g xs)
    branch-in h = when-in v (is_some g.guard) (vars_of (launches g is_branch) xs ∷ []) (λ e. one v (vars_of (launches g is_branch) xs) (some-in v (launches g is_branch) xs (h e)))

    abbrev waited : Launch → List (List Lit)
    waited l = when (waits g l) (vars_of (λ t. t == l.cycle) bs ∷ [])

    pub wait-out : Satisfies v (wait_clauses g xs bs) → is_some g.guard ≡ true → All (λ l. waits g l ≡ true → list_any (λ t. t == l.cycle) (shown v bs) ≡ true) (shown v xs)
    wait-out h e = All-weaker (λ l. Satisfies v (waited l)) (λ l. waits g l ≡ true → list_any (λ t. t == l.cycle) (shown v bs) ≡ true) (λ l p w. some-out v (λ t. t == l.cycle) bs (first v (vars_of (λ t. t == l.cycle) bs) [] (when-out v (waits g l) (vars_of (λ t. t == l.cycle) bs ∷ []) p w))) (shown v xs) (implied-out v waited xs (when-out v (is_some g.guard) (implied xs waited) h e))

    pub wait-in : (is_some g.guard ≡ true → All (λ l. waits g l ≡ true → list_any (λ t. t == l.cycle) (shown v bs) ≡ true) (shown v xs)) → Satisfies v (wait_clauses g xs bs)
    wait-in h = when-in v (is_some g.guard) (implied xs waited) (λ e. implied-in v waited xs (All-weaker (λ l. waits g l ≡ true → list_any (λ t. t == l.cycle) (shown v bs) ≡ true) (λ l. Satisfies v (waited l)) (λ l p. when-in v (waits g l) (vars_of (λ t. t == l.cycle) bs ∷ []) (λ w. one v (vars_of (λ t. t == l.cycle) bs) (some-in v (λ t. t == l.cycle) bs (p w)))) (shown v xs) (h e)))

    pub come-out : Satisfies v (come_clauses g xs bs) → is_some g.guard ≡ true → All (λ t. list_any (branches_by g t) (shown v xs) ≡ true) (shown v bs)
    come-out h e = All-weaker (λ t. Satisfies v (vars_of (branches_by g t) xs ∷ [])) (λ t. list_any (branches_by g t) (shown v xs) ≡ true) (λ t p. some-out v (branches_by g t) xs (first v (vars_of (branches_by g t) xs) [] p)) (shown v bs) (implied-out v (λ t. vars_of (branches_by g t) xs ∷ []) bs (when-out v (is_some g.guard) (implied bs (λ t. vars_of (branches_by g t) xs ∷ [])) h e))

    pub come-in : (is_some g.guard ≡ true → All (λ t. list_any (branches_by g t) (shown v xs) ≡ true) (shown v bs)) → Satisfies v (come_clauses g xs bs)
    come-in h = when-in v (is_some g.guard) (implied bs (λ t. vars_of (branches_by g t) xs ∷ [])) (λ e. implied-in v (λ t. vars_of (branches_by g t) xs ∷ []) bs (All-weaker (λ t. list_any (branches_by g t) (shown v xs) ≡ true) (λ t. Satisfies v (vars_of (branches_by g t) xs ∷ [])) (λ t p. one v (vars_of (branches_by g t) xs) (some-in v (branches_by g t) xs p)) (shown v bs) (h e)))
