-- What the families of registers by live ranges, and that of loads which overwrite, say of the launches and the other
-- things whose variables are true.
use Rattle.std.proofs.Common.{◌≡◌, ℕ, ◌+◌, ◌-◌, Bool, true, not, List, [], ◌∷◌, ◌++◌, get_or, map, sym, ap, ◌∙◌}
use Rattle.std.specs.Prelude.{◌==◌, ◌&&◌, ◌||◌}
use Rattle.std.specs.List.{All, filter, list_any, range_with_len}
use Rattle.std.proofs.lemmas.List.Elements.{All-weaker}
use Rattle.std.proofs.lemmas.List.Folds.{list_any-append}
use Rattle.cnf_core.specs.Formula.{lit_true, clause_true, Satisfies}
use Rattle.graph_meaning.specs.declared.graphs.LaunchGraph.{LaunchGraph}
use Rattle.graph_meaning.specs.declared.graphs.SetClass.{SetClass}
use Rattle.schedule_meaning.specs.Launches.{class_at, is_load, launches, operands_at, overwrites, takes_pool}
use Rattle.schedule_meaning.specs.declared.schedules.Launch.{Launch}
use Rattle.schedule_meaning.specs.declared.schedules.Operand.{Operand}
use Rattle.cycle_encoding.specs.Shapes.{negated, shown, vars_of}
use Rattle.cycle_encoding.specs.Families.{is_lost}
use Rattle.cycle_encoding.specs.Variables.{Overwritten}
use Rattle.cycle_encoding.proofs.Shown.{add, any_of, first, rest, one, when-out, when-in, implied-out, implied-in, map-out, map-in}
use Rattle.cycle_encoding.proofs.ShownTests.{some-out, some-in}
use Rattle.cycle_encoding.proofs.Tests.{All-from_filter, All-to_filter}
use Rattle.cycle_encoding.proofs.Unshown.{hidden, negated-of, either-of}
use Rattle.order_encoding.specs.LiveVariables.{Need, Hold}
use Rattle.order_encoding.specs.LiveFamilies.{is_need_at, is_hold_at, is_pooled_operand, is_pooled_target, operand_needs, need_clauses, was_needed, earlier_clauses, target_needs, last_need_clauses, holds_while, holds_register, hold_clauses}
use Rattle.order_encoding.specs.PinFamilies.{loads_alone, load_clauses}

-- some negated variable of the first list, or some of the second
pub negated-or : {X Y : Type 0} (v : ℕ → Bool) (q : Y → Bool) (p : X → Bool) (ys : List (ℕ × Y)) (xs : List (ℕ × X)) → clause_true v (negated q ys ++ vars_of p xs) ≡ (list_any q (hidden v ys) || list_any p (shown v xs))
negated-or v q p ys xs =
    list_any-append (lit_true v) (negated q ys) (vars_of p xs)
    ∙ ap (λ b. b || clause_true v (vars_of p xs)) (negated-of v q ys)
    ∙ ap (λ b. list_any q (hidden v ys) || b) (any_of v p xs)

-- S are the launches, N what is needed and M what isn't, H which registers are held, X what isn't overwritten
module _ (g : LaunchGraph) (k : ℕ) (xs : List (ℕ × Launch)) where
  abbrev pub NeedsOf : List Need → Launch → Type 0
  NeedsOf N l = All (λ o. is_pooled_operand g xs o ≡ true → list_any (is_need_at o.class l.cycle) N ≡ true) (operands_at g l.row)

  abbrev pub WasNeeded : List Need → Need → Type 0
  WasNeeded N n = not (n.cycle == 0) ≡ true → list_any (is_need_at n.class (n.cycle - 1)) N ≡ true

  abbrev pub IsLastNeeded : List Need → List Overwritten → SetClass → Type 0
  IsLastNeeded N X s = is_pooled_target g xs s ≡ true → (list_any (is_need_at s.class (k - 1)) N || list_any (is_lost g s.class k) X) ≡ true

  abbrev pub HoldsOwn : List Hold → Launch → Type 0
  HoldsOwn H l = takes_pool g l ≡ true → list_any (is_hold_at l.slot l.cycle l.cycle) H ≡ true

  abbrev pub HoldsAt : List Need → List Hold → Launch → ℕ → Type 0
  HoldsAt M H l t = (list_any (is_need_at (class_at g l.row) t) M || list_any (is_hold_at l.slot l.cycle t) H) ≡ true

  abbrev pub HoldsOn : List Need → List Hold → Launch → Type 0
  HoldsOn M H l = takes_pool g l ≡ true → All (HoldsAt M H l) (range_with_len (l.cycle + 1) (k - (l.cycle + 1)))

  pub record SaysLive (S : List Launch) (N M : List Need) (H : List Hold) (X : List Overwritten) : Type 0 where
    pub needs : All (NeedsOf N) S
    pub earlier : All (WasNeeded N) N
    pub last : All (IsLastNeeded N X) g.sets
    pub own : All (HoldsOwn H) S
    pub on : All (HoldsOn M H) S

  module _ (v : ℕ → Bool) (ns : List (ℕ × Need)) where
    pub needs-out : Satisfies v (need_clauses g xs ns) → All (NeedsOf (shown v ns)) (shown v xs)
    needs-out h =
        All-weaker (λ l. Satisfies v (operand_needs g xs ns l)) (NeedsOf (shown v ns)) (λ l p.
        All-from_filter (is_pooled_operand g xs) (λ o. list_any (is_need_at o.class l.cycle) (shown v ns) ≡ true) (operands_at g l.row)
        (All-weaker (λ o. clause_true v (vars_of (is_need_at o.class l.cycle) ns) ≡ true) (λ o. list_any (is_need_at o.class l.cycle) (shown v ns) ≡ true) (λ o q. some-out v (is_need_at o.class l.cycle) ns q) (filter (is_pooled_operand g xs) (operands_at g l.row))
        (map-out v (λ (o : Operand). vars_of (is_need_at o.class l.cycle) ns) (filter (is_pooled_operand g xs) (operands_at g l.row)) p)))
        (shown v xs) (implied-out v (operand_needs g xs ns) xs h)

    pub needs-in : All (NeedsOf (shown v ns)) (shown v xs) → Satisfies v (need_clauses g xs ns)
    needs-in h =
        implied-in v (operand_needs g xs ns) xs (All-weaker (NeedsOf (shown v ns)) (λ l. Satisfies v (operand_needs g xs ns l)) (λ l p.
        map-in v (λ (o : Operand). vars_of (is_need_at o.class l.cycle) ns) (filter (is_pooled_operand g xs) (operands_at g l.row))
        (All-weaker (λ o. list_any (is_need_at o.class l.cycle) (shown v ns) ≡ true) (λ o. clause_true v (vars_of (is_need_at o.class l.cycle) ns) ≡ true) (λ o q. some-in v (is_need_at o.class l.cycle) ns q) (filter (is_pooled_operand g xs) (operands_at g l.row))
        (All-to_filter (is_pooled_operand g xs) (λ o. list_any (is_need_at o.class l.cycle) (shown v ns) ≡ true) (operands_at g l.row) p)))
        (shown v xs) h)

    pub earlier-out : Satisfies v (earlier_clauses ns) → All (WasNeeded (shown v ns)) (shown v ns)
    earlier-out h =
        All-weaker (λ n. Satisfies v (was_needed ns n)) (WasNeeded (shown v ns)) (λ n p e.
        some-out v (is_need_at n.class (n.cycle - 1)) ns (first v (vars_of (is_need_at n.class (n.cycle - 1)) ns) [] (when-out v (not (n.cycle == 0)) (vars_of (is_need_at n.class (n.cycle - 1)) ns ∷ []) p e)))
        (shown v ns) (implied-out v (was_needed ns) ns h)

    pub earlier-in : All (WasNeeded (shown v ns)) (shown v ns) → Satisfies v (earlier_clauses ns)
    earlier-in h =
        implied-in v (was_needed ns) ns (All-weaker (WasNeeded (shown v ns)) (λ n. Satisfies v (was_needed ns n)) (λ n p.
        when-in v (not (n.cycle == 0)) (vars_of (is_need_at n.class (n.cycle - 1)) ns ∷ []) (λ e. one v (vars_of (is_need_at n.class (n.cycle - 1)) ns) (some-in v (is_need_at n.class (n.cycle - 1)) ns (p e))))
        (shown v ns) h)

    module _ (vs : List (ℕ × Overwritten)) where
      last_is : (s : SetClass) → clause_true v (target_needs g k ns vs s) ≡ (list_any (is_need_at s.class (k - 1)) (shown v ns) || list_any (is_lost g s.class k) (hidden v vs))
      last_is s = either-of v (is_need_at s.class (k - 1)) (is_lost g s.class k) ns vs

      abbrev IsLast : SetClass → Type 0
      IsLast s = (list_any (is_need_at s.class (k - 1)) (shown v ns) || list_any (is_lost g s.class k) (hidden v vs)) ≡ true

      pub last-out : Satisfies v (last_need_clauses g k xs ns vs) → All (IsLastNeeded (shown v ns) (hidden v vs)) g.sets
      last-out h =
          All-from_filter (is_pooled_target g xs) IsLast g.sets
          (All-weaker (λ s. clause_true v (target_needs g k ns vs s) ≡ true) IsLast (λ s q. sym (last_is s) ∙ q) (filter (is_pooled_target g xs) g.sets)
          (map-out v (target_needs g k ns vs) (filter (is_pooled_target g xs) g.sets) h))

      pub last-in : All (IsLastNeeded (shown v ns) (hidden v vs)) g.sets → Satisfies v (last_need_clauses g k xs ns vs)
      last-in h =
          map-in v (target_needs g k ns vs) (filter (is_pooled_target g xs) g.sets)
          (All-weaker IsLast (λ s. clause_true v (target_needs g k ns vs s) ≡ true) (λ s q. last_is s ∙ q) (filter (is_pooled_target g xs) g.sets)
          (All-to_filter (is_pooled_target g xs) IsLast g.sets h))

    module _ (hs : List (ℕ × Hold)) where
      while_is : (l : Launch) (t : ℕ) → clause_true v (holds_while g ns hs l t) ≡ (list_any (is_need_at (class_at g l.row) t) (hidden v ns) || list_any (is_hold_at l.slot l.cycle t) (shown v hs))
      while_is l t = negated-or v (is_need_at (class_at g l.row) t) (is_hold_at l.slot l.cycle t) ns hs

      abbrev rest_of : Launch → List ℕ
      rest_of l = range_with_len (l.cycle + 1) (k - (l.cycle + 1))

      pub holds-out : Satisfies v (hold_clauses g k xs ns hs) → All (HoldsOwn (shown v hs)) (shown v xs) × All (HoldsOn (hidden v ns) (shown v hs)) (shown v xs)
      holds-out h =
          let all = implied-out v (holds_register g k ns hs) xs h in (
            All-weaker (λ l. Satisfies v (holds_register g k ns hs l)) (HoldsOwn (shown v hs)) (λ l p e.
                some-out v (is_hold_at l.slot l.cycle l.cycle) hs (first v (vars_of (is_hold_at l.slot l.cycle l.cycle) hs) (map (holds_while g ns hs l) (rest_of l)) (when-out v (takes_pool g l) (vars_of (is_hold_at l.slot l.cycle l.cycle) hs ∷ map (holds_while g ns hs l) (rest_of l)) p e))) (shown v xs) all,
            All-weaker (λ l. Satisfies v (holds_register g k ns hs l)) (HoldsOn (hidden v ns) (shown v hs)) (λ l p e.
                All-weaker (λ t. clause_true v (holds_while g ns hs l t) ≡ true) (HoldsAt (hidden v ns) (shown v hs) l) (λ t q. sym (while_is l t) ∙ q) (rest_of l)
                (map-out v (holds_while g ns hs l) (rest_of l) (rest v (vars_of (is_hold_at l.slot l.cycle l.cycle) hs) (map (holds_while g ns hs l) (rest_of l)) (when-out v (takes_pool g l) (vars_of (is_hold_at l.slot l.cycle l.cycle) hs ∷ map (holds_while g ns hs l) (rest_of l)) p e)))) (shown v xs) all,
          )

      hold_each : (l : Launch) → HoldsOwn (shown v hs) l → HoldsOn (hidden v ns) (shown v hs) l → Satisfies v (holds_register g k ns hs l)
      hold_each l p q =
          when-in v (takes_pool g l) (vars_of (is_hold_at l.slot l.cycle l.cycle) hs ∷ map (holds_while g ns hs l) (rest_of l)) (λ e.
          add v (vars_of (is_hold_at l.slot l.cycle l.cycle) hs) (map (holds_while g ns hs l) (rest_of l)) (some-in v (is_hold_at l.slot l.cycle l.cycle) hs (p e))
          (map-in v (holds_while g ns hs l) (rest_of l) (All-weaker (HoldsAt (hidden v ns) (shown v hs) l) (λ t. clause_true v (holds_while g ns hs l t) ≡ true) (λ t r. while_is l t ∙ r) (rest_of l) (q e))))

      pub holds-in : All (HoldsOwn (shown v hs)) (shown v xs) → All (HoldsOn (hidden v ns) (shown v hs)) (shown v xs) → Satisfies v (hold_clauses g k xs ns hs)
      holds-in p q = implied-in v (holds_register g k ns hs) xs (λ i d lt. hold_each (get_or (shown v xs) i d) (p i d lt) (q i d lt))

  -- ---- loads: Z are the cycles without a store
  abbrev pub IsAlone : List ℕ → Launch → Type 0
  IsAlone Z l = (launches g is_load l && overwrites g l) ≡ true → list_any (λ t. t == l.cycle) Z ≡ true

  module _ (v : ℕ → Bool) (ws : List (ℕ × ℕ)) where
    pub alone-out : Satisfies v (load_clauses g xs ws) → All (IsAlone (hidden v ws)) (shown v xs)
    alone-out h =
        All-weaker (λ l. Satisfies v (loads_alone g ws l)) (IsAlone (hidden v ws)) (λ l p e.
        sym (negated-of v (λ t. t == l.cycle) ws) ∙ first v (negated (λ t. t == l.cycle) ws) [] (when-out v (launches g is_load l && overwrites g l) (negated (λ t. t == l.cycle) ws ∷ []) p e))
        (shown v xs) (implied-out v (loads_alone g ws) xs h)

    pub alone-in : All (IsAlone (hidden v ws)) (shown v xs) → Satisfies v (load_clauses g xs ws)
    alone-in h =
        implied-in v (loads_alone g ws) xs (All-weaker (IsAlone (hidden v ws)) (λ l. Satisfies v (loads_alone g ws l)) (λ l p.
        when-in v (launches g is_load l && overwrites g l) (negated (λ t. t == l.cycle) ws ∷ []) (λ e. one v (negated (λ t. t == l.cycle) ws) (negated-of v (λ t. t == l.cycle) ws ∙ p e)))
        (shown v xs) h)
