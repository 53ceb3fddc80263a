-- The variable of a thing that stands in a list of blocks.
use Rattle.std.proofs.Common.{◌≡◌, ℕ, zero, suc, ◌+◌, ◌<◌, ◌≤◌, Bool, true, false, cond, List, ◌∷◌, ◌++◌, [], length, map, refl, ap, ◌∙◌, subst, arith, inl, inr}
use Rattle.std.specs.Prelude.{◌==◌, ◌&&◌}
use Rattle.std.specs.List.{All, filter, flat_map, range_with_len}
use Rattle.std.proofs.lemmas.Bool.{cases_eq, eq-eqb, ne_eqb, and_from, and_left, and_right}
use Rattle.std.proofs.lemmas.List.{append-nil}
use Rattle.std.proofs.lemmas.List.Elements.{All-head}
use Rattle.std.proofs.lemmas.List.FromFn.{length-map-range_with_len}
use Rattle.cnf_core.specs.declared.literal.Lit.{Lit}
use Rattle.cnf_core.specs.Formula.{IsLitOf}
use Rattle.machine_table.specs.declared.tables.Table.{Table}
use Rattle.graph_meaning.specs.WellFormed.{next_class}
use Rattle.graph_meaning.specs.declared.graphs.LaunchGraph.{LaunchGraph}
use Rattle.cycle_encoding.specs.Shapes.{numbered, positive, vars_of}
use Rattle.cycle_encoding.specs.Variables.{Seen, all_seen}
use Rattle.cycle_encoding.specs.Variables.{shown_classes}
use Rattle.cycle_encoding.specs.Families.{is_seen}
use Rattle.cycle_encoding.specs.Facts.{is_unsafe_shown}
use Rattle.cycle_encoding.specs.Steps.{has_cluster, seen_at, cluster_seen, clusters_seen}
use Rattle.cycle_encoding.proofs.Blocks.{vars-over}
use Rattle.cycle_encoding.proofs.Tables.{table_more}
use Rattle.cycle_encoding.proofs.Listed.{kept_more}
use Rattle.cycle_encoding.proofs.Walk.{vars-append}

module _ {X : Type 0} (T : X → Bool) (c : ℕ) where
  one : (m : ℕ) (x : X) (b : Bool) → T x ≡ b → vars_of T (numbered m (x ∷ [])) ≡ cond b (positive (m + 1) ∷ []) []
  one m x true e = ap (λ b. map {A = ℕ × X} (λ p. positive p.0) (cond b ((m + 1, x) ∷ []) [])) e
  one m x false e = ap (λ b. map {A = ℕ × X} (λ p. positive p.0) (cond b ((m + 1, x) ∷ []) [])) e

  both : (old : ℕ) (xs ys : List X) (a b : List Lit) → vars_of T (numbered old xs) ≡ a → vars_of T (numbered (old + length xs) ys) ≡ b → vars_of T (numbered old (xs ++ ys)) ≡ a ++ b
  both old xs ys a b p q = vars-append T old xs ys ∙ ap (λ zs. zs ++ vars_of T (numbered (old + length xs) ys)) p ∙ ap (λ zs. a ++ zs) q

  -- things of a map over a range, of which that of c alone may pass
  module _ (f : ℕ → X) (others : (a : ℕ) → (a ≡ c → ⊥) → T (f a) ≡ false) (old : ℕ) where
    item : (n : ℕ) → n ≤ c → vars_of T (numbered old (map f (range_with_len 0 n))) ≡ []
    item zero le = refl
    item (suc n) le =
        let s : suc n ≡ n + 1 = omega arith in
        ap (λ m. vars_of T (numbered old (map f (range_with_len 0 m)))) s
        ∙ ap (λ xs. vars_of T (numbered old xs)) (table_more f n)
        ∙ both old (map f (range_with_len 0 n)) (f n ∷ []) [] [] (item n (omega arith)) (one (old + length (map f (range_with_len 0 n))) (f n) false (others n (λ e. absurd (omega arith))))

    pub no-item : (n : ℕ) → n ≤ c → vars_of T (numbered old (map f (range_with_len 0 n))) ≡ []
    no-item = item

    pub at-item : (n : ℕ) → c < n → T (f c) ≡ true → vars_of T (numbered old (map f (range_with_len 0 n))) ≡ positive (old + c + 1) ∷ []
    at-item zero lt t = absurd (omega arith)
    at-item (suc n) lt t =
        let s : suc n ≡ n + 1 = omega arith in
        let step = ap (λ m. vars_of T (numbered old (map f (range_with_len 0 m)))) s ∙ ap (λ xs. vars_of T (numbered old xs)) (table_more f n) in
        elim (cases_eq n c) [
          | inl e ↦
              (let size : old + length (map f (range_with_len 0 n)) ≡ old + c = ap (λ m. old + m) (length-map-range_with_len f 0 n ∙ e) in
              step
              ∙ both old (map f (range_with_len 0 n)) (f n ∷ []) [] (positive (old + length (map f (range_with_len 0 n)) + 1) ∷ []) (item n (omega arith)) (one (old + length (map f (range_with_len 0 n))) (f n) true (ap (λ m. T (f m)) e ∙ t))
              ∙ ap (λ m. positive (m + 1) ∷ []) size)
          | inr ne ↦
              (step
              ∙ both old (map f (range_with_len 0 n)) (f n ∷ []) (positive (old + c + 1) ∷ []) [] (at-item n (omega arith) t) (one (old + length (map f (range_with_len 0 n))) (f n) false (others n ne)))
        ]

  -- blocks of the numbers of a range that are kept, of which things of that of c alone may pass
  module _ (f : ℕ → List X) (test : ℕ → Bool) (others : (a : ℕ) → (a ≡ c → ⊥) → (m : ℕ) → vars_of T (numbered m (f a)) ≡ []) (old : ℕ) where
    abbrev pub kept : ℕ → List X
    kept n = flat_map f (filter test (range_with_len 0 n))

    kept_none : (n : ℕ) (m : ℕ) (b : Bool) → (n ≡ c → ⊥) → vars_of T (numbered m (cond b (f n) [])) ≡ []
    kept_none n m true ne = others n ne m
    kept_none n m false ne = refl

    step : (n : ℕ) (a b : List Lit) → vars_of T (numbered old (kept n)) ≡ a → vars_of T (numbered (old + length (kept n)) (cond (test n) (f n) [])) ≡ b → vars_of T (numbered old (kept (suc n))) ≡ a ++ b
    step n a b p q =
        let s : suc n ≡ n + 1 = omega arith in
        ap (λ m. vars_of T (numbered old (kept m))) s ∙ ap (λ xs. vars_of T (numbered old xs)) (kept_more f test n (test n) refl) ∙ both old (kept n) (cond (test n) (f n) []) a b p q

    pub before-block : (n : ℕ) → n ≤ c → vars_of T (numbered old (kept n)) ≡ []
    before-block zero le = refl
    before-block (suc n) le = step n [] [] (before-block n (omega arith)) (kept_none n (old + length (kept n)) (test n) (λ e. absurd (omega arith)))

    pub no-block : (n : ℕ) → test c ≡ false → vars_of T (numbered old (kept n)) ≡ []
    no-block zero e = refl
    no-block (suc n) e =
        elim (cases_eq n c) [
          | inl h ↦ step n [] [] (no-block n e) (ap (λ b. vars_of T (numbered (old + length (kept n)) (cond b (f n) []))) (ap test h ∙ e))
          | inr ne ↦ step n [] [] (no-block n e) (kept_none n (old + length (kept n)) (test n) ne)
        ]

    pub at-block : (n : ℕ) → c < n → test c ≡ true → vars_of T (numbered old (kept n)) ≡ vars_of T (numbered (old + length (kept c)) (f c))
    at-block zero lt e = absurd (omega arith)
    at-block (suc n) lt e =
        elim (cases_eq n c) [
          | inl h ↦
              step n [] (vars_of T (numbered (old + length (kept c)) (f c))) (before-block n (omega arith))
              (ap (λ b. vars_of T (numbered (old + length (kept n)) (cond b (f n) []))) (ap test h ∙ e) ∙ ap (λ m. vars_of T (numbered (old + length (kept m)) (f m))) h)
          | inr ne ↦
              step n (vars_of T (numbered (old + length (kept c)) (f c))) [] (at-block n (omega arith) e) (kept_none n (old + length (kept n)) (test n) ne)
              ∙ append-nil (vars_of T (numbered (old + length (kept c)) (f c)))
        ]

-- ---- what is seen

module _ (g : LaunchGraph) (wants : ℕ → Bool) (table : Table) (k first class cluster cycle : ℕ) where
  abbrev T : Seen → Bool
  T = is_seen class cluster cycle

  other_cycle : (a : ℕ) → (a ≡ cycle → ⊥) → T (seen_at class cluster a) ≡ false
  other_cycle a ne = and_right (class == class) ((cluster == cluster) && (a == cycle)) (and_right (cluster == cluster) (a == cycle) (ne_eqb a cycle ne))

  other_cluster : (a : ℕ) → (a ≡ cluster → ⊥) → (m : ℕ) → vars_of T (numbered m (cluster_seen k class a)) ≡ []
  other_cluster a ne m = no-item T (k + 1) (seen_at class a) (λ b _. and_right (class == class) ((a == cluster) && (b == cycle)) (and_left (a == cluster) (b == cycle) (ne_eqb a cluster ne))) m k (omega arith)

  other_class : (a : ℕ) → (a ≡ class → ⊥) → (m : ℕ) → vars_of T (numbered m (clusters_seen table k 4 a)) ≡ []
  other_class a ne m =
      before-block T 5 (cluster_seen k a) (has_cluster table)
      (λ n _ old. no-item T (k + 1) (seen_at a n) (λ b _. and_left (a == class) ((n == cluster) && (b == cycle)) (ne_eqb a class ne)) old k (omega arith)) m 4 (omega arith)

  abbrev ds : List Seen
  ds = all_seen table k (shown_classes g wants)

  abbrev pub start : ℕ
  start = length (flat_map (clusters_seen table k 4) (filter (is_unsafe_shown g wants) (range_with_len 0 class)))

  abbrev pub offset : ℕ
  offset = length (flat_map (cluster_seen k class) (filter (has_cluster table) (range_with_len 0 cluster)))

  pub seen-is : class < next_class g.rows → is_unsafe_shown g wants class ≡ true → cluster < 4 → has_cluster table cluster ≡ true → cycle < k → vars_of T (numbered first ds) ≡ positive (first + start + offset + cycle + 1) ∷ []
  seen-is lc mc ln mn lt =
      at-block T class (clusters_seen table k 4) (is_unsafe_shown g wants) other_class first (next_class g.rows) lc mc
      ∙ at-block T cluster (cluster_seen k class) (has_cluster table) other_cluster (first + start) 4 ln mn
      ∙ at-item T cycle (seen_at class cluster) other_cycle (first + start + offset) k lt (and_from (class == class) ((cluster == cluster) && (cycle == cycle)) (eq-eqb class class refl) (and_from (cluster == cluster) (cycle == cycle) (eq-eqb cluster cluster refl) (eq-eqb cycle cycle refl)))

  pub seen-within : class < next_class g.rows → is_unsafe_shown g wants class ≡ true → cluster < 4 → has_cluster table cluster ≡ true → cycle < k → first + start + offset + cycle + 1 ≤ first + length ds
  seen-within lc mc ln mn lt =
      let over = vars-over T first (first + length ds) ds (omega arith) in
      (All-head (IsLitOf (first + length ds)) (positive (first + start + offset + cycle + 1)) [] (subst (λ ls. All (IsLitOf (first + length ds)) ls) (seen-is lc mc ln mn lt) over)).within

  pub unseen-class : is_unsafe_shown g wants class ≡ false → vars_of T (numbered first ds) ≡ []
  unseen-class e = no-block T class (clusters_seen table k 4) (is_unsafe_shown g wants) other_class first (next_class g.rows) e

  pub unseen-late-class : next_class g.rows ≤ class → vars_of T (numbered first ds) ≡ []
  unseen-late-class le = before-block T class (clusters_seen table k 4) (is_unsafe_shown g wants) other_class first (next_class g.rows) le

  in_class : (ms : (m : ℕ) → vars_of T (numbered m (clusters_seen table k 4 class)) ≡ []) → vars_of T (numbered first ds) ≡ []
  in_class ms = before-block T (next_class g.rows) (clusters_seen table k 4) (is_unsafe_shown g wants) (λ a _ m. elim (cases_eq a class) [ inl e ↦ ap (λ a. vars_of T (numbered m (clusters_seen table k 4 a))) e ∙ ms m | inr ne ↦ other_class a ne m ]) first (next_class g.rows) (omega arith)

  pub unseen-cluster : has_cluster table cluster ≡ false → vars_of T (numbered first ds) ≡ []
  unseen-cluster e = in_class (λ m. no-block T cluster (cluster_seen k class) (has_cluster table) other_cluster m 4 e)

  pub unseen-late-cluster : 4 ≤ cluster → vars_of T (numbered first ds) ≡ []
  unseen-late-cluster le = in_class (λ m. before-block T cluster (cluster_seen k class) (has_cluster table) other_cluster m 4 le)

  pub unseen-cycle : k ≤ cycle → vars_of T (numbered first ds) ≡ []
  unseen-cycle le =
      in_class (λ m. before-block T 5 (cluster_seen k class) (has_cluster table)
      (λ a _ n. elim (cases_eq a cluster) [ inl e ↦ ap (λ a. vars_of T (numbered n (cluster_seen k class a))) e ∙ no-item T cycle (seen_at class cluster) other_cycle n k le | inr ne ↦ other_cluster a ne n ]) m 4 (omega arith))
