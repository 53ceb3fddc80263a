-- A new clause gets its watched literals: the two that become false last.
use Rattle.std.proofs.Common.{◌≡◌, ◌≢◌, ℕ, ◌<◌, ◌≤◌, Bool, List, [], ◌∷◌, ◌++◌, length, take, get_or, refl, sym, ap, ◌∙◌, subst, arith, inl, inr}
use Rattle.std.specs.Prelude.{◌⊎◌, IsTrue}
use Rattle.std.specs.List.{All, Contains}
use Rattle.std.proofs.lemmas.Bool.{cases_lt}
use Rattle.std.proofs.lemmas.List.{take_all, get_or_append_left, get_or_push, length-set, length_push}
use Rattle.std.proofs.lemmas.List.Elements.{All-weaker, All-contains}
use Rattle.cnf_core.specs.declared.literal.Lit.{Lit}
use Rattle.cnf_core.specs.Values.{IsUnassigned, IsOpenClause}
use Rattle.sat_core.specs.declared.trail.Step.{Step}
use Rattle.sat_core.specs.declared.watches.Watcher.{Watcher}
use Rattle.sat_core.specs.declared.watches.Pair.{Pair}
use Rattle.sat_core.specs.Copies.{Copied}
use Rattle.sat_core.specs.Steps.{trail_values, AreClosedBefore}
use Rattle.sat_core.specs.Watches.{no_copied, list_of, watchers, pair_at, StandsFrom, with_watcher, with_pair, IsWatcher, NeedsNoVisit, KeepsWatch, KeepWatches, IsNoLater, IsChosen}
use Rattle.sat_core.proofs.Holding.{none≢some}
use Rattle.sat_core.proofs.Quiet.{grows-whole, quiet-weaker, lit-eq-cases}
use Rattle.sat_core.proofs.Exchanging.{stands-with, stands-new, all-with}

-- the two literals that become false last are quiet wherever the clause is open
chosen-quiet : (steps : List Step) (c : List Lit) (p : Pair) (k : ℕ) → k ≤ length steps → IsChosen steps c p → IsOpenClause (trail_values (take k steps)) c → NeedsNoVisit (trail_values (take k steps)) (trail_values (take k steps)) c p
chosen-quiet steps c p k le h open' =
    elim open' [
      | inl one ↦ inl one
      | inr two ↦
          (let (l, m, in-l, in-m, differ, free-l, free-m) = two in
          elim (lit-eq-cases l p.a) [
            | inl same ↦ by m in-m free-m (λ e. differ (same ∙ sym e))
            | inr ne ↦ by l in-l free-l ne
          ])
    ]
  where
    by : (y : Lit) → Contains c y → IsUnassigned (trail_values (take k steps)) y → (y ≢ p.a) → NeedsNoVisit (trail_values (take k steps)) (trail_values (take k steps)) c p
    by y there free ne =
        elim (All-contains (λ m. (m ≡ p.a) ⊎ ((p.a ≢ p.b) × IsNoLater steps m p.b)) c y h.second there) [
          | inl same ↦ absurd (ne same)
          | inr (differ, later) ↦
              inr (
                differ,
                (λ f. none≢some (sym free ∙ All-contains (λ m. IsNoLater steps m p.a) c y h.last there k le f)),
                (λ f. none≢some (sym free ∙ later k le f)),
              )
        ]

-- the clauses, and the next one with these watched literals
abbrev pub with_copied : List (List Lit) → List Copied → Pair → List Copied
with_copied clauses pairs p = pairs ++ record { pair = p; lits = get_or clauses (length pairs) [] } ∷ []

-- what a new clause needs of the lists
record IsListed (clauses : List (List Lit)) (lists lists' : List (List Watcher)) (pairs : List Copied) (p : Pair) : Type 0 where
  size : length lists' ≡ length lists
  right : (k : ℕ) → All (IsWatcher clauses (with_copied clauses pairs p) k) (watchers lists' k)
  stays : (i k : ℕ) → StandsFrom 0 (watchers lists i) k → StandsFrom 0 (watchers lists' i) k
  listed_a : p.a ≢ p.b → StandsFrom 0 (watchers lists' (list_of p.a)) (length pairs)
  listed_b : p.a ≢ p.b → StandsFrom 0 (watchers lists' (list_of p.b)) (length pairs)

pair-before : (clauses : List (List Lit)) (pairs : List Copied) (p : Pair) (k : ℕ) → k < length pairs → pair_at (with_copied clauses pairs p) k ≡ pair_at pairs k
pair-before clauses pairs p k few = ap (λ (y : Copied). y.pair) (get_or_append_left pairs (record { pair = p; lits = get_or clauses (length pairs) [] } ∷ []) no_copied k few)

pair-last : (clauses : List (List Lit)) (pairs : List Copied) (p : Pair) (k : ℕ) → length pairs ≡ k → pair_at (with_copied clauses pairs p) k ≡ p
pair-last clauses pairs p k is = ap (λ (y : Copied). y.pair) (get_or_push pairs (record { pair = p; lits = get_or clauses (length pairs) [] }) no_copied k is)

added-with : (clauses : List (List Lit)) (n : ℕ) (steps : List Step) (lists lists' : List (List Watcher)) (pairs : List Copied) (qhead : ℕ) (p : Pair)
    → KeepWatches clauses n steps lists pairs qhead → length pairs < length clauses → IsChosen steps (get_or clauses (length pairs) []) p
    → AreClosedBefore clauses steps → IsOpenClause (trail_values steps) (get_or clauses (length pairs) []) → IsListed clauses lists lists' pairs p
    → KeepWatches clauses n steps lists' (with_copied clauses pairs p) qhead
added-with clauses n steps lists lists' pairs qhead p h more chosen before open' x =
    let long = length_push pairs (record { pair = p; lits = get_or clauses (length pairs) [] }) in
    let pairs' = with_copied clauses pairs p in
    let size = x.size in
    let count' = h.count in
    let c = get_or clauses (length pairs) [] in
    let all : take (length steps) steps ≡ steps = take_all (length steps) steps (omega arith) in
    record {
      few = h.few;
      count = omega arith;
      attached = omega arith;
      copies = λ k few. elim (cases_lt k (length pairs)) [
        | inl first ↦ ap (λ (y : Copied). y.lits) (get_or_append_left pairs (record { pair = p; lits = c } ∷ []) no_copied k first) ∙ h.copies k first
        | inr last ↦
            (let here : length pairs ≡ k = omega arith in
            ap (λ (y : Copied). y.lits) (get_or_push pairs (record { pair = p; lits = c }) no_copied k here) ∙ ap (λ (j : ℕ). get_or clauses j []) here)
      ];
      within = h.within;
      right = x.right;
      kept = λ k few. elim (cases_lt k (length pairs)) [
        | inl first ↦
            (let o = h.kept k first in
            subst (λ (y : Pair). KeepsWatch steps lists' qhead k (get_or clauses k []) y) (sym (pair-before clauses pairs p k first))
            (record {
              has_a = o.has_a;
              has_b = o.has_b;
              listed_a = λ differ. x.stays (list_of (pair_at pairs k).a) k (o.listed_a differ);
              listed_b = λ differ. x.stays (list_of (pair_at pairs k).b) k (o.listed_b differ);
              decided = o.decided;
              visited = o.visited;
            }))
        | inr last ↦
            (let here : length pairs ≡ k = omega arith in
            subst (λ (y : Pair). KeepsWatch steps lists' qhead k (get_or clauses k []) y) (sym (pair-last clauses pairs p k here))
            (subst (λ (j : ℕ). KeepsWatch steps lists' qhead j (get_or clauses j []) p) here
            (record {
              has_a = chosen.has_a;
              has_b = chosen.has_b;
              listed_a = x.listed_a;
              listed_b = x.listed_b;
              decided = λ i d few' is. chosen-quiet steps c p i (omega arith) chosen (before i d few' is (length pairs) [] more);
              visited =
                  (let now = chosen-quiet steps c p (length steps) (omega arith) chosen (subst (λ (ss : List Step). IsOpenClause (trail_values ss) c) (sym all) open') in
                  let now' = subst (λ (ss : List Step). NeedsNoVisit (trail_values ss) (trail_values ss) c p) all now in
                  quiet-weaker (trail_values steps) (trail_values (take qhead steps)) (trail_values steps) (trail_values steps) c p (grows-whole steps qhead) (λ y b e. e) now');
            })))
      ];
    }

watcher-more : (clauses : List (List Lit)) (pairs : List Copied) (p : Pair) (k : ℕ) (w : Watcher) → IsWatcher clauses pairs k w → IsWatcher clauses (with_copied clauses pairs p) k w
watcher-more clauses pairs p k w r =
    let long = length_push pairs (record { pair = p; lits = get_or clauses (length pairs) [] }) in
    let e = r.exists in
    record {
      exists = omega arith;
      has_blocker = r.has_blocker;
      differ = subst (λ (y : Pair). y.a ≢ y.b) (sym (pair-before clauses pairs p w.clause r.exists)) r.differ;
      binary = r.binary;
    }

-- **a new clause gets its watched literals**
pub kept-added : (clauses : List (List Lit)) (n : ℕ) (steps : List Step) (lists lists' : List (List Watcher)) (pairs : List Copied) (qhead : ℕ) (p : Pair) (binary : Bool)
    → KeepWatches clauses n steps lists pairs qhead → length pairs < length clauses → IsChosen steps (get_or clauses (length pairs) []) p
    → AreClosedBefore clauses steps → IsOpenClause (trail_values steps) (get_or clauses (length pairs) [])
    → list_of p.a < length lists → list_of p.b < length lists → (p.a ≡ p.b → lists' ≡ lists) → (p.a ≢ p.b → lists' ≡ with_pair lists (length pairs) p binary)
    → (IsTrue binary → (p.a ≢ p.b) → All (λ m. (m ≡ p.a) ⊎ (m ≡ p.b)) (get_or clauses (length pairs) [])) → KeepWatches clauses n steps lists' (with_copied clauses pairs p) qhead
kept-added clauses n steps lists lists' pairs qhead p binary h more chosen before open' in-a in-b one two both =
    added-with clauses n steps lists lists' pairs qhead p h more chosen before open'
    (elim (lit-eq-cases p.a p.b) [
      | inl same ↦
          subst (λ (ls : List (List Watcher)). IsListed clauses lists ls pairs p) (sym (one same))
          (record {
            size = refl;
            right = λ k. All-weaker (IsWatcher clauses pairs k) (IsWatcher clauses (with_copied clauses pairs p) k) (watcher-more clauses pairs p k) (watchers lists k) (h.right k);
            stays = λ i k stands. stands;
            listed_a = λ differ. absurd (differ same);
            listed_b = λ differ. absurd (differ same);
          })
      | inr differ ↦
          (let id = length pairs in
          let c = get_or clauses id [] in
          let long = length_push pairs (record { pair = p; lits = get_or clauses (length pairs) [] }) in
          let P : ℕ → Watcher → Type 0 = IsWatcher clauses (with_copied clauses pairs p) in
          let first : Watcher = record { clause = id; blocker = p.b; binary = binary } in
          let second : Watcher = record { clause = id; blocker = p.a; binary = binary } in
          let mid = with_watcher lists (list_of p.a) first in
          let size = length-set lists (list_of p.a) (watchers lists (list_of p.a) ++ first ∷ []) in
          let size' = length-set mid (list_of p.b) (watchers mid (list_of p.b) ++ second ∷ []) in
          let in-b' : list_of p.b < length mid = omega arith in
          let ne : (pair_at (with_copied clauses pairs p) id).a ≢ (pair_at (with_copied clauses pairs p) id).b = subst (λ (y : Pair). y.a ≢ y.b) (sym (pair-last clauses pairs p id refl)) differ in
          subst (λ (ls : List (List Watcher)). IsListed clauses lists ls pairs p) (sym (two differ))
          (record {
            size = omega arith;
            right = λ k. all-with P mid (list_of p.b) k second in-b' (record { exists = omega arith; has_blocker = chosen.has_a; differ = ne; binary = λ t. All-weaker (λ m. (m ≡ p.a) ⊎ (m ≡ p.b)) (λ m. (m ≡ p.a) ⊎ (list_of m ≡ list_of p.b)) (λ m e. elim e [ inl here ↦ inl here | inr there ↦ inr (ap list_of there) ]) c (both t differ) })
                (λ j. all-with P lists (list_of p.a) j first in-a (record { exists = omega arith; has_blocker = chosen.has_b; differ = ne; binary = λ t. All-weaker (λ m. (m ≡ p.a) ⊎ (m ≡ p.b)) (λ m. (m ≡ p.b) ⊎ (list_of m ≡ list_of p.a)) (λ m e. elim e [ inl here ↦ inr (ap list_of here) | inr there ↦ inl there ]) c (both t differ) })
                (λ i. All-weaker (IsWatcher clauses pairs i) (P i) (watcher-more clauses pairs p i) (watchers lists i) (h.right i)));
            stays = λ i k stands. stands-with mid (list_of p.b) i 0 k second in-b' (stands-with lists (list_of p.a) i 0 k first in-a stands);
            listed_a = λ differ'. stands-with mid (list_of p.b) (list_of p.a) 0 id second in-b' (stands-new lists (list_of p.a) first in-a);
            listed_b = λ differ'. stands-new mid (list_of p.b) second in-b';
          }))
    ])
