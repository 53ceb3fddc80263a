-- A watcher gets another blocker, a literal of its clause: all that the lists keep stays.
use Rattle.std.proofs.Common.{◌≡◌, ℕ, ◌<◌, List, [], length, set, get_or, sym, ap, ◌∙◌, subst, arith, inl, inr}
use Rattle.std.specs.Prelude.{IsTrue}
use Rattle.std.specs.List.{All, Contains}
use Rattle.std.proofs.lemmas.Bool.{cases_eq}
use Rattle.std.proofs.lemmas.List.{get_or-set_same, get_or-set_other, length-set}
use Rattle.std.proofs.lemmas.List.Elements.{All-set}
use Rattle.cnf_core.specs.declared.literal.Lit.{Lit}
use Rattle.sat_core.specs.declared.trail.Step.{Step}
use Rattle.sat_core.specs.declared.watches.Watcher.{Watcher}
use Rattle.sat_core.specs.Copies.{Copied}
use Rattle.sat_core.specs.Watches.{no_watcher, list_of, watchers, with_blocker, watcher_with, pair_at, StandsFrom, IsWatcher, KeepWatches, ArePassedIn}
use Rattle.sat_core.proofs.Exchanging.{set-at}

renewed-at : (xs : List Watcher) (place j : ℕ) (blocker : Lit) → place < length xs → (get_or (set xs place (watcher_with xs place blocker)) j no_watcher).clause ≡ (get_or xs j no_watcher).clause
renewed-at xs place j blocker few =
    let w = watcher_with xs place blocker in
    elim (cases_eq j place) [
      | inl is ↦
          ap (λ (i : ℕ). (get_or (set xs place w) i no_watcher).clause) is ∙ ap (λ (v : Watcher). v.clause) (get_or-set_same xs place w no_watcher few)
          ∙ ap (λ (i : ℕ). (get_or xs i no_watcher).clause) (sym is)
      | inr ne ↦ ap (λ (v : Watcher). v.clause) (get_or-set_other xs place j w no_watcher ne)
    ]

stands-renewed : (lists : List (List Watcher)) (list place i from id : ℕ) (blocker : Lit) → list < length lists → place < length (watchers lists list)
    → StandsFrom from (watchers lists i) id → StandsFrom from (watchers (with_blocker lists list place blocker) i) id
stands-renewed lists list place i from id blocker few within (j, low, within', is) =
    let xs = watchers lists list in
    let w = watcher_with xs place blocker in
    elim (cases_eq list i) [
      | inr other ↦ subst (λ (ys : List Watcher). StandsFrom from ys id) (sym (get_or-set_other lists list i (set xs place w) [] (λ e. other (sym e)))) (j, low, within', is)
      | inl at ↦
          (let there : watchers lists i ≡ xs = ap (watchers lists) (sym at) in
          let size = length-set xs place w in
          let few' : j < length xs = (let e = ap length there in omega arith) in
          subst (λ (n : ℕ). StandsFrom from (watchers (with_blocker lists list place blocker) n) id) at
          (subst (λ (ys : List Watcher). StandsFrom from ys id) (sym (get_or-set_same lists list (set xs place w) [] few))
          (j, low, (omega arith), renewed-at xs place j blocker within ∙ ap (λ (ys : List Watcher). (get_or ys j no_watcher).clause) (sym there) ∙ is)))
    ]

pub kept-renewed : (clauses : List (List Lit)) (n : ℕ) (steps : List Step) (lists : List (List Watcher)) (pairs : List Copied) (qhead list place : ℕ) (blocker : Lit)
    → list < length lists → place < length (watchers lists list) → Contains (get_or clauses (get_or (watchers lists list) place no_watcher).clause []) blocker
    → (IsTrue (get_or (watchers lists list) place no_watcher).binary → ⊥) → KeepWatches clauses n steps lists pairs qhead → KeepWatches clauses n steps (with_blocker lists list place blocker) pairs qhead
kept-renewed clauses n steps lists pairs qhead list place blocker few within among long h =
    let xs = watchers lists list in
    let w = watcher_with xs place blocker in
    let old = h.right list place no_watcher within in
    record {
      count = length-set lists list (set xs place w) ∙ h.count;
      few = h.few;
      attached = h.attached;
      copies = h.copies;
      within = h.within;
      right = λ k. elim (set-at lists list k (set xs place w) few) [
        | inl (same, is) ↦
            subst (All (IsWatcher clauses pairs k)) (sym is)
            (subst (λ (i : ℕ). All (IsWatcher clauses pairs i) (set xs place w)) same
            (All-set (IsWatcher clauses pairs list) xs place w (record { exists = old.exists; has_blocker = among; differ = old.differ; binary = λ t. absurd (long t) }) (h.right list)))
        | inr other ↦ subst (All (IsWatcher clauses pairs k)) (sym other.1) (h.right k)
      ];
      kept = λ id few'.
          (let o = h.kept id few' in
          record {
            has_a = o.has_a;
            has_b = o.has_b;
            listed_a = λ differ. stands-renewed lists list place (list_of (pair_at pairs id).a) 0 id blocker few within (o.listed_a differ);
            listed_b = λ differ. stands-renewed lists list place (list_of (pair_at pairs id).b) 0 id blocker few within (o.listed_b differ);
            decided = o.decided;
            visited = o.visited;
          });
    }

pub passed-renewed : (clauses : List (List Lit)) (steps : List Step) (lists : List (List Watcher)) (pairs : List Copied) (qhead list place from : ℕ) (blocker : Lit)
    → list < length lists → place < length (watchers lists list) → ArePassedIn clauses steps lists pairs qhead list from → ArePassedIn clauses steps (with_blocker lists list place blocker) pairs qhead list from
passed-renewed clauses steps lists pairs qhead list place from blocker few within h id few' =
    elim (h id few') [ inl quiet ↦ inl quiet | inr stands ↦ inr (stands-renewed lists list place list from id blocker few within stands) ]

pub length-renewed : (lists : List (List Watcher)) (list place : ℕ) (blocker : Lit) → list < length lists → length (watchers (with_blocker lists list place blocker) list) ≡ length (watchers lists list)
length-renewed lists list place blocker few =
    let xs = watchers lists list in
    let w = watcher_with xs place blocker in
    ap length (get_or-set_same lists list (set xs place w) [] few) ∙ length-set xs place w
