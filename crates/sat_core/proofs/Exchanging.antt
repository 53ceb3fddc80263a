-- A clause exchanges one of its watched literals.
use Rattle.std.proofs.Common.{◌≡◌, ◌≢◌, ℕ, ◌+◌, ◌<◌, ◌≤◌, not, false, List, [], ◌∷◌, ◌++◌, length, take, set, get_or, refl, sym, ap, ◌∙◌, subst, arith, inl, inr}
use Rattle.std.specs.Prelude.{◌⊎◌}
use Rattle.std.specs.List.{All, Contains}
use Rattle.std.proofs.lemmas.Bool.{cases_eq, false≢true}
use Rattle.std.proofs.lemmas.List.{get_or_append_left, get_or_push, get_or-set_same, get_or-set_other, get_or_default, length-set, length_push}
use Rattle.std.proofs.lemmas.List.Elements.{All-push, All-weaker}
use Rattle.cnf_core.specs.declared.literal.Lit.{Lit}
use Rattle.cnf_core.specs.Values.{Partial, IsFalse}
use Rattle.sat_core.specs.declared.trail.Step.{Step}
use Rattle.sat_core.specs.declared.watches.Watcher.{Watcher}
use Rattle.sat_core.specs.declared.watches.Pair.{Pair}
use Rattle.sat_core.specs.Copies.{Copied}
use Rattle.sat_core.specs.Steps.{trail_values, IsTrail}
use Rattle.sat_core.specs.Watches.{no_copied, lits_at, exchanged, no_watcher, list_of, watchers, pair_at, StandsFrom, IsRemoved, with_watcher, IsWatcher, NeedsNoVisit, KeepsWatch, KeepWatches, ArePassedIn, IsFalsifiedAt}
use Rattle.sat_core.proofs.Quiet.{Grows, grows-whole, false-next}
use Rattle.sat_core.proofs.Watching.{list_of-differ}

-- the lists with one watcher more: each stays where it was, and the new one stands in its list
pub set-at : (lists : List (List Watcher)) (k i : ℕ) (xs : List Watcher) → k < length lists → ((k ≡ i) × (watchers (set lists k xs) i ≡ xs)) ⊎ ((k ≢ i) × (watchers (set lists k xs) i ≡ watchers lists i))
set-at lists k i xs few =
    elim (cases_eq k i) [
      | inl same ↦ inl (same, subst (λ (j : ℕ). watchers (set lists k xs) j ≡ xs) same (get_or-set_same lists k xs [] few))
      | inr other ↦ inr (other, get_or-set_other lists k i xs [] (λ e. other (sym e)))
    ]

pub stands-with : (lists : List (List Watcher)) (k i from id : ℕ) (w : Watcher) → k < length lists → StandsFrom from (watchers lists i) id → StandsFrom from (watchers (with_watcher lists k w) i) id
stands-with lists k i from id w few (j, low, within, is) =
    elim (cases_eq k i) [
      | inr other ↦
          subst (λ (xs : List Watcher). StandsFrom from xs id) (sym (get_or-set_other lists k i (watchers lists k ++ w ∷ []) [] (λ e. other (sym e)))) (j, low, within, is)
      | inl same ↦
          (let xs = watchers lists k in
          let long = length_push xs w in
          let there : watchers lists i ≡ xs = ap (watchers lists) (sym same) in
          let within' : j < length xs = (let e = ap length there in omega arith) in
          subst (λ (n : ℕ). StandsFrom from (watchers (with_watcher lists k w) n) id) same
          (subst (λ (ys : List Watcher). StandsFrom from ys id) (sym (get_or-set_same lists k (xs ++ w ∷ []) [] few))
          (j, low, (omega arith), ap (λ (v : Watcher). v.clause) (get_or_append_left xs (w ∷ []) no_watcher j within' ∙ ap (λ (ys : List Watcher). get_or ys j no_watcher) (sym there)) ∙ is)))
    ]

pub stands-new : (lists : List (List Watcher)) (k : ℕ) (w : Watcher) → k < length lists → StandsFrom 0 (watchers (with_watcher lists k w) k) w.clause
stands-new lists k w few =
    let xs = watchers lists k in
    let long = length_push xs w in
    subst (λ (ys : List Watcher). StandsFrom 0 ys w.clause) (sym (get_or-set_same lists k (xs ++ w ∷ []) [] few))
    (length xs, (omega arith), (omega arith), ap (λ (v : Watcher). v.clause) (get_or_push xs w no_watcher (length xs) refl))

pub all-with : (P : ℕ → Watcher → Type 0) (lists : List (List Watcher)) (k i : ℕ) (w : Watcher) → k < length lists → P k w → ((j : ℕ) → All (P j) (watchers lists j)) → All (P i) (watchers (with_watcher lists k w) i)
all-with P lists k i w few holds all =
    elim (set-at lists k i (watchers lists k ++ w ∷ []) few) [
      | inl (same, is) ↦
          subst (All (P i)) (sym is)
          (subst (λ (j : ℕ). All (P j) (watchers lists k ++ w ∷ [])) same (All-push (P k) (watchers lists k) w (all k) holds))
      | inr other ↦ subst (All (P i)) (sym other.1) (all i)
    ]

-- all else stays where one watcher was taken out
stands-removed : (lists : List (List Watcher)) (list place i from id : ℕ) (rest : List Watcher) → list < length lists → IsRemoved (watchers lists list) place rest
    → (get_or (watchers lists list) place no_watcher).clause ≢ id → from ≤ place → StandsFrom from (watchers lists i) id → StandsFrom from (watchers (set lists list rest) i) id
stands-removed lists list place i from id rest few r other low (j, low', within, is) =
    elim (cases_eq list i) [
      | inr ne ↦ subst (λ (xs : List Watcher). StandsFrom from xs id) (sym (get_or-set_other lists list i rest [] (λ e. ne (sym e)))) (j, low', within, is)
      | inl same ↦
          (let xs = watchers lists list in
          let there : watchers lists i ≡ xs = ap (watchers lists) (sym same) in
          let is' : (get_or xs j no_watcher).clause ≡ id = ap (λ (ys : List Watcher). (get_or ys j no_watcher).clause) (sym there) ∙ is in
          let within' : j < length xs = (let e = ap length there in omega arith) in
          let (k, few', at, e) = r.stays j within' (λ at. other (ap (λ (n : ℕ). (get_or xs n no_watcher).clause) (sym at) ∙ is')) in
          let low'' : from ≤ k = elim at [ inl here ↦ omega arith | inr here ↦ omega arith ] in
          subst (λ (n : ℕ). StandsFrom from (watchers (set lists list rest) n) id) same
          (subst (λ (ys : List Watcher). StandsFrom from ys id) (sym (get_or-set_same lists list rest [] few))
          (k, low'', few', ap (λ (v : Watcher). v.clause) e ∙ is')))
    ]

all-removed : (P : ℕ → Watcher → Type 0) (lists : List (List Watcher)) (list place i : ℕ) (rest : List Watcher) → list < length lists → IsRemoved (watchers lists list) place rest
    → ((j : ℕ) → All (P j) (watchers lists j)) → All (P i) (watchers (set lists list rest) i)
all-removed P lists list place i rest few r all =
    elim (set-at lists list i rest few) [
      | inl (same, is) ↦
          subst (All (P i)) (sym is)
          (subst (λ (q : ℕ). All (P q) rest) same (λ k d few'.
          (let (j, within, e) = r.among k few' in
          subst (P list) (sym e ∙ get_or_default rest k no_watcher d few') (all list j no_watcher within))))
      | inr other ↦ subst (All (P i)) (sym other.1) (all i)
    ]

pair-other : (pairs : List Copied) (id k : ℕ) (p : Pair) → id ≢ k → pair_at (exchanged pairs id p) k ≡ pair_at pairs k
pair-other pairs id k p ne = ap (λ (y : Copied). y.pair) (get_or-set_other pairs id k (record { pair = p; lits = lits_at pairs id }) no_copied (λ e. ne (sym e)))

pair-same : (pairs : List Copied) (id : ℕ) (p : Pair) → id < length pairs → pair_at (exchanged pairs id p) id ≡ p
pair-same pairs id p few = ap (λ (y : Copied). y.pair) (get_or-set_same pairs id (record { pair = p; lits = lits_at pairs id }) no_copied few)

lits-stay : (pairs : List Copied) (id k : ℕ) (p : Pair) → id < length pairs → lits_at (exchanged pairs id p) k ≡ lits_at pairs k
lits-stay pairs id k p few =
    let y : Copied = record { pair = p; lits = lits_at pairs id } in
    elim (cases_eq id k) [
      | inl same ↦
          subst (λ (j : ℕ). lits_at (exchanged pairs id p) j ≡ lits_at pairs j) same
          (ap (λ (x : Copied). x.lits) (get_or-set_same pairs id y no_copied few))
      | inr ne ↦ ap (λ (x : Copied). x.lits) (get_or-set_other pairs id k y no_copied (λ e. ne (sym e)))
    ]

-- what an exchange of a watched literal knows: the clause at a place of the list of a false literal gets another one
pub record IsExchange (clauses : List (List Lit)) (steps : List Step) (lists : List (List Watcher)) (pairs : List Copied) (l : Lit) (place id : ℕ) (p : Pair) : Type 0 where
  pub low : 1 ≤ l.var
  pub low_a : 1 ≤ p.a.var
  pub low_b : 1 ≤ p.b.var
  pub list : list_of l < length lists
  pub list_b : list_of p.b < length lists
  pub within : place < length (watchers lists (list_of l))
  pub is : (get_or (watchers lists (list_of l)) place no_watcher).clause ≡ id
  pub false' : IsFalse (trail_values steps) l
  pub first : (((pair_at pairs id).a ≡ l) × (p.a ≡ (pair_at pairs id).b)) ⊎ (((pair_at pairs id).a ≢ l) × (p.a ≡ (pair_at pairs id).a))
  pub among : Contains (get_or clauses id []) p.b
  pub differ : p.b ≢ p.a
  pub free : IsFalse (trail_values steps) p.b → ⊥

-- of the old pair
pub exists-at : (clauses : List (List Lit)) (n : ℕ) (steps : List Step) (lists : List (List Watcher)) (pairs : List Copied) (qhead : ℕ) (l : Lit) (place id : ℕ)
    → KeepWatches clauses n steps lists pairs qhead → place < length (watchers lists (list_of l)) → (get_or (watchers lists (list_of l)) place no_watcher).clause ≡ id
    → (id < length pairs) × ((pair_at pairs id).a ≢ (pair_at pairs id).b)
exists-at clauses n steps lists pairs qhead l place id h within is =
    let r = h.right (list_of l) place no_watcher within in (
      subst (λ (k : ℕ). k < length pairs) is r.exists,
      subst (λ (k : ℕ). (pair_at pairs k).a ≢ (pair_at pairs k).b) is r.differ,
    )

-- a fact of both old literals holds of the one that stays
pub stays-one : (P : Lit → Type 0) (o : Pair) (l a : Lit) → ((o.a ≡ l) × (a ≡ o.b)) ⊎ ((o.a ≢ l) × (a ≡ o.a)) → P o.a → P o.b → P a
stays-one P o l a first at-a at-b =
    elim first [
      | inl (is, is') ↦ subst P (sym is') at-b
      | inr (ne, is') ↦ subst P (sym is') at-a
    ]

-- which isn't the false one
pub stays-other : (o : Pair) (l a : Lit) → ((o.a ≡ l) × (a ≡ o.b)) ⊎ ((o.a ≢ l) × (a ≡ o.a)) → (o.a ≢ o.b) → a ≢ l
stays-other o l a first differ same =
    elim first [
      | inl (is, is') ↦ differ (is ∙ sym same ∙ is')
      | inr (ne, is') ↦ ne (sym is' ∙ same)
    ]

quiet-exchanged : (s t u : Partial) (c : List Lit) (o p : Pair) (l : Lit) → Grows s u → ((o.a ≡ l) × (p.a ≡ o.b)) ⊎ ((o.a ≢ l) × (p.a ≡ o.a)) → (p.b ≢ p.a) → (IsFalse u p.b → ⊥)
    → NeedsNoVisit s t c o → NeedsNoVisit s t c p
quiet-exchanged s t u c o p l grows first differ free q =
    elim q [
      | inl one ↦ inl one
      | inr two ↦
          (let (ne, a, b) = two in
          inr ((λ e. differ (sym e)), stays-one (λ m. IsFalse s m → ⊥) o l p.a first a b, (λ f. free (grows p.b.var (not p.b.positive) f))))
    ]

abbrev pub exchanged-lists : List (List Watcher) → Lit → List Watcher → ℕ → Pair → List (List Watcher)
exchanged-lists lists l rest id p = with_watcher (set lists (list_of l) rest) (list_of p.b) (record { clause = id; blocker = p.a; binary = false })

-- **a clause watches another literal**
pub kept-moved : (clauses : List (List Lit)) (n : ℕ) (steps : List Step) (lists : List (List Watcher)) (pairs : List Copied) (qhead : ℕ) (l : Lit) (place id : ℕ) (p : Pair) (rest : List Watcher)
    → KeepWatches clauses n steps lists pairs qhead → IsExchange clauses steps lists pairs l place id p → IsRemoved (watchers lists (list_of l)) place rest
    → KeepWatches clauses n steps (exchanged-lists lists l rest id p) (exchanged pairs id p) qhead
kept-moved clauses n steps lists pairs qhead l place id p rest h x r =
    let q = list_of l in
    let mid = set lists q rest in
    let size = length-set lists q rest in
    let w : Watcher = record { clause = id; blocker = p.a; binary = false } in
    let lists' = exchanged-lists lists l rest id p in
    let pairs' = exchanged pairs id p in
    let c = get_or clauses id [] in
    let o = pair_at pairs id in
    let size' = length-set mid (list_of p.b) (watchers mid (list_of p.b) ++ w ∷ []) in
    let many = length-set pairs id (record { pair = p; lits = lits_at pairs id }) in
    let (exists, differ) = exists-at clauses n steps lists pairs qhead l place id h x.within x.is in
    let old = h.kept id exists in
    let few-list = x.list in
    let few-b : list_of p.b < length mid = (let e = x.list_b in omega arith) in
    let now : pair_at pairs' id ≡ p = pair-same pairs id p exists in
    let P : ℕ → Watcher → Type 0 = IsWatcher clauses pairs' in
    let count' = h.count in
    let attached' = h.attached in
    let moved : (i : ℕ) (v : Watcher) → IsWatcher clauses pairs i v → P i v = λ i v rv.
    (let e = rv.exists in
    record {
      exists = omega arith;
      has_blocker = rv.has_blocker;
      differ = elim (cases_eq id v.clause) [
        | inl same ↦ subst (λ (k : ℕ). (pair_at pairs' k).a ≢ (pair_at pairs' k).b) same (subst (λ (y : Pair). y.a ≢ y.b) (sym now) (λ e'. x.differ (sym e')))
        | inr ne ↦ subst (λ (y : Pair). y.a ≢ y.b) (sym (pair-other pairs id v.clause p ne)) rv.differ
      ];
      binary = rv.binary;
    }) in
    let stays : (i k : ℕ) → id ≢ k → StandsFrom 0 (watchers lists i) k → StandsFrom 0 (watchers lists' i) k = λ i k ne stands.
    stands-with mid (list_of p.b) i 0 k w few-b (stands-removed lists q place i 0 k rest x.list r (λ e. ne (sym x.is ∙ e)) (omega arith) stands) in
    let apart : list_of p.a ≢ q = list_of-differ p.a l x.low_a x.low (stays-other o l p.a x.first differ) in
    record {
      few = h.few;
      count = omega arith;
      attached = omega arith;
      copies = λ k few. lits-stay pairs id k p exists ∙ h.copies k (omega arith);
      within = h.within;
      right = λ k. all-with P mid (list_of p.b) k w few-b (record {
        exists = omega arith;
        has_blocker = stays-one (Contains c) o l p.a x.first old.has_a old.has_b;
        differ = subst (λ (y : Pair). y.a ≢ y.b) (sym now) (λ e'. x.differ (sym e'));
        binary = λ e'. absurd (false≢true e');
      }) (λ j. all-removed P lists q place j rest x.list r (λ i. All-weaker (IsWatcher clauses pairs i) (P i) (moved i) (watchers lists i) (h.right i)));
      kept = λ k few. elim (cases_eq id k) [
        | inl same ↦
            subst (λ (j : ℕ). KeepsWatch steps lists' qhead j (get_or clauses j []) (pair_at pairs' j)) same
            (subst (λ (y : Pair). KeepsWatch steps lists' qhead id c y) (sym now)
            (record {
              has_a = stays-one (Contains c) o l p.a x.first old.has_a old.has_b;
              has_b = x.among;
              listed_a = λ ne. stands-with mid (list_of p.b) (list_of p.a) 0 id w few-b
                  (subst (λ (ys : List Watcher). StandsFrom 0 ys id) (sym (get_or-set_other lists q (list_of p.a) rest [] apart))
                  (stays-one (λ m. StandsFrom 0 (watchers lists (list_of m)) id) o l p.a x.first (old.listed_a differ) (old.listed_b differ)));
              listed_b = λ ne. stands-new mid (list_of p.b) w few-b;
              decided = λ i d few' is. quiet-exchanged (trail_values (take i steps)) (trail_values (take i steps)) (trail_values steps) c o p l (grows-whole steps i) x.first x.differ x.free (old.decided i d few' is);
              visited = quiet-exchanged (trail_values (take qhead steps)) (trail_values steps) (trail_values steps) c o p l (grows-whole steps qhead) x.first x.differ x.free old.visited;
            }))
        | inr ne ↦
            (let k' = h.kept k (omega arith) in
            subst (λ (y : Pair). KeepsWatch steps lists' qhead k (get_or clauses k []) y) (sym (pair-other pairs id k p ne))
            (record {
              has_a = k'.has_a;
              has_b = k'.has_b;
              listed_a = λ differ'. stays (list_of (pair_at pairs k).a) k ne (k'.listed_a differ');
              listed_b = λ differ'. stays (list_of (pair_at pairs k).b) k ne (k'.listed_b differ');
              decided = k'.decided;
              visited = k'.visited;
            }))
      ];
    }

-- **and the list is as far as before, with one watcher fewer**
pub passed-moved : (clauses : List (List Lit)) (n : ℕ) (steps : List Step) (lists : List (List Watcher)) (pairs : List Copied) (qhead : ℕ) (l : Lit) (place id : ℕ) (p : Pair) (rest : List Watcher)
    → IsTrail clauses steps → IsFalsifiedAt steps qhead l → KeepWatches clauses n steps lists pairs qhead → IsExchange clauses steps lists pairs l place id p → IsRemoved (watchers lists (list_of l)) place rest
    → ArePassedIn clauses steps lists pairs qhead (list_of l) place → ArePassedIn clauses steps (exchanged-lists lists l rest id p) (exchanged pairs id p) qhead (list_of l) place
passed-moved clauses n steps lists pairs qhead l place id p rest trail at h x r passed k few =
    let q = list_of l in
    let mid = set lists q rest in
    let size = length-set lists q rest in
    let w : Watcher = record { clause = id; blocker = p.a; binary = false } in
    let lists' = exchanged-lists lists l rest id p in
    let c = get_or clauses id [] in
    let o = pair_at pairs id in
    let many = length-set pairs id (record { pair = p; lits = lits_at pairs id }) in
    let (exists, differ) = exists-at clauses n steps lists pairs qhead l place id h x.within x.is in
    let old = h.kept id exists in
    let few-b : list_of p.b < length mid = (let e = x.list_b in omega arith) in
    elim (cases_eq id k) [
      | inl same ↦
          inl (subst (λ (j : ℕ). NeedsNoVisit (trail_values (take (qhead + 1) steps)) (trail_values steps) (get_or clauses j []) (pair_at (exchanged pairs id p) j)) same
          (subst (λ (y : Pair). NeedsNoVisit (trail_values (take (qhead + 1) steps)) (trail_values steps) c y) (sym (pair-same pairs id p exists))
          (elim old.visited [
            | inl one ↦ inl one
            | inr two ↦
                (let (ne, a, b) = two in
                let before : IsFalse (trail_values (take qhead steps)) p.a → ⊥ = stays-one (λ m. IsFalse (trail_values (take qhead steps)) m → ⊥) o l p.a x.first a b in
                inr (
                  (λ e. x.differ (sym e)),
                  (λ f. stays-other o l p.a x.first differ (false-next clauses steps qhead p.a l trail at before f)),
                  (λ f. x.free (grows-whole steps (qhead + 1) p.b.var (not p.b.positive) f)),
                ))
          ])))
      | inr ne ↦ elim (passed k (omega arith)) [
        | inl quiet ↦ inl (subst (λ (y : Pair). NeedsNoVisit (trail_values (take (qhead + 1) steps)) (trail_values steps) (get_or clauses k []) y) (sym (pair-other pairs id k p ne)) quiet)
        | inr stands ↦ inr (stands-with mid (list_of p.b) q place k w few-b (stands-removed lists q place q place k rest x.list r (λ e. ne (sym x.is ∙ e)) (omega arith) stands))
      ]
    ]

pub fewer-moved : (clauses : List (List Lit)) (steps : List Step) (lists : List (List Watcher)) (pairs : List Copied) (l : Lit) (place id : ℕ) (p : Pair) (rest : List Watcher)
    → IsExchange clauses steps lists pairs l place id p → IsRemoved (watchers lists (list_of l)) place rest
    → length (watchers (exchanged-lists lists l rest id p) (list_of l)) + 1 ≡ length (watchers lists (list_of l))
fewer-moved clauses steps lists pairs l place id p rest x r =
    let q = list_of l in
    let mid = set lists q rest in
    let w : Watcher = record { clause = id; blocker = p.a; binary = false } in
    let apart : q ≢ list_of p.b = list_of-differ l p.b x.low x.low_b (λ e. x.free (subst (IsFalse (trail_values steps)) e x.false')) in
    let e = ap length (get_or-set_other mid (list_of p.b) q (watchers mid (list_of p.b) ++ w ∷ []) [] apart ∙ get_or-set_same lists q rest [] x.list) in
    let fewer = r.fewer in
    omega arith
