-- What the watch lists keep: over steps, over more clauses, and round a list.
use Rattle.std.proofs.Common.{◌≡◌, ◌≢◌, ℕ, ◌+◌, ◌-◌, ◌*◌, ◌<◌, ◌≤◌, Bool, true, false, cond, List, [], ◌∷◌, ◌++◌, length, take, get_or, refl, sym, ap, ◌∙◌, subst, arith, inl, inr, None, append-nil, append_assoc, min}
use Rattle.std.specs.Prelude.{◌⊎◌, IsTrue}
use Rattle.std.specs.List.{All, Contains}
use Rattle.std.proofs.lemmas.Bool.{cases_eq, cases_lt}
use Rattle.std.proofs.lemmas.List.{take_at, take_all, take-append-le, take-take, get_or_append_left, get_or_push, get_or-take, get_or_default, length_push, length-append, length-take}
use Rattle.std.proofs.lemmas.List.Elements.{All-head, All-tail, All-append, All-weaker}
use Rattle.cnf_core.specs.declared.literal.Lit.{Lit}
use Rattle.cnf_core.specs.Formula.{IsLitOf, negated}
use Rattle.cnf_core.specs.Values.{IsOpenClause, IsClosed}
use Rattle.sat_core.specs.declared.trail.Step.{Step}
use Rattle.sat_core.specs.declared.watches.Watcher.{Watcher}
use Rattle.sat_core.specs.Copies.{Copied}
use Rattle.sat_core.specs.Steps.{trail_values, IsTrail, Propagates}
use Rattle.sat_core.specs.Watches.{no_watcher, list_of, watchers, pair_at, StandsFrom, IsRemoved, IsWatcher, IsTrueClause, NeedsNoVisit, KeepsWatch, KeepWatches, ArePassedIn, IsFalsifiedAt}
use Rattle.sat_core.proofs.Quiet.{grows-whole, grows-push, quiet-weaker, quiet-open, false-cases, lit-same, false-next}

-- the places of two literals' lists differ where the literals do
pub list_of-differ : (l m : Lit) → 1 ≤ l.var → 1 ≤ m.var → (l ≢ m) → list_of l ≢ list_of m
list_of-differ l m low low' differ same = differ (at l.positive m.positive refl refl)
  where
    at : (p q : Bool) → l.positive ≡ p → m.positive ≡ q → l ≡ m
    at true true is is' =
        (let e = ap (λ (b : Bool). 2 * (l.var - 1) + cond {A = ℕ} b 1 0) is in
        let e' = ap (λ (b : Bool). 2 * (m.var - 1) + cond {A = ℕ} b 1 0) is' in
        lit-same l m (omega arith) (is ∙ sym is'))
    at true false is is' =
        (let e = ap (λ (b : Bool). 2 * (l.var - 1) + cond {A = ℕ} b 1 0) is in
        let e' = ap (λ (b : Bool). 2 * (m.var - 1) + cond {A = ℕ} b 1 0) is' in
        absurd (omega arith))
    at false true is is' =
        (let e = ap (λ (b : Bool). 2 * (l.var - 1) + cond {A = ℕ} b 1 0) is in
        let e' = ap (λ (b : Bool). 2 * (m.var - 1) + cond {A = ℕ} b 1 0) is' in
        absurd (omega arith))
    at false false is is' =
        (let e = ap (λ (b : Bool). 2 * (l.var - 1) + cond {A = ℕ} b 1 0) is in
        let e' = ap (λ (b : Bool). 2 * (m.var - 1) + cond {A = ℕ} b 1 0) is' in
        lit-same l m (omega arith) (is ∙ sym is'))

-- and it is there
pub list-within : (n count : ℕ) (l : Lit) → IsLitOf n l → count ≡ 2 * n → list_of l < count
list-within n count l at size = by l.positive refl
  where
    by : (p : Bool) → l.positive ≡ p → list_of l < count
    by true is = (let e = ap (λ (b : Bool). 2 * (l.var - 1) + cond {A = ℕ} b 1 0) is in let low = at.above in let high = at.within in omega arith)
    by false is = (let e = ap (λ (b : Bool). 2 * (l.var - 1) + cond {A = ℕ} b 1 0) is in let low = at.above in let high = at.within in omega arith)

-- the watcher at a place was taken out
pub removed : (xs ys : List Watcher) (p : ℕ) → p < length xs → length ys + 1 ≡ length xs
    → ((d : Watcher) → p + 1 < length xs → get_or ys p d ≡ get_or xs (length xs - 1) d)
    → ((k : ℕ) (d : Watcher) → k ≢ p → k + 1 < length xs → get_or ys k d ≡ get_or xs k d) → IsRemoved xs p ys
removed xs ys p few fewer last other =
    record {
      fewer = fewer;
      stays = λ j few' ne. elim (cases_eq (j + 1) (length xs)) [
        | inl end ↦
            (let at : length xs - 1 ≡ j = omega arith in
            (p, (omega arith), inr refl, last no_watcher (omega arith) ∙ ap (λ (k : ℕ). get_or xs k no_watcher) at))
        | inr before ↦ (j, (omega arith), inl refl, other j no_watcher ne (omega arith))
      ];
      among = λ i few'. elim (cases_eq i p) [
        | inl same ↦ (length xs - 1, (omega arith), ap (λ (k : ℕ). get_or ys k no_watcher) same ∙ last no_watcher (omega arith))
        | inr ne ↦ (i, (omega arith), other i no_watcher ne (omega arith))
      ];
    }

-- **one step more**: by a clause, or a decision where all steps were visited
pub kept-push : (clauses : List (List Lit)) (n : ℕ) (steps : List Step) (lists : List (List Watcher)) (pairs : List Copied) (qhead : ℕ) (step : Step)
    → (step.reason ≡ None → qhead ≡ length steps) → KeepWatches clauses n steps lists pairs qhead → KeepWatches clauses n (steps ++ step ∷ []) lists pairs qhead
kept-push clauses n steps lists pairs qhead step decides h =
    let long = length_push steps step in
    let low = h.within in
    record {
      count = h.count;
      few = h.few;
      attached = h.attached;
      copies = h.copies;
      within = omega arith;
      right = h.right;
      kept = λ id few.
          (let c = get_or clauses id [] in
          let p = pair_at pairs id in
          let o = h.kept id few in
          record {
            has_a = o.has_a;
            has_b = o.has_b;
            listed_a = o.listed_a;
            listed_b = o.listed_b;
            decided = λ k d few' is. elim (cases_lt k (length steps)) [
              | inl before ↦
                  subst (λ (front : List Step). NeedsNoVisit (trail_values front) (trail_values front) c p) (sym (take-append-le k steps (step ∷ []) (omega arith)))
                  (o.decided k d before (subst (λ (s : Step). s.reason ≡ None) (get_or_append_left steps (step ∷ []) d k before) is))
              | inr last ↦
                  (let here : length steps ≡ k = omega arith in
                  let all = decides (subst (λ (s : Step). s.reason ≡ None) (get_or_push steps step d k here) is) in
                  subst (λ (front : List Step). NeedsNoVisit (trail_values front) (trail_values front) c p) (sym (take_at steps (step ∷ []) k here))
                  (subst (λ (front : List Step). NeedsNoVisit (trail_values front) (trail_values steps) c p) (take_all qhead steps (omega arith)) o.visited))
            ];
            visited = subst (λ (front : List Step). NeedsNoVisit (trail_values front) (trail_values (steps ++ step ∷ [])) c p) (sym (take-append-le qhead steps (step ∷ []) h.within))
                (quiet-weaker (trail_values (take qhead steps)) (trail_values (take qhead steps)) (trail_values steps) (trail_values (steps ++ step ∷ [])) c p (λ x b e. e) (grows-push steps step) o.visited);
          });
    }

pub passed-push : (clauses : List (List Lit)) (steps : List Step) (lists : List (List Watcher)) (pairs : List Copied) (qhead list place : ℕ) (step : Step)
    → qhead < length steps → ArePassedIn clauses steps lists pairs qhead list place → ArePassedIn clauses (steps ++ step ∷ []) lists pairs qhead list place
passed-push clauses steps lists pairs qhead list place step within h id few =
    let c = get_or clauses id [] in
    let p = pair_at pairs id in
    elim (h id few) [
      | inr stands ↦ inr stands
      | inl quiet ↦
          inl (subst (λ (front : List Step). NeedsNoVisit (trail_values front) (trail_values (steps ++ step ∷ [])) c p) (sym (take-append-le (qhead + 1) steps (step ∷ []) (omega arith)))
          (quiet-weaker (trail_values (take (qhead + 1) steps)) (trail_values (take (qhead + 1) steps)) (trail_values steps) (trail_values (steps ++ step ∷ [])) c p (λ x b e. e) (grows-push steps step) quiet))
    ]

-- steps by clauses
pub kept-propagated : (clauses : List (List Lit)) (n : ℕ) (old new : List Step) (lists : List (List Watcher)) (pairs : List Copied) (qhead : ℕ)
    → Propagates old new → KeepWatches clauses n old lists pairs qhead → KeepWatches clauses n new lists pairs qhead
kept-propagated clauses n old new lists pairs qhead (added, is, forced) h =
    subst (λ (ss : List Step). KeepWatches clauses n ss lists pairs qhead) (sym is) (over old added forced h)
  where
    over : (front ss : List Step) → All (λ (s : Step). s.reason ≢ None) ss → KeepWatches clauses n front lists pairs qhead → KeepWatches clauses n (front ++ ss) lists pairs qhead
    over front [] forced' h' = subst (λ (xs : List Step). KeepWatches clauses n xs lists pairs qhead) (sym (append-nil front)) h'
    over front (s ∷ ss) forced' h' =
        subst (λ (xs : List Step). KeepWatches clauses n xs lists pairs qhead) (append_assoc front (s ∷ []) ss)
        (over (front ++ s ∷ []) ss (All-tail (λ (x : Step). x.reason ≢ None) s ss forced')
        (kept-push clauses n front lists pairs qhead s (λ none. absurd (All-head (λ (x : Step). x.reason ≢ None) s ss forced' none)) h'))

pub propagates-trans : (a b c : List Step) → Propagates a b → Propagates b c → Propagates a c
propagates-trans a b c (xs, is, forced) (ys, is', forced') = (
  xs ++ ys,
  is' ∙ ap (λ (zs : List Step). zs ++ ys) is ∙ append_assoc a xs ys,
  All-append (λ (s : Step). s.reason ≢ None) xs ys forced forced',
)

-- the literal that the step at the head made false stays that one
pub falsified-later : (old new : List Step) (qhead : ℕ) (l : Lit) → Propagates old new → IsFalsifiedAt old qhead l → IsFalsifiedAt new qhead l
falsified-later old new qhead l (added, is, forced) h =
    subst (λ (ss : List Step). IsFalsifiedAt ss qhead l) (sym is)
    (let within = h.within in
    record {
      within = omega (arith, length-append old added);
      is = λ d. ap (λ (s : Step). negated s.lit) (get_or_append_left old added d qhead within) ∙ h.is d;
    })

-- **steps taken back to a decision**
pub kept-backtrack : (clauses : List (List Lit)) (n : ℕ) (steps new : List Step) (lists : List (List Watcher)) (pairs : List Copied) (qhead count : ℕ)
    → new ≡ take count steps → ((d : Step) → count < length steps → (get_or steps count d).reason ≡ None)
    → KeepWatches clauses n steps lists pairs qhead → KeepWatches clauses n new lists pairs (min qhead (length new))
kept-backtrack clauses n steps new lists pairs qhead count is decides h =
    subst (λ (ss : List Step). KeepWatches clauses n ss lists pairs (min qhead (length ss))) (sym is)
    (record {
      count = h.count;
      few = h.few;
      attached = h.attached;
      copies = h.copies;
      within = omega arith;
      right = h.right;
      kept = λ id few.
          (let o = h.kept id few in
          record {
            has_a = o.has_a;
            has_b = o.has_b;
            listed_a = o.listed_a;
            listed_b = o.listed_b;
            decided = λ k d few' is'.
                (let size = length-take count steps in
                let below : k < count = omega arith in
                subst (λ (front : List Step). NeedsNoVisit (trail_values front) (trail_values front) (get_or clauses id []) (pair_at pairs id)) (sym (take-take k count steps (omega arith)))
                (o.decided k d (omega arith) (subst (λ (s : Step). s.reason ≡ None) (get_or-take count steps k d below) is')));
            visited = looked' id o (cases_lt count (length steps));
          });
    })
  where
    looked' : (id : ℕ) → KeepsWatch steps lists qhead id (get_or clauses id []) (pair_at pairs id) → (count < length steps) ⊎ (length steps ≤ count)
        → NeedsNoVisit (trail_values (take (min qhead (length (take count steps))) (take count steps))) (trail_values (take count steps)) (get_or clauses id []) (pair_at pairs id)
    looked' id o (inl in') =
        let d : Step = record { lit = record { var = 0; positive = false }; reason = None } in
        let front = take count steps in
        let m = min qhead (length front) in
        quiet-weaker (trail_values front) (trail_values (take m front)) (trail_values front) (trail_values front) (get_or clauses id []) (pair_at pairs id) (grows-whole front m) (λ x b e. e)
        (o.decided count d in' (decides d in'))
    looked' id o (inr past) =
        let all = take_all count steps past in
        let low = h.within in
        let m : min qhead (length steps) ≡ qhead = omega arith in
        subst (λ (ss : List Step). NeedsNoVisit (trail_values (take (min qhead (length ss)) ss)) (trail_values ss) (get_or clauses id []) (pair_at pairs id)) (sym all)
        (subst (λ (k : ℕ). NeedsNoVisit (trail_values (take k steps)) (trail_values steps) (get_or clauses id []) (pair_at pairs id)) (sym m) o.visited)

-- **more clauses**
pub kept-more : (clauses more : List (List Lit)) (n : ℕ) (steps : List Step) (lists : List (List Watcher)) (pairs : List Copied) (qhead : ℕ)
    → KeepWatches clauses n steps lists pairs qhead → KeepWatches (clauses ++ more) n steps lists pairs qhead
kept-more clauses more n steps lists pairs qhead h =
    let long = length-append clauses more in
    let few' = h.attached in
    record {
      count = h.count;
      few = h.few;
      attached = omega arith;
      copies = λ id few. h.copies id few ∙ sym (get_or_append_left clauses more [] id (omega arith));
      within = h.within;
      right = λ k. All-weaker (IsWatcher clauses pairs k) (IsWatcher (clauses ++ more) pairs k) (λ w r.
          (let e = r.exists in
          let same = sym (get_or_append_left clauses more [] w.clause (omega arith)) in
          record {
            exists = e;
            has_blocker = subst (λ (c : List Lit). Contains c w.blocker) same r.has_blocker;
            differ = r.differ;
            binary = subst (λ (c : List Lit). IsTrue w.binary → All (λ (m : Lit). (m ≡ w.blocker) ⊎ (list_of m ≡ k)) c) same r.binary;
          })) (watchers lists k) (h.right k);
      kept = λ id few. subst (λ (c : List Lit). KeepsWatch steps lists qhead id c (pair_at pairs id)) (sym (get_or_append_left clauses more [] id (omega arith))) (h.kept id few);
    }

-- **where all was visited the clauses are closed**
pub kept-closed : (clauses : List (List Lit)) (n : ℕ) (steps : List Step) (lists : List (List Watcher)) (pairs : List Copied) (qhead : ℕ)
    → KeepWatches clauses n steps lists pairs qhead → length pairs ≡ length clauses → qhead ≡ length steps → IsClosed (trail_values steps) clauses
kept-closed clauses n steps lists pairs qhead h all end k d few =
    let o = h.kept k (omega arith) in
    let c = get_or clauses k [] in
    let p = pair_at pairs k in
    let quiet : NeedsNoVisit (trail_values steps) (trail_values steps) c p = subst (λ (front : List Step). NeedsNoVisit (trail_values front) (trail_values steps) c p) (take_all qhead steps (omega arith)) o.visited in
    subst (IsOpenClause (trail_values steps)) (get_or_default clauses k [] d few) (quiet-open (trail_values steps) c p o.has_a o.has_b quiet)

-- **at the first place of a list**: only the clauses that watch the literal may not be quiet
pub passed-start : (clauses : List (List Lit)) (n : ℕ) (steps : List Step) (lists : List (List Watcher)) (pairs : List Copied) (qhead : ℕ) (l : Lit)
    → IsTrail clauses steps → IsFalsifiedAt steps qhead l → KeepWatches clauses n steps lists pairs qhead → ArePassedIn clauses steps lists pairs qhead (list_of l) 0
passed-start clauses n steps lists pairs qhead l trail at h id few =
    let o = h.kept id few in
    let c = get_or clauses id [] in
    let p = pair_at pairs id in
    elim o.visited [
      | inl one ↦ inl (inl one)
      | inr two ↦
          (let (differ, a, b) = two in
          elim (false-cases (trail_values (take (qhead + 1) steps)) p.a) [
            | inl false-a ↦ inr (subst (λ (m : Lit). StandsFrom 0 (watchers lists (list_of m)) id) (false-next clauses steps qhead p.a l trail at a false-a) (o.listed_a differ))
            | inr not-a ↦ elim (false-cases (trail_values (take (qhead + 1) steps)) p.b) [
              | inl false-b ↦ inr (subst (λ (m : Lit). StandsFrom 0 (watchers lists (list_of m)) id) (false-next clauses steps qhead p.b l trail at b false-b) (o.listed_b differ))
              | inr not-b ↦ inl (inr (differ, not-a, not-b))
            ]
          ])
    ]

-- a place further, where the clause there is true
pub passed-next : (clauses : List (List Lit)) (steps : List Step) (lists : List (List Watcher)) (pairs : List Copied) (qhead list place : ℕ)
    → IsTrueClause (trail_values steps) (get_or clauses (get_or (watchers lists list) place no_watcher).clause [])
    → ArePassedIn clauses steps lists pairs qhead list place → ArePassedIn clauses steps lists pairs qhead list (place + 1)
passed-next clauses steps lists pairs qhead list place holds h id few =
    elim (h id few) [
      | inl quiet ↦ inl quiet
      | inr stands ↦
          (let (j, low, within, is) = stands in
          elim (cases_eq j place) [
            | inl same ↦
                inl (inl (subst (λ (i : ℕ). IsTrueClause (trail_values steps) (get_or clauses i []))
                (ap (λ (k : ℕ). (get_or (watchers lists list) k no_watcher).clause) (sym same) ∙ is) holds))
            | inr other ↦ inr (j, (omega arith), within, is)
          ])
    ]

-- **past the last place of a list** the step at the head was visited
pub kept-next : (clauses : List (List Lit)) (n : ℕ) (steps : List Step) (lists : List (List Watcher)) (pairs : List Copied) (qhead list place : ℕ)
    → qhead < length steps → length (watchers lists list) ≤ place → ArePassedIn clauses steps lists pairs qhead list place → KeepWatches clauses n steps lists pairs qhead
    → KeepWatches clauses n steps lists pairs (qhead + 1)
kept-next clauses n steps lists pairs qhead list place within end passed h =
    record {
      count = h.count;
      few = h.few;
      attached = h.attached;
      copies = h.copies;
      within = omega arith;
      right = h.right;
      kept = λ id few.
          (let o = h.kept id few in
          record {
            has_a = o.has_a;
            has_b = o.has_b;
            listed_a = o.listed_a;
            listed_b = o.listed_b;
            decided = o.decided;
            visited = elim (passed id few) [ inl quiet ↦ quiet | inr stands ↦ (let (j, low, few', is) = stands in absurd (omega arith)) ];
          });
    }
