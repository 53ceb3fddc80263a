-- A look at the clause of a watcher: which one it is, and what each end of the look leaves.
use Rattle.std.proofs.Common.{◌≡◌, ◌≢◌, ℕ, ◌+◌, ◌-◌, ◌<◌, List, [], ◌∷◌, ◌++◌, Bool, length, get_or, refl, sym, ap, ◌∙◌, subst, arith, inl, inr, Some, None, append-nil}
use Rattle.std.specs.Prelude.{◌⊎◌, IsTrue, OnOk, IfOk, Result, Ok, Err}
use Rattle.std.specs.List.{All, Contains}
use Rattle.std.proofs.lemmas.Bool.{cases_eq}
use Rattle.std.proofs.lemmas.List.{get_or_read, get_or_default}
use Rattle.std.proofs.lemmas.List.Elements.{All-nil, All-push, All-weaker, All-contains}
use Rattle.cnf_core.specs.declared.literal.Lit.{Lit}
use Rattle.cnf_core.specs.Formula.{IsLitOf, AreOver, negated}
use Rattle.cnf_core.specs.Values.{Partial, IsHeld, IsFalse, IsFalseClause, IsUnit, IsOpenClause, IsClosed}
use Rattle.cnf_core.specs.Refutation.{clause_at}
use Rattle.sat_core.specs.declared.trail.Step.{Step}
use Rattle.sat_core.specs.declared.watches.Watcher.{Watcher}
use Rattle.sat_core.specs.declared.watches.Pair.{Pair}
use Rattle.sat_core.specs.declared.watches.Watches.{Watches}
use Rattle.sat_core.specs.declared.propagation.Visit.{Visit}
use Rattle.sat_core.specs.declared.propagation.Visit.TheVariants.{Stays, Moved, Falsified}
use Rattle.sat_core.specs.FalseClauses.{IsFalsified}
use Rattle.sat_core.specs.declared.trail.Value.{Value}
use Rattle.sat_core.specs.Copies.{Copied}
use Rattle.sat_core.specs.Steps.{assignment_of, trail_values, IsReason, IsRightStep, AreSteps, Propagates, AreClosedBefore}
use Rattle.sat_core.specs.Watches.{no_watcher, list_of, watchers, pair_at, IsTrueClause, with_pair, IsWatcher, KeepWatches, ArePassedIn, IsFalsifiedAt, IsReplacement, IsNextReplacement, IsPassedOver, AreWatched, ArePassed, VisitSays, SettleSays, IsChosen}
use Rattle.sat_core.proofs.Holding.{held-push-same}
use Rattle.sat_core.proofs.Agreeing.{open-agrees}
use Rattle.sat_core.proofs.States.{agree}
use Rattle.sat_core.proofs.Quiet.{lit-cases, lit-eq-cases, false-at}
use Rattle.sat_core.proofs.Attaching.{with_copied, kept-added}
use Rattle.sat_core.proofs.Exchanging.{stays-one, IsExchange}
use Rattle.sat_core.proofs.Watching.{list_of-differ, list-within, kept-push, passed-push, passed-next}

-- the watcher at a place of a literal's list
pub record IsVisit (clauses : List (List Lit)) (n : ℕ) (lists : List (List Watcher)) (pairs : List Copied) (l : Lit) (place : ℕ) (w : Watcher) : Type 0 where
  pub is : w ≡ get_or (watchers lists (list_of l)) place no_watcher
  pub right : IsWatcher clauses pairs (list_of l) w
  pub exists : w.clause < length clauses
  pub over : All (IsLitOf n) (get_or clauses w.clause [])
  pub list : list_of l < length lists
  pub within : place < length (watchers lists (list_of l))

pub visit-start : (clauses : List (List Lit)) (n : ℕ) (steps : List Step) (lists : List (List Watcher)) (pairs : List Copied) (qhead : ℕ) (l : Lit) (place list : ℕ) (x : List Watcher) (w : Watcher)
    → KeepWatches clauses n steps lists pairs qhead → AreOver n clauses → IsLitOf n l → place < length (watchers lists (list_of l))
    → list ≡ list_of l → x ≡ get_or lists list x → w ≡ get_or x place no_watcher → IsVisit clauses n lists pairs l place w
visit-start clauses n steps lists pairs qhead l place list x w h over at within is-list is-x is-w =
    let few = list-within n (length lists) l at h.count in
    let is-x' : x ≡ watchers lists (list_of l) = get_or_read lists list x (omega arith) is-x [] ∙ ap (watchers lists) is-list in
    let is = is-w ∙ ap (λ (xs : List Watcher). get_or xs place no_watcher) is-x' in
    let right = subst (IsWatcher clauses pairs (list_of l)) (sym is) (h.right (list_of l) place no_watcher within) in
    let exists : w.clause < length clauses = (let a = right.exists in let b = h.attached in omega arith) in
    record { is = is; right = right; exists = exists; over = over w.clause [] exists; list = few; within = within }

-- the literal of its clause that isn't the false one
pub record IsOther (clauses : List (List Lit)) (n : ℕ) (pairs : List Copied) (l : Lit) (id : ℕ) (other : Lit) : Type 0 where
  pub first : (((pair_at pairs id).a ≡ l) × (other ≡ (pair_at pairs id).b)) ⊎ (((pair_at pairs id).a ≢ l) × (other ≡ (pair_at pairs id).a))
  pub among : Contains (get_or clauses id []) other
  pub exist : IsLitOf n other

pub visit-other : (clauses : List (List Lit)) (n : ℕ) (steps : List Step) (lists : List (List Watcher)) (pairs : List Copied) (qhead : ℕ) (l : Lit) (place : ℕ) (w : Watcher) (p : Pair) (other : Lit)
    → KeepWatches clauses n steps lists pairs qhead → IsVisit clauses n lists pairs l place w → p ≡ pair_at pairs w.clause
    → ((p.a ≡ l) × (other ≡ p.b)) ⊎ ((p.a ≢ l) × (other ≡ p.a)) → IsOther clauses n pairs l w.clause other
visit-other clauses n steps lists pairs qhead l place w p other h v is-p first =
    let first' = subst (λ (y : Pair). ((y.a ≡ l) × (other ≡ y.b)) ⊎ ((y.a ≢ l) × (other ≡ y.a))) is-p first in
    let o = h.kept w.clause v.right.exists in
    let among = stays-one (Contains (get_or clauses w.clause [])) (pair_at pairs w.clause) l other first' o.has_a o.has_b in
    record { first = first'; among = among; exist = All-contains (IsLitOf n) (get_or clauses w.clause []) other v.over among }

-- **its clause is true**
pub visit-true : (clauses : List (List Lit)) (n : ℕ) (steps : List Step) (values : List Value) (indices decisions : List ℕ) (lists : List (List Watcher)) (pairs : List Copied) (qhead : ℕ) (l : Lit) (place : ℕ) (w : Watcher) (m : Lit)
    → AreSteps clauses n steps values indices decisions → IsVisit clauses n lists pairs l place w → Contains (get_or clauses w.clause []) m → IsHeld (assignment_of values) m
    → ArePassedIn clauses steps lists pairs qhead (list_of l) place → ArePassedIn clauses steps lists pairs qhead (list_of l) (place + 1)
visit-true clauses n steps values indices decisions lists pairs qhead l place w m s v among holds passed =
    let at = All-contains (IsLitOf n) (get_or clauses w.clause []) m v.over among in
    passed-next clauses steps lists pairs qhead (list_of l) place
    (subst (λ (x : Watcher). IsTrueClause (trail_values steps) (get_or clauses x.clause [])) v.is (m, among, s.shows m.var at.above at.within ∙ holds)) passed

at-place : (clauses : List (List Lit)) (id : ℕ) → clause_at clauses (id + 1) ≡ get_or clauses id []
at-place clauses id = (let e : id + 1 - 1 ≡ id = omega arith in ap (λ (k : ℕ). get_or clauses k []) e)

-- **its clause is false**
pub visit-falsified : (s : Partial) (clauses : List (List Lit)) (id : ℕ) (c : List Lit) (m : Lit) → c ≡ get_or clauses id [] → id < length clauses → All (λ x. (x ≡ m) ⊎ IsFalse s x) c → IsFalse s m → IsFalsified s clauses (id + 1)
visit-falsified s clauses id c m is few all false' =
    record {
      low = omega arith;
      high = omega arith;
      false' = subst (IsFalseClause s) (is ∙ sym (at-place clauses id))
          (All-weaker (λ x. (x ≡ m) ⊎ IsFalse s x) (IsFalse s) (λ x h. elim h [ inl same ↦ subst (IsFalse s) (sym same) false' | inr f ↦ f ]) c all);
    }

-- **its clause is unit**
pub visit-unit : (s : Partial) (clauses : List (List Lit)) (id : ℕ) (c : List Lit) (m : Lit) → c ≡ get_or clauses id [] → id < length clauses → Contains (get_or clauses id []) m
    → All (λ x. (x ≡ m) ⊎ IsFalse s x) c → (IsHeld s m → ⊥) → (IsFalse s m → ⊥) → IsReason s clauses (id + 1) m
visit-unit s clauses id c m is few among all not-held not-false =
    record {
      low = omega arith;
      high = omega arith;
      unit = subst (λ (x : List Lit). IsUnit s x m) (sym (at-place clauses id))
          (record {
            among = among;
            free = elim (lit-cases s m) [
              | inl free ↦ free
              | inr value ↦ elim value [ inl h ↦ absurd (not-held h) | inr f ↦ absurd (not-false f) ]
            ];
            others = subst (All (λ x. (x ≡ m) ⊎ IsFalse s x)) is all;
          });
    }

-- **a clause of two literals**: all but the blocker are false
pub visit-binary : (clauses : List (List Lit)) (n : ℕ) (steps : List Step) (values : List Value) (indices decisions : List ℕ) (lists : List (List Watcher)) (pairs : List Copied) (qhead : ℕ) (l : Lit) (place : ℕ) (w : Watcher)
    → AreSteps clauses n steps values indices decisions → IsFalsifiedAt steps qhead l → IsLitOf n l → IsVisit clauses n lists pairs l place w → IsTrue w.binary
    → All (IsPassedOver (assignment_of values) w.blocker) (get_or clauses w.clause [])
visit-binary clauses n steps values indices decisions lists pairs qhead l place w s at exist v two k d few =
    let m = get_or (get_or clauses w.clause []) k d in
    let exist' = v.over k d few in
    elim (v.right.binary two k d few) [
      | inl same ↦ inl same
      | inr here ↦ elim (lit-eq-cases m l) [
        | inl same ↦ inr (subst (IsFalse (assignment_of values)) (sym same) (sym (s.shows l.var exist.above exist.within) ∙ false-at clauses steps qhead l s.trail at))
        | inr other ↦ absurd (list_of-differ m l exist'.above exist.above other here)
      ]
    ]

pub visit-step : (clauses : List (List Lit)) (n : ℕ) (steps new : List Step) (lists : List (List Watcher)) (pairs : List Copied) (qhead : ℕ) (l : Lit) (place : ℕ) (w : Watcher) (m : Lit) (id : ℕ)
    → qhead < length steps → new ≡ steps ++ record { lit = m; reason = Some id } ∷ [] → IsVisit clauses n lists pairs l place w → Contains (get_or clauses w.clause []) m
    → IsRightStep clauses steps (record { lit = m; reason = Some id }) → KeepWatches clauses n steps lists pairs qhead → ArePassedIn clauses steps lists pairs qhead (list_of l) place
    → KeepWatches clauses n new lists pairs qhead × ArePassedIn clauses new lists pairs qhead (list_of l) (place + 1)
visit-step clauses n steps new lists pairs qhead l place w m id within is v among right h passed =
    let step : Step = record { lit = m; reason = Some id } in
    subst (λ (ss : List Step). KeepWatches clauses n ss lists pairs qhead × ArePassedIn clauses ss lists pairs qhead (list_of l) (place + 1)) (sym is) (
      kept-push clauses n steps lists pairs qhead step (λ none. absurd (some-id id none)) h,
      passed-next clauses (steps ++ step ∷ []) lists pairs qhead (list_of l) place
          (subst (λ (x : Watcher). IsTrueClause (trail_values (steps ++ step ∷ [])) (get_or clauses x.clause [])) v.is (m, among, held-push-same steps step right.free))
          (passed-push clauses steps lists pairs qhead (list_of l) place step within passed),
    )
  where
    some-id : (id : ℕ) → Some id ≡ None → ⊥
    some-id id e = cc

-- no step yet
pub propagates-none : (steps : List Step) → Propagates steps steps
propagates-none steps = ([], sym (append-nil steps), All-nil (λ (s : Step). s.reason ≢ None))

-- **its clause is settled**
pub visit-settled : (clauses : List (List Lit)) (n : ℕ) (steps new : List Step) (s : Partial) (x : Watches) (l : Lit) (place : ℕ) (w : Watcher) (m : Lit) (v : Visit)
    → x.qhead < length steps → IsVisit clauses n x.lists.items x.pairs.items l place w → Contains (get_or clauses w.clause []) m → SettleSays clauses w.clause m s steps new v
    → AreWatched clauses n steps x → ArePassed clauses steps x l place
    → AreWatched clauses n new x × Propagates steps new × VisitSays clauses new s l place (length (watchers x.lists.items (list_of l))) x v
visit-settled clauses n steps new s x l place w m Stays within v among (is, right) h passed =
    let step : Step = record { lit = m; reason = Some (w.clause + 1) } in
    let done = visit-step clauses n steps new x.lists.items x.pairs.items x.qhead l place w m (w.clause + 1) within is v among right h passed in
    (done.0, (step ∷ [], is, All-push (λ (y : Step). y.reason ≢ None) [] step (All-nil (λ (y : Step). y.reason ≢ None)) (λ e. cc)), (done.1, refl))
visit-settled clauses n steps new s x l place w m Moved within v among says h passed = absurd says
visit-settled clauses n steps new s x l place w m (Falsified id) within v among (same, false') h passed = (
  subst (λ (ss : List Step). AreWatched clauses n ss x) (sym same) h,
  subst (Propagates steps) (sym same) (propagates-none steps),
  false',
)

-- the same of a result
pub settled-ok : {T E : Type 0} (r : Result T E) (P : T → Type 0) (Q : Type 0) → IfOk r P → ((v : T) → P v → Q) → OnOk r Q
settled-ok (Ok v) P Q holds f = f v holds
settled-ok (Err e) P Q holds f = tt

pub settled-if : {T E : Type 0} (r : Result T E) (P Q : T → Type 0) → IfOk r P → ((v : T) → P v → Q v) → IfOk r Q
settled-if (Ok v) P Q holds f = f v holds
settled-if (Err e) P Q holds f = tt

-- **its clause gets another watched literal**
pub visit-exchange : (clauses : List (List Lit)) (n : ℕ) (steps : List Step) (values : List Value) (indices decisions : List ℕ) (lists : List (List Watcher)) (pairs : List Copied) (qhead : ℕ) (l : Lit) (place : ℕ) (w : Watcher) (other found : Lit) (saved : ℕ) (c : List Lit)
    → AreSteps clauses n steps values indices decisions → KeepWatches clauses n steps lists pairs qhead → IsFalsifiedAt steps qhead l → IsLitOf n l → IsVisit clauses n lists pairs l place w → IsOther clauses n pairs l w.clause other
    → c ≡ get_or clauses w.clause [] → Contains c found → (found ≢ other) → (IsFalse (assignment_of values) found → ⊥)
    → IsExchange clauses steps lists pairs l place w.clause (record { a = other; b = found; saved = saved })
visit-exchange clauses n steps values indices decisions lists pairs qhead l place w other found saved c s h at exist v o is among differ free =
    let among' = subst (λ (x : List Lit). Contains x found) is among in
    let at-b = All-contains (IsLitOf n) (get_or clauses w.clause []) found v.over among' in
    record {
      low = exist.above;
      low_a = o.exist.above;
      low_b = at-b.above;
      list = v.list;
      list_b = list-within n (length lists) found at-b h.count;
      within = v.within;
      is = ap (λ (x : Watcher). x.clause) (sym v.is);
      false' = false-at clauses steps qhead l s.trail at;
      first = o.first;
      among = among';
      differ = differ;
      free = λ f. free (sym (s.shows found.var at-b.above at-b.within) ∙ f);
    }

-- a clause of two literals has no third one
both-of : (c : List Lit) (a b : Lit) → length c ≡ 2 → Contains c a → Contains c b → (a ≢ b) → All (λ m. (m ≡ a) ⊎ (m ≡ b)) c
both-of c a b two (i, in-i, is-a) (j, in-j, is-b) differ k d few =
    let at-a : get_or c i d ≡ a = get_or_default c i d a in-i ∙ is-a in
    let at-b : get_or c j d ≡ b = get_or_default c j d b in-j ∙ is-b in
    elim (cases_eq k i) [
      | inl same ↦ inl (ap (λ (x : ℕ). get_or c x d) same ∙ at-a)
      | inr other ↦ elim (cases_eq k j) [
        | inl same ↦ inr (ap (λ (x : ℕ). get_or c x d) same ∙ at-b)
        | inr other' ↦
            (let same : i ≡ j = omega arith in
            absurd (differ (sym at-a ∙ ap (λ (x : ℕ). get_or c x d) same ∙ at-b)))
      ]
    ]

-- **a new clause is attached**
pub attached : (clauses : List (List Lit)) (n : ℕ) (steps : List Step) (values : List Value) (indices decisions : List ℕ) (lists lists' : List (List Watcher)) (pairs pairs' : List Copied) (qhead qhead' : ℕ) (c : List Lit) (p : Pair) (binary : Bool)
    → AreSteps clauses n steps values indices decisions → AreOver n clauses → AreClosedBefore clauses steps → KeepWatches clauses n steps lists pairs qhead
    → length pairs < length clauses → IsOpenClause (assignment_of values) (get_or clauses (length pairs) []) → c ≡ get_or clauses (length pairs) [] → IsChosen steps c p
    → (p.a ≡ p.b → lists' ≡ lists) → (p.a ≢ p.b → lists' ≡ with_pair lists (length pairs) p binary) → pairs' ≡ pairs ++ record { pair = p; lits = c } ∷ [] → qhead' ≡ qhead
    → (IsTrue binary → length c ≡ 2) → KeepWatches clauses n steps lists' pairs' qhead'
attached clauses n steps values indices decisions lists lists' pairs pairs' qhead qhead' c p binary s over before h more opens is chosen one two is-pairs is-head short =
    let clause = get_or clauses (length pairs) [] in
    let chosen' = subst (λ (x : List Lit). IsChosen steps x p) is chosen in
    let exist = over (length pairs) [] more in
    let open' = open-agrees (assignment_of values) (trail_values steps) clause (agree clauses n steps values indices decisions clause s exist) opens in
    subst (λ (ps : List Copied). KeepWatches clauses n steps lists' ps qhead') (sym (is-pairs ∙ ap (λ (x : List Lit). pairs ++ record { pair = p; lits = x } ∷ []) is))
    (subst (λ (k : ℕ). KeepWatches clauses n steps lists' (with_copied clauses pairs p) k) (sym is-head)
    (kept-added clauses n steps lists lists' pairs qhead p binary h more chosen' before open'
    (list-within n (length lists) p.a (All-contains (IsLitOf n) clause p.a exist chosen'.has_a) h.count)
    (list-within n (length lists) p.b (All-contains (IsLitOf n) clause p.b exist chosen'.has_b) h.count) one two
    (λ t differ. both-of clause p.a p.b (ap length (sym is) ∙ short t) chosen'.has_a chosen'.has_b differ)))

pub chosen-exist : (clauses : List (List Lit)) (n : ℕ) (steps : List Step) (place : ℕ) (c : List Lit) (p : Pair) → AreOver n clauses → place < length clauses → c ≡ get_or clauses place [] → IsChosen steps c p
    → IsLitOf n p.a × IsLitOf n p.b
chosen-exist clauses n steps place c p over few is chosen =
    let exist = over place [] few in
    let chosen' = subst (λ (x : List Lit). IsChosen steps x p) is chosen in (
      All-contains (IsLitOf n) (get_or clauses place []) p.a exist chosen'.has_a,
      All-contains (IsLitOf n) (get_or clauses place []) p.b exist chosen'.has_b,
    )

-- what is closed by the steps is closed by the values
pub closed-given : (clauses : List (List Lit)) (n : ℕ) (steps : List Step) (values : List Value) (indices decisions : List ℕ) → AreSteps clauses n steps values indices decisions → AreOver n clauses → IsClosed (trail_values steps) clauses → IsClosed (assignment_of values) clauses
closed-given clauses n steps values indices decisions s over closed k d few =
    let c = get_or clauses k d in
    open-agrees (trail_values steps) (assignment_of values) c (λ m there. sym (agree clauses n steps values indices decisions c s (over k d few) m there)) (closed k d few)

-- the literal that is opposite to the step at the head
pub falsified-by : (steps : List Step) (qhead : ℕ) (s : Step) (l : Lit) → qhead < length steps → s ≡ get_or steps qhead s → l ≡ negated s.lit → IsFalsifiedAt steps qhead l
falsified-by steps qhead s l within at is =
    record { within = within; is = λ d. ap (λ (x : Step). negated x.lit) (sym (get_or_read steps qhead s within at d)) ∙ sym is }

-- the list that a read gives
pub list-read : (lists : List (List Watcher)) (list : ℕ) (x : List Watcher) (l : Lit) → list < length lists → x ≡ get_or lists list x → list ≡ list_of l → x ≡ watchers lists (list_of l)
list-read lists list x l few at is = get_or_read lists list x few at [] ∙ ap (watchers lists) is

pub next-is : {s : Partial} {c : List Lit} {other : Lit} {saved at : ℕ} → IsNextReplacement s c other saved at → IsReplacement s c other at
next-is (inl first) = first.is
next-is (inr (none, first)) = first.is
