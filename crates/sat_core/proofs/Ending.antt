-- What the walk found at the trail's first step: the line of the conflict, that it is fresh, and the trail that stays.
use Rattle.std.proofs.Common.{◌≡◌, ◌≢◌, ℕ, ◌+◌, ◌-◌, ◌<◌, ◌≤◌, ◌⊎◌, Bool, true, false, not, List, [], ◌∷◌, ◌++◌, length, take, get_or, refl, sym, ap, ◌∙◌, subst, arith, inl, inr, suc, zero, Some, None, append-nil}
use Rattle.std.specs.Prelude.{reverse, slice_index, replicate}
use Rattle.std.specs.List.{All, Contains}
use Rattle.std.proofs.lemmas.Bool.{cases_lt}
use Rattle.std.proofs.lemmas.List.{take_at, get_or_at, length_push, length-append, get_or_append_left, get_or-take, length-take, take-take, reverse-append, get_or-replicate, length-replicate}
use Rattle.std.proofs.lemmas.List.Elements.{All-nil, All-cons, All-head, All-tail, All-push, All-weaker, All-contains}
use Rattle.cnf_core.specs.declared.literal.Lit.{Lit}
use Rattle.cnf_core.specs.declared.line.Line.{Line}
use Rattle.cnf_core.specs.Formula.{IsLitOf, AreOver}
use Rattle.cnf_core.specs.Values.{Partial, partial_of, IsUnit, IsFalse, IsFalseClause, IsOpenClause, IsClosed}
use Rattle.cnf_core.specs.Refutation.{clause_at, Reaches, negations, AreNames, HaveDifferentVars, IsAccepted, IsFresh}
use Rattle.sat_core.specs.declared.trail.Step.{Step}
use Rattle.sat_core.specs.declared.trail.Trail.{Trail}
use Rattle.sat_core.specs.declared.conflict.Analysis.{Analysis}
use Rattle.sat_core.specs.declared.trail.Value.{Value}
use Rattle.sat_core.specs.Steps.{assignment_of, trail_values, IsTrailState, AreSteps, AreClosedBefore}
use Rattle.sat_core.specs.FalseClauses.{IsFalsified}
use Rattle.sat_core.specs.Conflicts.{GoesOnWith}
use Rattle.sat_core.specs.Walks.{AreNoMarks, trail_index, IsStepOf, is_marked, last_level_count, IsLastDecision, IsAsserting, IsWalked, MarksClause, LeadsToConflict, IsBackjump}
use Rattle.sat_core.proofs.Holding.{none≢some, held-whole, held-at, step-of}
use Rattle.sat_core.proofs.States.{clause-exists, falsified-held}
use Rattle.sat_core.proofs.Marking.{late-clear, late-some}
use Rattle.sat_core.proofs.Leading.{leads-start}

-- the steps of a false clause's literals
pub false-steps : (clauses : List (List Lit)) (n : ℕ) (steps : List Step) (values : List Value) (indices decisions : List ℕ) (c : List Lit)
    → AreSteps clauses n steps values indices decisions → All (IsLitOf n) c → IsFalseClause (trail_values steps) c → All (IsStepOf indices (length steps)) c
false-steps clauses n steps values indices decisions c s exist false' k d few =
    let m = get_or c k d in
    let at = exist k d few in
    let high = at.within in
    let slots = s.slots in
    let e : Step = record { lit = m; reason = None } in
    let (j, few-j, is) = step-of steps m.var (not m.positive) (false' k d few) in
    let p = ap (λ (x : ℕ). get_or indices (x - 1) 0) (sym (is e).0) ∙ s.placed j e few-j in
    record { above = at.above; within = omega arith; before = omega arith }

-- a false clause that was open before a decision has a literal of the last level
late-literal : (clauses : List (List Lit)) (n : ℕ) (steps : List Step) (values : List Value) (indices decisions : List ℕ) (last : ℕ) (c : List Lit) (seen : List Bool)
    → AreSteps clauses n steps values indices decisions → All (IsLitOf n) c → IsFalseClause (trail_values steps) c → IsOpenClause (trail_values (take last steps)) c
    → All (λ l. is_marked seen (trail_index indices l) ≡ true) c → length steps ≤ length seen → 1 ≤ last_level_count last seen
late-literal clauses n steps values indices decisions last c seen s exist false' open' marked size =
    elim open' [
      | inl one ↦
          (let (l, there, h) = one in
          absurd (opposite l.positive (sym (held-whole steps last l.var l.positive h) ∙ All-contains (IsFalse (trail_values steps)) c l false' there)))
      | inr two ↦
          (let (l, m, in-l, in-m, differ, free-l, free-m) = two in
          let e : Step = record { lit = l; reason = None } in
          let (j, few-j, is) = step-of steps l.var (not l.positive) (All-contains (IsFalse (trail_values steps)) c l false' in-l) in
          let p : trail_index indices l ≡ j = ap (λ (x : ℕ). get_or indices (x - 1) 0) (sym (is e).0) ∙ s.placed j e few-j in
          let mark : is_marked seen j ≡ true = ap (is_marked seen) (sym p) ∙ All-contains (λ x. is_marked seen (trail_index indices x) ≡ true) c l marked in-l in
          elim (cases_lt j last) [
            | inr low ↦ late-some last j seen (omega arith) low mark
            | inl early ↦
                (let value = held-at' j e early few-j in
                absurd (none≢some (sym free-l ∙ ap (trail_values (take last steps)) (sym (is e).0) ∙ value)))
          ])
    ]
  where
    opposite : (b : Bool) → Some b ≡ Some (not b) → ⊥
    opposite true e = cc
    opposite false e = cc

    held-at' : (j : ℕ) (e : Step) → j < last → j < length steps → trail_values (take last steps) (get_or steps j e).lit.var ≡ Some (get_or steps j e).lit.positive
    held-at' j e early few = held-at clauses steps last j e s.trail early few

-- **at the end of the trail**
pub walked-start : (clauses : List (List Lit)) (n : ℕ) (steps : List Step) (values : List Value) (indices decisions : List ℕ) (id last at_last_level added : ℕ) (old : List Bool) (c : List Lit) (a : Analysis)
    → AreSteps clauses n steps values indices decisions → AreOver n clauses → AreClosedBefore clauses steps → IsFalsified (assignment_of values) clauses id → IsLastDecision steps last
    → c ≡ clause_at clauses id → AreNoMarks n old → MarksClause indices c c last old a.seen.items added → All (λ l. a.lowest ≤ trail_index indices l) c
    → (a.lowest ≡ length steps) ⊎ ((l : Lit) × Contains c l × (a.lowest ≡ trail_index indices l))
    → a.at_last_level ≡ added → a.last ≡ last → a.lits.items ≡ [] → a.hints.items ≡ []
    → IsWalked clauses n steps (length steps) a × LeadsToConflict clauses steps (length steps) a.seen.items a.lits.items (reverse a.hints.items) (clause_at clauses id)
walked-start clauses n steps values indices decisions id last at_last_level added old c a s over before f is-last is-c is-old needs lowest reached is-late last-is no-lits no-hints =
    let c' = clause_at clauses id in
    let false' = falsified-held clauses n steps values indices decisions id s over f in
    let exist = clause-exists clauses n id over f.low f.high in
    let needs' : MarksClause indices c' c' last old a.seen.items added = subst (λ (x : List Lit). MarksClause indices x x last old a.seen.items added) is-c needs in
    let old-clear = is-old.clear in
    let size : length a.seen.items ≡ n = needs'.size ∙ is-old.size in
    let room : length steps ≤ n = (let all = s.room in omega arith) in
    let none = late-clear last old (λ k low. old-clear k (omega arith)) in
    let count = needs'.count in
    record-pair
    (record {
      size = size;
      room = room;
      clear = needs'.only (length steps) (false-steps clauses n steps values indices decisions c' s exist false') (λ k low. old-clear k (omega arith));
      below = needs'.below a.lowest (subst (All (λ l. a.lowest ≤ trail_index indices l)) is-c lowest) (λ k low. old-clear k (omega arith));
      reached = λ before. elim reached [
        | inl same ↦ absurd (omega arith)
        | inr one ↦
            (let (l, there, at) = one in
            subst (λ (m : ℕ). is_marked a.seen.items m ≡ true) (sym at)
            (All-contains (λ x. is_marked a.seen.items (trail_index indices x) ≡ true) c' l needs'.all (subst (λ (x : List Lit). Contains x l) is-c there)))
      ];
      count = (let e : added ≡ last_level_count last a.seen.items = omega arith in is-late ∙ e ∙ ap (λ (m : ℕ). last_level_count m a.seen.items) (sym last-is));
      exist = subst (All (IsLitOf n)) (sym no-lits) (All-nil (IsLitOf n));
      free = subst (All (λ (l : Lit). trail_values (take (length steps) steps) l.var ≡ None)) (sym no-lits) (All-nil (λ (l : Lit). trail_values (take (length steps) steps) l.var ≡ None));
      differ = subst HaveDifferentVars (sym no-lits) (λ i j d l k. absurd (omega (arith, k)));
      names = subst (AreNames (length clauses)) (sym no-hints) (All-nil (λ h. (1 ≤ h) × (h ≤ length clauses)));
      many = λ some in-level. no-lits;
      one = λ zero' in-level.
          (let e : Step = record { lit = record { var = 0; positive = false }; reason = None } in
          let in' : last < length steps = omega arith in
          let closed = before last e in' (is-last.decides e in') in
          let some = late-literal clauses n steps values indices decisions last c' a.seen.items s exist false' (closed (id - 1) [] (let h = f.high in let l = f.low in omega arith)) needs'.all (omega arith) in
          absurd (omega arith));
      root = λ forced. no-lits;
    })
    (subst (λ (hs : List ℕ). LeadsToConflict clauses steps (length steps) a.seen.items a.lits.items (reverse hs) c') (sym no-hints)
    (subst (λ (ls : List Lit). LeadsToConflict clauses steps (length steps) a.seen.items ls [] c') (sym no-lits)
    (leads-start clauses n steps values indices decisions a.seen.items c' s false' needs'.all)))
  where
    record-pair : IsWalked clauses n steps (length steps) a → LeadsToConflict clauses steps (length steps) a.seen.items a.lits.items (reverse a.hints.items) (clause_at clauses id)
        → IsWalked clauses n steps (length steps) a × LeadsToConflict clauses steps (length steps) a.seen.items a.lits.items (reverse a.hints.items) (clause_at clauses id)
    record-pair x y = (x, y)

past-end : (xs : List Bool) (k : ℕ) → length xs ≤ k → get_or xs k false ≡ false
past-end [] zero past = refl
past-end [] (suc k) past = refl
past-end (x ∷ xs) zero past = absurd (omega (arith, past))
past-end (x ∷ xs) (suc k) past = past-end xs k (omega arith)

-- before the first conflict
pub marks-none : (n : ℕ) (seen : List Bool) → seen ≡ replicate n false → AreNoMarks n seen
marks-none n seen is =
    let size = ap length is ∙ length-replicate n false in
    record {
      size = size;
      clear = λ k low. elim (cases_lt k n) [
        | inl few ↦ ap (λ (xs : List Bool). is_marked xs k) is ∙ get_or-replicate n k false false few
        | inr past ↦ past-end seen k (omega arith)
      ];
    }

-- names in the other order
names-reverse : (clauses : List (List Lit)) (hints : List ℕ) → AreNames (length clauses) hints → AreNames (length clauses) (reverse hints)
names-reverse clauses [] names = names
names-reverse clauses (h ∷ hs) names =
    let P : ℕ → Type 0 = λ x. (1 ≤ x) × (x ≤ length clauses) in
    subst (All P) (sym (reverse-append (h ∷ []) hs)) (All-push P (reverse hs) h (names-reverse clauses hs (All-tail P h hs names)) (All-head P h hs names))

-- there is a last hint, and it is false once those before it made their literals true
abbrev EndIn : List (List Lit) → List Lit → List ℕ → Type 0
EndIn cs lits hints =
    (t : List Lit)
    × Reaches cs (negations lits) (take (length hints - 1) hints) t
    × (1 ≤ length hints)
    × IsFalseClause (partial_of t) (clause_at cs (slice_index hints (length hints - 1)))

-- **the line is accepted**
pub line-shown : (clauses : List (List Lit)) (n : ℕ) (steps : List Step) (a : Analysis) (id : ℕ) (line : Line)
    → IsWalked clauses n steps 0 a → LeadsToConflict clauses steps 0 a.seen.items a.lits.items (reverse a.hints.items) (clause_at clauses id) → 1 ≤ id → id ≤ length clauses
    → line.id ≡ length clauses + 1 → line.lits ≡ a.lits.items → line.hints ≡ reverse a.hints.items ++ id ∷ [] → IsAccepted (record { vars = n; clauses = clauses }) [] line
line-shown clauses n steps a id line h leads low high is-id is-lits is-hints =
    let front = reverse a.hints.items in
    let all = front ++ id ∷ [] in
    let long = length_push front id in
    let count : length all - 1 ≡ length front = omega arith in
    let (u, way, false') = leads (negations a.lits.items) (λ k d below few mark. absurd (omega arith)) (λ x free. refl) in
    let first : take (length all - 1) all ≡ front = take_at front (id ∷ []) (length all - 1) (sym count) in
    let last : slice_index all (length all - 1) ≡ id = get_or_at front id [] 0 (length all - 1) (sym count) in
    let ends : EndIn clauses a.lits.items all = (
      u,
      subst (λ (hs : List ℕ). Reaches clauses (negations a.lits.items) hs u) (sym first) way,
      (omega arith),
      subst (λ (x : ℕ). IsFalseClause (partial_of u) (clause_at clauses x)) (sym last) false',
    ) in
    let count' : length clauses ≡ length clauses + 0 = omega arith in
    let names : AreNames (length clauses) line.hints = subst (AreNames (length clauses)) (sym is-hints) (All-push (λ x. (1 ≤ x) × (x ≤ length clauses)) front id (names-reverse clauses a.hints.items h.names) (low, high)) in
    let ends' : EndIn clauses line.lits line.hints =
    subst (λ (ls : List Lit). EndIn clauses ls line.hints) (sym is-lits) (subst (λ (hs : List ℕ). EndIn clauses a.lits.items hs) (sym is-hints) ends) in
    record {
      numbered = is-id ∙ ap (λ (m : ℕ). m + 1) count';
      named = record {
        exist = subst (All (IsLitOf n)) (sym is-lits) h.exist;
        differ = subst HaveDifferentVars (sym is-lits) h.differ;
        hints = subst (λ (m : ℕ). AreNames m line.hints) count' names;
      };
      ends = subst (λ (cs : List (List Lit)). EndIn cs line.lits line.hints) (sym (append-nil clauses)) ends';
    }

-- **the lemma is fresh** where it isn't empty: under the values before the last decision one literal is free, the others are false
fresh-from : (clauses : List (List Lit)) (s : Partial) (lits : List Lit) → IsClosed s clauses → HaveDifferentVars lits → IsAsserting s lits → IsFresh clauses lits
fresh-from clauses s lits closed differ asserts =
    let all = asserts.first ∷ asserts.rest in
    let differ' = subst HaveDifferentVars asserts.is differ in
    subst (IsFresh clauses) (sym asserts.is)
    (record {
      some = omega arith;
      differ = differ';
      values = s;
      closed = closed;
      last = asserts.first;
      among = (0, (omega arith), refl);
      open' = λ trail_values. none≢some (sym asserts.free ∙ trail_values);
      others = All-cons (λ m. (m ≢ asserts.first) → IsFalse s m) asserts.first asserts.rest (λ ne. absurd (ne refl))
          (All-weaker (IsFalse s) (λ m. (m ≢ asserts.first) → IsFalse s m) (λ m f ne. f) asserts.rest asserts.false');
    })

-- steps over more clauses
steps-over : (clauses more : List (List Lit)) (n : ℕ) (steps : List Step) (values : List Value) (indices decisions : List ℕ) → AreSteps clauses n steps values indices decisions → AreSteps (clauses ++ more) n steps values indices decisions
steps-over clauses more n steps values indices decisions h =
    let long = length-append clauses more in
    record {
      trail = λ k d few.
          (let right = h.trail k d few in
          record {
            free = right.free;
            forced = λ id is.
                (let r = right.forced id is in
                let low = r.low in
                let high = r.high in
                record {
                  low = low;
                  high = omega arith;
                  unit = subst (λ (c : List Lit). IsUnit (trail_values (take k steps)) c (get_or steps k d).lit) (sym (get_or_append_left clauses more [] (id - 1) (omega arith))) r.unit;
                });
          });
      exist = h.exist;
      size = h.size;
      shows = h.shows;
      room = h.room;
      slots = h.slots;
      placed = h.placed;
      decided = h.decided;
    }

-- **the search goes on**
pub line-goes_on : (clauses : List (List Lit)) (n : ℕ) (old new : Trail) (a : Analysis) (lits : List Lit)
    → AreClosedBefore clauses old.steps.items → IsLastDecision old.steps.items a.last → IsWalked clauses n old.steps.items 0 a → IsBackjump old.steps.items 0 a.backjump a.lits.items
    → IsTrailState clauses n new → new.steps.items ≡ take a.backjump old.steps.items → lits ≡ a.lits.items → (lits ≢ []) → GoesOnWith clauses n lits new
line-goes_on clauses n old new a lits before is-last h stays state is is-lits some =
    let steps = old.steps.items in
    let d : Step = record { lit = record { var = 0; positive = false }; reason = None } in
    let within = is-last.within in
    let in-level : a.last < length steps = elim (cases_lt a.last (length steps)) [
      | inl in' ↦ in'
      | inr past ↦ absurd (some (is-lits ∙ h.root (is-last.none (omega arith))))
    ] in
    let zero' : a.at_last_level ≡ 0 = h.count ∙ late-clear a.last a.seen.items (λ k low. h.clear k (omega arith)) in
    let closed = before a.last d in-level (is-last.decides d in-level) in
    let fresh = fresh-from clauses (trail_values (take a.last steps)) a.lits.items closed h.differ (h.one zero' in-level) in
    record {
      fresh = subst (IsFresh clauses) (sym is-lits) fresh;
      state = steps-over clauses (lits ∷ []) n new.steps.items new.values.items new.indices.items new.decisions.items state;
      before = subst (AreClosedBefore (clauses ++ lits ∷ [])) (sym is) (λ k e few decides.
          (let size = length-take a.backjump steps in
          let below : k < a.backjump = omega arith in
          let few' : k < length steps = omega arith in
          let decides' = subst (λ (x : Step). x.reason ≡ None) (get_or-take a.backjump steps k e below) decides in
          subst (λ (xs : List Step). IsClosed (trail_values xs) (clauses ++ lits ∷ [])) (sym (take-take k a.backjump steps (omega arith)))
          (All-push (IsOpenClause (trail_values (take k steps))) clauses lits (before k e few' decides')
          (subst (IsOpenClause (trail_values (take k steps))) (sym is-lits) (stays k e (omega arith) below few' decides')))));
    }
