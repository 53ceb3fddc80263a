-- The walk back along the trail: a step that isn't needed, that is kept, that is resolved.
use Rattle.std.proofs.Common.{◌||◌, ◌≡◌, ◌≢◌, ℕ, ◌+◌, ◌-◌, ◌<◌, ◌≤◌, ◌⊎◌, Bool, true, false, not, List, [], ◌∷◌, ◌++◌, length, take, set, get_or, refl, sym, ap, ◌∙◌, subst, arith, inl, inr, Option, Some, None}
use Rattle.std.specs.Prelude.{is_none, nat_le, ◌&&◌}
use Rattle.std.specs.List.{All}
use Rattle.std.proofs.lemmas.Bool.{cases_Bool, cases_eq, cases_lt, cond-true, cond-false, false≢true}
use Rattle.std.proofs.lemmas.List.{length-set, get_or-set_other, get_or-take, length-take, get_or_default}
use Rattle.std.proofs.lemmas.List.Elements.{All-nil, All-push, All-weaker, All-contains, Contains-append_left}
use Rattle.std.proofs.lemmas.List.Quantifiers.{all_pairs_push}
use Rattle.cnf_core.specs.declared.literal.Lit.{Lit}
use Rattle.cnf_core.specs.Formula.{IsLitOf, AreOver, negated}
use Rattle.cnf_core.specs.Values.{Partial, IsFalse, IsOpenClause}
use Rattle.cnf_core.specs.Refutation.{clause_at, AreNames, HaveDifferentVars}
use Rattle.sat_core.specs.declared.trail.Step.{Step}
use Rattle.sat_core.specs.declared.conflict.Analysis.{Analysis}
use Rattle.sat_core.specs.declared.trail.Value.{Value}
use Rattle.sat_core.specs.Steps.{trail_values, IsReason, AreSteps}
use Rattle.sat_core.specs.Walks.{trail_index, IsStepOf, is_marked, last_level_count, AreUnmarked, AreUnmarkedBelow, IsLastDecision, IsDecisionOrEnd, IsKeptAt, KeepsStep, Resolves, IsAsserting, IsWalked, LeadsToConflict, IsBackjump, backjump_after, backjump_at_end}
use Rattle.sat_core.proofs.Holding.{held-at, step-of, free-before}
use Rattle.sat_core.proofs.States.{clause-exists}
use Rattle.sat_core.proofs.Leading.{others-later}
use Rattle.sat_core.proofs.Marking.{late_early, late_unmarked, late-clear, late-some, late-one, clear-unmarked, below-unmarked}

free-weaker : (steps : List Step) (i : ℕ) (lits : List Lit) → All (λ (l : Lit). trail_values (take (i + 1) steps) l.var ≡ None) lits → All (λ (l : Lit). trail_values (take i steps) l.var ≡ None) lits
free-weaker steps i lits free =
    All-weaker (λ (l : Lit). trail_values (take (i + 1) steps) l.var ≡ None) (λ (l : Lit). trail_values (take i steps) l.var ≡ None)
    (λ l none. free-before steps i (i + 1) l.var (omega arith) none) lits free

-- **a step that isn't needed**
pub walked-skip : (clauses : List (List Lit)) (n : ℕ) (steps : List Step) (i : ℕ) (a : Analysis) → IsWalked clauses n steps (i + 1) a → is_marked a.seen.items i ≡ false → IsWalked clauses n steps i a
walked-skip clauses n steps i a h unmarked =
    record {
      size = h.size;
      room = h.room;
      clear = λ k low. elim (cases_eq k i) [
        | inl same ↦ ap (is_marked a.seen.items) same ∙ unmarked
        | inr other ↦ h.clear k (omega arith)
      ];
      below = h.below;
      reached = λ before. h.reached (omega arith);
      count = h.count;
      exist = h.exist;
      free = free-weaker steps i a.lits.items h.free;
      differ = h.differ;
      names = h.names;
      many = h.many;
      one = h.one;
      root = h.root;
    }

not-not : (b : Bool) → not (not b) ≡ b
not-not true = refl
not-not false = refl

-- where nothing from i on is marked, nothing of a last level from i on is
clear-late : (i last : ℕ) (seen : List Bool) → i ≤ last → AreUnmarked i seen → AreUnmarked last seen
clear-late i last seen low clear k above = clear k (omega arith)

-- no step of the last level but this one was needed
kept-late : (clauses : List (List Lit)) (n : ℕ) (steps : List Step) (i first : ℕ) (spare : Bool) (d : Step) (a b : Analysis)
    → IsLastDecision steps a.last → i < length steps → IsWalked clauses n steps (i + 1) a → is_marked a.seen.items i ≡ true
    → ((get_or steps i d).reason ≡ None) ⊎ IsKeptAt first a.last a.at_last_level i spare → KeepsStep i (get_or steps i d).lit a b → b.at_last_level ≡ 0
kept-late clauses n steps i first spare d a b last few h marked why k =
    let size = h.size in
    let room = h.room in
    let seen = a.seen.items in
    let now : b.at_last_level ≡ last_level_count a.last (set seen i false) =
    k.at_last_level ∙ ap (λ (m : ℕ). last_level_count m b.seen.items) k.last ∙ ap (last_level_count a.last) k.seen in
    elim (cases_lt i a.last) [
      | inl early ↦
          (let e = late_early a.last i seen false early in
          let none = late-clear a.last seen (clear-late (i + 1) a.last seen (omega arith) h.clear) in
          now ∙ e ∙ none)
      | inr low ↦
          (let e = late_unmarked a.last i seen (omega arith) low marked in
          let count = h.count in
          let is-one : last_level_count a.last seen ≡ 1 = elim why [
            | inl decides ↦
                (let at : i ≡ a.last = elim (cases_eq i a.last) [
                  | inl same ↦ same
                  | inr other ↦ absurd (last.after i d (omega arith) few decides)
                ] in
                late-one a.last seen (omega arith) (subst (λ (j : ℕ). is_marked seen j ≡ true) at marked) (subst (λ (j : ℕ). AreUnmarked (j + 1) seen) at h.clear))
            | inr kept ↦ elim kept [
              | inl alone ↦ sym count ∙ alone.1
              | inr earlier ↦ (let (below, from, kept) = earlier in absurd (omega arith))
            ]
          ] in
          omega arith)
    ]

-- **a step that is kept**
pub walked-keep : (clauses : List (List Lit)) (n : ℕ) (steps : List Step) (values : List Value) (indices decisions : List ℕ) (i first : ℕ) (spare : Bool) (d : Step) (a b : Analysis)
    → AreSteps clauses n steps values indices decisions → IsDecisionOrEnd steps first → IsLastDecision steps a.last → i < length steps
    → IsWalked clauses n steps (i + 1) a → is_marked a.seen.items i ≡ true → ((get_or steps i d).reason ≡ None) ⊎ IsKeptAt first a.last a.at_last_level i spare
    → KeepsStep i (get_or steps i d).lit a b → IsWalked clauses n steps i b
walked-keep clauses n steps values indices decisions i first spare d a b s is-first last few h marked why k =
    let l = (get_or steps i d).lit in
    let size = h.size in
    let room = h.room in
    let zero' = kept-late clauses n steps i first spare d a b last few h marked why k in
    let at = s.exist i d few in
    let free-i : trail_values (take i steps) l.var ≡ None = (s.trail i d few).free in
    record {
      size = ap length k.seen ∙ length-set a.seen.items i false ∙ size;
      room = room;
      clear = subst (AreUnmarked i) (sym k.seen) (clear-unmarked i a.seen.items (omega arith) h.clear);
      below = subst (λ (m : ℕ). AreUnmarkedBelow m b.seen.items) (sym k.lowest)
          (subst (AreUnmarkedBelow a.lowest) (sym k.seen) (below-unmarked a.lowest i a.seen.items (omega arith) h.below));
      reached = λ before.
          subst (λ (m : ℕ). is_marked b.seen.items m ≡ true) (sym k.lowest)
          (subst (λ (xs : List Bool). is_marked xs a.lowest ≡ true) (sym k.seen)
          (let low = k.lowest in get_or-set_other a.seen.items i a.lowest false false (λ same. omega arith) ∙ h.reached (omega arith)));
      count = k.at_last_level;
      exist = subst (All (IsLitOf n)) (sym k.lits) (All-push (IsLitOf n) a.lits.items (negated l) h.exist (record { above = at.above; within = at.within }));
      free = subst (All (λ (m : Lit). trail_values (take i steps) m.var ≡ None)) (sym k.lits)
          (All-push (λ (m : Lit). trail_values (take i steps) m.var ≡ None) a.lits.items (negated l) (free-weaker steps i a.lits.items h.free) free-i);
      differ = subst (HaveDifferentVars) (sym k.lits) (all_pairs_push (λ (l m : Lit). l.var ≢ m.var) a.lits.items (negated l) h.differ (others-later clauses steps i d a.lits.items s.trail few h.free));
      names = subst (AreNames (length clauses)) (sym k.hints) h.names;
      many = λ some in-level. absurd (omega arith);
      one = λ none in-level'.
          (let in-level : a.last < length steps = (let e = k.last in omega arith) in
          let asserts : IsAsserting (trail_values (take a.last steps)) b.lits.items = elim (cases_lt i a.last) [
            | inl early ↦
                (let count = h.count in
                let none' = late-clear a.last a.seen.items (clear-late (i + 1) a.last a.seen.items (omega arith) h.clear) in
                let before = h.one (omega arith) in-level in
                record {
                  first = before.first;
                  rest = before.rest ++ negated l ∷ [];
                  is = k.lits ∙ ap (λ (ls : List Lit). ls ++ negated l ∷ []) before.is;
                  free = before.free;
                  false' = All-push (IsFalse (trail_values (take a.last steps))) before.rest (negated l) before.false'
                      (held-at clauses steps a.last i d s.trail early few ∙ ap (λ (p : Bool). Some p) (sym (not-not l.positive)));
                })
            | inr low ↦
                (let count = h.count in
                let some = late-some a.last i a.seen.items (omega arith) low marked in
                record {
                  first = negated l;
                  rest = [];
                  is = k.lits ∙ ap (λ (ls : List Lit). ls ++ negated l ∷ []) (h.many (omega arith) in-level);
                  free = free-before steps a.last i l.var low free-i;
                  false' = All-nil (IsFalse (trail_values (take a.last steps)));
                })
          ] in
          subst (λ (m : ℕ). IsAsserting (trail_values (take m steps)) b.lits.items) (sym k.last) asserts);
      root = λ forced. absurd (elim why [
        | inl decides ↦ forced i d few decides
        | inr kept ↦ elim kept [
          | inl alone ↦ (let low = alone.0 in forced a.last d (omega arith) (last.decides d (omega arith)))
          | inr earlier ↦ (let (below, low, kept) = earlier in forced first d (omega arith) (is-first d (omega arith)))
        ]
      ]);
    }

-- the steps of a reason's literals are before the step or the step itself
pub reason-steps : (clauses : List (List Lit)) (n : ℕ) (steps : List Step) (values : List Value) (indices decisions : List ℕ) (i id : ℕ) (d : Step)
    → AreSteps clauses n steps values indices decisions → AreOver n clauses → i < length steps → IsReason (trail_values (take i steps)) clauses id (get_or steps i d).lit
    → All (IsStepOf indices (i + 1)) (clause_at clauses id)
reason-steps clauses n steps values indices decisions i id d s over few reason k e few' =
    let c = clause_at clauses id in
    let m = get_or c k e in
    let at = clause-exists clauses n id over reason.low reason.high k e few' in
    let high = at.within in
    let slots = s.slots in
    let before : trail_index indices m < i + 1 = elim (reason.unit.others k e few') [
      | inl same ↦ (let p = ap (trail_index indices) same ∙ s.placed i d few in omega arith)
      | inr false' ↦
          (let (j, few-j, is) = step-of (take i steps) m.var (not m.positive) false' in
          let size = length-take i steps in
          let below : j < i = omega arith in
          let var : (get_or steps j d).lit.var ≡ m.var = ap (λ (x : Step). x.lit.var) (sym (get_or-take i steps j d below)) ∙ (is d).0 in
          let p = ap (λ (x : ℕ). get_or indices (x - 1) 0) (sym var) ∙ s.placed j d (omega arith) in
          omega arith)
    ] in
    record { above = at.above; within = omega arith; before = before }

-- **a step that is resolved**
pub walked-resolve : (clauses : List (List Lit)) (n : ℕ) (steps : List Step) (values : List Value) (indices decisions : List ℕ) (i id : ℕ) (d : Step) (a b : Analysis)
    → AreSteps clauses n steps values indices decisions → AreOver n clauses → i < length steps → IsWalked clauses n steps (i + 1) a → is_marked a.seen.items i ≡ true
    → IsReason (trail_values (take i steps)) clauses id (get_or steps i d).lit → (a.last ≤ i → a.at_last_level ≢ 1) → Resolves clauses indices id i a b → IsWalked clauses n steps i b
walked-resolve clauses n steps values indices decisions i id d a b s over few h marked reason more r =
    let size = h.size in
    let room = h.room in
    let mid-size = r.needs.size in
    let count = h.count in
    let added = r.needs.count in
    let mid-clear : AreUnmarked (i + 1) r.mid = r.needs.only (i + 1) (reason-steps clauses n steps values indices decisions i id d s over few reason) h.clear in
    let now : b.at_last_level ≡ last_level_count a.last (set r.mid i false) = r.at_last_level ∙ ap (λ (m : ℕ). last_level_count m b.seen.items) r.last ∙ ap (last_level_count a.last) r.seen in
    record {
      size = ap length r.seen ∙ length-set r.mid i false ∙ mid-size ∙ size;
      room = room;
      clear = subst (AreUnmarked i) (sym r.seen) (clear-unmarked i r.mid (omega arith) mid-clear);
      below = subst (AreUnmarkedBelow b.lowest) (sym r.seen)
          (below-unmarked b.lowest i r.mid (omega arith) (r.needs.below b.lowest r.lowest (λ j low. (let lower = r.lower in h.below j (omega arith)))));
      reached = λ before.
          (let mid-marked : is_marked r.mid b.lowest ≡ true = elim r.reached [
            | inl same ↦ subst (λ (m : ℕ). is_marked r.mid m ≡ true) (sym same) (r.needs.keeps a.lowest (h.reached (omega arith)))
            | inr one ↦
                (let (l, there, at) = one in
                subst (λ (m : ℕ). is_marked r.mid m ≡ true) (sym at) (All-contains (λ x. is_marked r.mid (trail_index indices x) ≡ true) (clause_at clauses id) l r.needs.all there))
          ] in
          subst (λ (xs : List Bool). is_marked xs b.lowest ≡ true) (sym r.seen)
          (get_or-set_other r.mid i b.lowest false false (λ same. omega arith) ∙ mid-marked));
      count = r.at_last_level;
      exist = subst (All (IsLitOf n)) (sym r.lits) h.exist;
      free = subst (All (λ (m : Lit). trail_values (take i steps) m.var ≡ None)) (sym r.lits) (free-weaker steps i a.lits.items h.free);
      differ = subst (HaveDifferentVars) (sym r.lits) h.differ;
      names = subst (AreNames (length clauses)) (sym r.hints) (All-push (λ x. (1 ≤ x) × (x ≤ length clauses)) a.hints.items id h.names (reason.low, reason.high));
      many = λ some in-level'.
          (let in-level : a.last < length steps = (let e = r.last in omega arith) in
          elim (cases_lt i a.last) [
            | inl early ↦
                (let e = late_early a.last i r.mid false early in
                let none = late-clear a.last r.mid (clear-late (i + 1) a.last r.mid (omega arith) mid-clear) in
                absurd (omega arith))
            | inr low ↦
                (let some' = late-some a.last i a.seen.items (omega arith) low marked in
                r.lits ∙ h.many (omega arith) in-level)
          ]);
      one = λ none in-level'.
          (let in-level : a.last < length steps = (let e = r.last in omega arith) in
          let asserts : IsAsserting (trail_values (take a.last steps)) b.lits.items = elim (cases_lt i a.last) [
            | inl early ↦
                (let none' = late-clear a.last a.seen.items (clear-late (i + 1) a.last a.seen.items (omega arith) h.clear) in
                subst (IsAsserting (trail_values (take a.last steps))) (sym r.lits) (h.one (omega arith) in-level))
            | inr low ↦
                (let some' = late-some a.last i a.seen.items (omega arith) low marked in
                let e = late_unmarked a.last i r.mid (omega arith) low (r.needs.keeps i marked) in
                let ne = more low in
                absurd (omega arith))
          ] in
          subst (λ (m : ℕ). IsAsserting (trail_values (take m steps)) b.lits.items) (sym r.last) asserts);
      root = λ forced. r.lits ∙ h.root forced;
    }

-- a clause that is open stays so with literals more
open-append : (s : Partial) (c more : List Lit) → IsOpenClause s c → IsOpenClause s (c ++ more)
open-append s c more o =
    elim o [
      | inl one ↦ (let (l, there, h) = one in inl (l, Contains-append_left c more l there, h))
      | inr two ↦ (let (l, m, in-l, in-m, differ, free-l, free-m) = two in inr (l, m, Contains-append_left c more l in-l, Contains-append_left c more m in-m, differ, free-l, free-m))
    ]

-- two literals of different free variables
open-two : (s : Partial) (c : List Lit) → 2 ≤ length c → HaveDifferentVars c → All (λ (l : Lit). s l.var ≡ None) c → IsOpenClause s c
open-two s c few differ free =
    let d : Lit = record { var = 0; positive = false } in
    let l = get_or c 0 d in
    let m = get_or c 1 d in
    inr (
      l,
      m,
      (0, (omega arith), get_or_default c 0 l d (omega arith)),
      (1, (omega arith), get_or_default c 1 m d (omega arith)),
      (λ same. differ 0 1 d (omega arith) (omega arith) (ap (λ (x : Lit). x.var) same)),
      free 0 d (omega arith),
      free 1 d (omega arith),
    )

not-le : (n : ℕ) → nat_le n 1 ≡ false → 2 ≤ n
not-le n e = grind arith

-- **before each decision that stays, from this step on, the lemma is open**
pub stays-more : (clauses : List (List Lit)) (n : ℕ) (steps : List Step) (i : ℕ) (d : Step) (backjump backjump' : ℕ) (lits lits' more : List Lit) (b : Analysis)
    → IsWalked clauses n steps i b → b.lits.items ≡ lits' → lits' ≡ lits ++ more → i < length steps → backjump' ≡ backjump_after (get_or steps i d) (length lits') i backjump
    → IsBackjump steps (i + 1) backjump lits → IsBackjump steps i backjump' lits'
stays-more clauses n steps i d backjump backjump' lits lits' more b h is-b is few is-stay before k e low below few' decides =
    let step = get_or steps i d in
    let test = is_none step.reason && nat_le (length lits') 1 in
    elim (cases_Bool test) [
      | inl aims ↦ (let at : backjump' ≡ i = is-stay ∙ cond-true test i backjump aims in absurd (omega arith))
      | inr stays ↦
          (let at : backjump' ≡ backjump = is-stay ∙ cond-false test i backjump stays in
          elim (cases_eq k i) [
            | inl same ↦
                (let here : step.reason ≡ None = ap (λ (x : Step). x.reason) (get_or_default steps i d e few) ∙ ap (λ (j : ℕ). (get_or steps j e).reason) (sym same) ∙ decides in
                let long : nat_le (length lits') 1 ≡ false = and-right (is_none step.reason) (nat_le (length lits') 1) (ap is_none here) stays in
                let free = subst (All (λ (l : Lit). trail_values (take i steps) l.var ≡ None)) is-b h.free in
                let differ = subst (HaveDifferentVars) is-b h.differ in
                subst (λ (j : ℕ). IsOpenClause (trail_values (take j steps)) lits') (sym same)
                (open-two (trail_values (take i steps)) lits' (not-le (length lits') long) differ free))
            | inr other ↦
                subst (IsOpenClause (trail_values (take k steps))) (sym is)
                (open-append (trail_values (take k steps)) lits more (before k e (omega arith) (omega arith) few' decides))
          ])
    ]
  where
    and-right : (p q : Bool) → p ≡ true → (p && q) ≡ false → q ≡ false
    and-right true q e f = f
    and-right false q e f = absurd (false≢true e)

-- **what the walk keeps doesn't turn on where the backjump leads**
pub walked-moved : (clauses : List (List Lit)) (n : ℕ) (steps : List Step) (i backjump : ℕ) (a : Analysis) → IsWalked clauses n steps i a → IsWalked clauses n steps i (record a { backjump = backjump })
walked-moved clauses n steps i backjump a h =
    record {
      size = h.size;
      room = h.room;
      clear = h.clear;
      below = h.below;
      reached = h.reached;
      count = h.count;
      exist = h.exist;
      free = h.free;
      differ = h.differ;
      names = h.names;
      many = h.many;
      one = h.one;
      root = h.root;
    }

-- **and it leads to a decision or to the end**
pub back-more : (steps : List Step) (i count backjump : ℕ) (d : Step) → d ≡ get_or steps i d → IsDecisionOrEnd steps backjump → IsDecisionOrEnd steps (backjump_after d count i backjump)
back-more steps i count backjump d is before =
    let test = is_none d.reason && nat_le count 1 in
    elim (cases_Bool test) [
      | inl aims ↦
          subst (IsDecisionOrEnd steps) (sym (cond-true test i backjump aims))
          (λ e few. sym (ap (λ (x : Step). x.reason) (is ∙ get_or_default steps i d e few)) ∙ none-of d.reason (nat_le count 1) aims)
      | inr stays ↦ subst (IsDecisionOrEnd steps) (sym (cond-false test i backjump stays)) before
    ]
  where
    none-of : (o : Option ℕ) (q : Bool) → (is_none o && q) ≡ true → o ≡ None
    none-of None q e = refl
    none-of (Some id) q e = absurd (false≢true e)

-- nothing is marked where nothing is from the index on, and nothing before it
all-clear : (i lowest : ℕ) (seen : List Bool) → i ≤ lowest → AreUnmarked i seen → AreUnmarkedBelow lowest seen → (k : ℕ) → is_marked seen k ≡ false
all-clear i lowest seen low clear below k =
    elim (cases_lt k lowest) [
      | inl before ↦ below k before
      | inr after ↦ clear k (omega arith)
    ]

-- **the walk's end**: no step before the index is needed, so it is as if all were walked
pub walked-end : (clauses : List (List Lit)) (n : ℕ) (steps : List Step) (i backjump : ℕ) (a : Analysis) → i ≤ a.lowest → IsWalked clauses n steps i a → IsWalked clauses n steps 0 (record a { backjump = backjump })
walked-end clauses n steps i backjump a low h =
    record {
      size = h.size;
      room = h.room;
      clear = λ k above. all-clear i a.lowest a.seen.items low h.clear h.below k;
      below = h.below;
      reached = λ before. absurd (omega (arith, before));
      count = h.count;
      exist = h.exist;
      free = λ k d few. refl;
      differ = h.differ;
      names = h.names;
      many = h.many;
      one = h.one;
      root = h.root;
    }

pub leads-end : (clauses : List (List Lit)) (n : ℕ) (steps : List Step) (i : ℕ) (a : Analysis) (hints : List ℕ) (conflict : List Lit) → i ≤ a.lowest → IsWalked clauses n steps i a
    → LeadsToConflict clauses steps i a.seen.items a.lits.items hints conflict → LeadsToConflict clauses steps 0 a.seen.items a.lits.items hints conflict
leads-end clauses n steps i a hints conflict low h leads t covers rest =
    leads t (λ k d below few mark. absurd (false≢true (sym (all-clear i a.lowest a.seen.items low h.clear h.below k) ∙ mark))) (λ x free. rest x refl)

or-second : (a b : Bool) → (a || b) ≡ false → b ≡ false
or-second true b e = absurd (false≢true (sym e))
or-second false b e = e

pub stays-end : (clauses : List (List Lit)) (n : ℕ) (steps : List Step) (i first : ℕ) (restarts : Bool) (a : Analysis) → IsWalked clauses n steps i a
    → ((k : ℕ) (d : Step) → k < first → (get_or steps k d).reason ≢ None) → IsBackjump steps i a.backjump a.lits.items
    → IsBackjump steps 0 (backjump_at_end first restarts (length a.lits.items) a.backjump) a.lits.items
stays-end clauses n steps i first restarts a h before stays k d low below few decides =
    elim (cases_Bool (restarts || nat_le (length a.lits.items) 1)) [
      | inl short ↦
          (let at = cond-true (restarts || nat_le (length a.lits.items) 1) first a.backjump short in
          absurd (before k d (omega arith) decides))
      | inr long ↦
          (let at = cond-false (restarts || nat_le (length a.lits.items) 1) first a.backjump long in
          elim (cases_lt k i) [
            | inr after ↦ stays k d after (omega arith) few decides
            | inl earlier ↦
                open-two (trail_values (take k steps)) a.lits.items (not-le (length a.lits.items) (or-second restarts (nat_le (length a.lits.items) 1) long)) h.differ
                (All-weaker (λ (l : Lit). trail_values (take i steps) l.var ≡ None) (λ (l : Lit). trail_values (take k steps) l.var ≡ None) (λ l none. free-before steps k i l.var (omega arith) none) a.lits.items h.free)
          ])
    ]

pub back-end : (steps : List Step) (first : ℕ) (restarts : Bool) (count backjump : ℕ) → IsDecisionOrEnd steps first → IsDecisionOrEnd steps backjump → IsDecisionOrEnd steps (backjump_at_end first restarts count backjump)
back-end steps first restarts count backjump is-first is =
    elim (cases_Bool (restarts || nat_le count 1)) [
      | inl short ↦ subst (IsDecisionOrEnd steps) (sym (cond-true (restarts || nat_le count 1) first backjump short)) is-first
      | inr long ↦ subst (IsDecisionOrEnd steps) (sym (cond-false (restarts || nat_le count 1) first backjump long)) is
    ]
