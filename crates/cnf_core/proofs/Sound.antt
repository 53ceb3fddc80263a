-- An accepted lemma is true wherever the clauses and the earlier lemmas are, so lines that refute leave no solution.
use Rattle.std.proofs.Common.{◌≡◌, ℕ, ◌+◌, ◌-◌, ◌<◌, ◌≤◌, Bool, true, false, not, cond, eqb, List, [], ◌∷◌, ◌++◌, length, map, take, get_or, refl, sym, ap, ◌∙◌, subst, arith, append-nil, append_assoc, ◌⊎◌, inl, inr, suc, zero, Some}
use Rattle.std.specs.Prelude.{◌||◌, slice_index}
use Rattle.std.specs.List.{All}
use Rattle.std.proofs.lemmas.Bool.{false≢true, cases_Bool, or_cases, eqb-true, cond-true, cond-false, or_parts}
use Rattle.std.proofs.lemmas.List.Elements.{All-nil, All-cons, All-head, All-tail, All-get_or, All-weaker, All-take, All-push}
use Rattle.std.proofs.lemmas.List.{length-append, length-map, map_push, take_more}
use Rattle.cnf_core.specs.declared.literal.Lit.{Lit}
use Rattle.cnf_core.specs.declared.line.Line.{Line}
use Rattle.cnf_core.specs.Formula.{Formula, lit_true, clause_true, Satisfies, negated}
use Rattle.cnf_core.specs.Values.{partial_of, IsFalse, IsFalseClause}
use Rattle.cnf_core.specs.Refutation.{known_clauses, clause_at, Reaches, negations, IsAccepted, Refutes, HaveNoSolution}
use Rattle.cnf_core.proofs.Truth.{lit_true-negated}

-- these literals are all true
abbrev AllTrue : (ℕ → Bool) → List Lit → Type 0
AllTrue v s = All (λ l. lit_true v l ≡ true) s

true-value : (p b : Bool) → cond p b (not b) ≡ true → b ≡ p
true-value true b h = h
true-value false true h = absurd (false≢true h)
true-value false false h = refl

value-false : (p b : Bool) → b ≡ not p → cond p b (not b) ≡ false
value-false true b h = h
value-false false b h = ap not h

-- the values of true literals are those of the assignment
value_true : (v : ℕ → Bool) (s : List Lit) → AllTrue v s → (x : ℕ) (b : Bool) → partial_of s x ≡ Some b → v x ≡ b
value_true v [] h x b e = cc
value_true v (l ∷ ls) h x b e =
    elim (cases_Bool (eqb l.var x)) [
      | inl same ↦ (let held : Some l.positive ≡ Some b = sym (cond-true (eqb l.var x) (Some l.positive) (partial_of ls x) same) ∙ e in
          let at : l.var ≡ x = eqb-true l.var x same in
          let is : v l.var ≡ l.positive = true-value l.positive (v l.var) (All-head (λ m. lit_true v m ≡ true) l ls h) in
          let p : l.positive ≡ b = cc in
          ap v (sym at) ∙ is ∙ p)
      | inr other ↦ value_true v ls (All-tail (λ m. lit_true v m ≡ true) l ls h) x b (sym (cond-false (eqb l.var x) (Some l.positive) (partial_of ls x) other) ∙ e)
    ]

-- a false literal is false under each assignment under which the true ones are true
false_lit : (v : ℕ → Bool) (s : List Lit) (m : Lit) → AllTrue v s → IsFalse (partial_of s) m → lit_true v m ≡ false
false_lit v s m h f = value-false m.positive (v m.var) (value_true v s h m.var (not m.positive) f)

or-right : (x y : Bool) → x ≡ false → (x || y) ≡ true → y ≡ true
or-right true y e h = absurd (false≢true (sym e))
or-right false y e h = h

-- and so is a false clause
no_false_clause : (v : ℕ → Bool) (s : List Lit) (c : List Lit) → AllTrue v s → IsFalseClause (partial_of s) c → clause_true v c ≡ true → ⊥
no_false_clause v s [] h f t = false≢true t
no_false_clause v s (m ∷ ms) h f t =
    no_false_clause v s ms h (All-tail (IsFalse (partial_of s)) m ms f)
    (or-right (lit_true v m) (clause_true v ms) (false_lit v s m h (All-head (IsFalse (partial_of s)) m ms f)) t)

-- where all literals but l are false, and the clause is true, l is true
only_true : (v : ℕ → Bool) (s : List Lit) (l : Lit) (c : List Lit) → AllTrue v s → All (λ m. (m ≡ l) ⊎ IsFalse (partial_of s) m) c → clause_true v c ≡ true → lit_true v l ≡ true
only_true v s l [] h f t = absurd (false≢true t)
only_true v s l (m ∷ ms) h f t =
    let P : Lit → Type 0 = λ x. (x ≡ l) ⊎ IsFalse (partial_of s) x in
    elim (or_cases (lit_true v m) (clause_true v ms) t) [
      | inr rest ↦ only_true v s l ms h (All-tail P m ms f) rest
      | inl here ↦ elim (All-head P m ms f) [
        | inl same ↦ ap (lit_true v) (sym same) ∙ here
        | inr false' ↦ absurd (false≢true (sym (false_lit v s m h false') ∙ here))
      ]
    ]

-- a named clause is true where all are
clause_at_true : (v : ℕ → Bool) (clauses : List (List Lit)) (h : ℕ) → Satisfies v clauses → 1 ≤ h → h ≤ length clauses → clause_true v (clause_at clauses h) ≡ true
clause_at_true v clauses h sat low high = All-get_or (λ c. clause_true v c ≡ true) clauses (h - 1) [] (omega arith) sat

-- unit hints lead from true literals to true literals
reaches_true : (v : ℕ → Bool) (clauses : List (List Lit)) (s : List Lit) (hs : List ℕ) (t : List Lit) → Satisfies v clauses → All (λ h. (1 ≤ h) × (h ≤ length clauses)) hs → AllTrue v s → Reaches clauses s hs t → AllTrue v t
reaches_true v clauses s [] t sat names h r = subst (AllTrue v) r h
reaches_true v clauses s (g ∷ hs) t sat names h r =
    let N : ℕ → Type 0 = λ x. (1 ≤ x) × (x ≤ length clauses) in
    let name = All-head N g hs names in
    reaches_true v clauses (r.0 ∷ s) hs t sat (All-tail N g hs names)
    (All-cons (λ m. lit_true v m ≡ true) r.0 s (only_true v s r.0 (clause_at clauses g) h r.1.others (clause_at_true v clauses g sat name.0 name.1)) h)
    r.2

-- where a lemma is false, its literals' opposites are true
refuted_true : (v : ℕ → Bool) (lemma : List Lit) → clause_true v lemma ≡ false → AllTrue v (negations lemma)
refuted_true v [] e = All-nil (λ m. lit_true v m ≡ true)
refuted_true v (l ∷ ls) e =
    let parts = or_parts (lit_true v l) (clause_true v ls) e in
    All-cons (λ m. lit_true v m ≡ true) (negated l) (negations ls) (lit_true-negated v l ∙ ap not parts.0) (refuted_true v ls parts.1)

pub length-known : (clauses : List (List Lit)) (earlier : List Line) → length (known_clauses clauses earlier) ≡ length clauses + length earlier
length-known clauses earlier = simp (length-append, length-map)

-- **an accepted lemma is true where the clauses and the earlier lemmas are**
pub accepted_true : (v : ℕ → Bool) (f : Formula) (earlier : List Line) (line : Line) → IsAccepted f earlier line → Satisfies v (known_clauses f.clauses earlier) → clause_true v line.lits ≡ true
accepted_true v f earlier line ok sat =
    let clauses = known_clauses f.clauses earlier in
    let hints = line.hints in
    let lemma = line.lits in
    let front = take (length hints - 1) hints in
    let N : ℕ → Type 0 = λ x. (1 ≤ x) × (x ≤ length clauses) in
    let names : All N hints = All-weaker (λ x. (1 ≤ x) × (x ≤ length f.clauses + length earlier)) N (λ x p. (p.0, (omega (arith, length-known f.clauses earlier)))) hints ok.named.hints in
    elim (cases_Bool (clause_true v lemma)) [
      | inl holds ↦ holds
      | inr fails ↦
          (let t = ok.ends.0 in
          let true' : AllTrue v t = reaches_true v clauses (negations lemma) front t sat (All-take N (length hints - 1) hints names) (refuted_true v lemma fails) ok.ends.1 in
          let last = All-get_or N hints (length hints - 1) 0 (omega (arith, ok.ends.2)) names in
          absurd (no_false_clause v t (clause_at clauses (slice_index hints (length hints - 1))) true' ok.ends.3
          (clause_at_true v clauses (slice_index hints (length hints - 1)) sat last.0 last.1)))
    ]

known-more : (clauses : List (List Lit)) (lines : List Line) (k : ℕ) (d : Line) → k < length lines → known_clauses clauses (take (k + 1) lines) ≡ known_clauses clauses (take k lines) ++ (get_or lines k d).lits ∷ []
known-more clauses lines k d few =
    ap (known_clauses clauses) (take_more lines k d few)
    ∙ ap (λ (xs : List (List Lit)). clauses ++ xs) (map_push (λ (l : Line). l.lits) (take k lines) (get_or lines k d))
    ∙ sym (append_assoc clauses (map (λ (l : Line). l.lits) (take k lines)) ((get_or lines k d).lits ∷ []))

-- so all lemmas are true where the formula is
all_true : (v : ℕ → Bool) (f : Formula) (lines : List Line) (d : Line) → ((k : ℕ) (d : Line) → k < length lines → IsAccepted f (take k lines) (get_or lines k d)) → Satisfies v f.clauses → (k : ℕ) → k ≤ length lines → Satisfies v (known_clauses f.clauses (take k lines))
all_true v f lines d ok sat zero few = rw append-nil sat
all_true v f lines d ok sat (suc k) few =
    let before = all_true v f lines d ok sat k (omega arith) in
    let P : List Lit → Type 0 = λ c. clause_true v c ≡ true in
    let at : k + 1 ≡ suc k = omega arith in
    subst (λ (m : ℕ). All P (known_clauses f.clauses (take m lines))) at
    (subst (All P) (sym (known-more f.clauses lines k d (omega arith)))
    (All-push P (known_clauses f.clauses (take k lines)) (get_or lines k d).lits before (accepted_true v f (take k lines) (get_or lines k d) (ok k d (omega arith)) before)))

-- **lines that refute a formula show that no assignment satisfies it**
pub refutes_sound : (f : Formula) (lines : List Line) → Refutes f lines → HaveNoSolution f.clauses
refutes_sound f [] r v sat = absurd (omega (arith, r.some))
refutes_sound f (line ∷ more) r v sat =
    let lines = line ∷ more in
    let n = length lines - 1 in
    let last = get_or lines n line in
    let few : n < length lines = omega arith in
    let holds : clause_true v last.lits ≡ true = accepted_true v f (take n lines) last (r.accepted n line few) (all_true v f lines line r.accepted sat n (omega arith)) in
    let empty : last.lits ≡ [] = (r.placed n line few).1 (omega arith) in
    false≢true (subst (λ (c : List Lit). clause_true v c ≡ true) empty holds)
