-- Assignments made block by block: each new block of variables keeps what the variables before it show.
use Rattle.std.proofs.Common.{◌≡◌, ℕ, suc, ◌+◌, ◌≤◌, Bool, true, false, not, cond, List, [], ◌∷◌, length, map, refl, sym, ap, ◌∙◌, subst, arith, eqb}
use Rattle.std.specs.Prelude.{◌||◌}
use Rattle.std.specs.List.{All, filter}
use Rattle.std.proofs.lemmas.Bool.{false≢true, cond-true, cond-false, eq-eqb, ne_eqb}
use Rattle.std.proofs.lemmas.List.Sums.{sum_by-cons}
use Rattle.std.proofs.lemmas.List.Elements.{All-append, All-head, All-tail, All-cons, All-nil, All-weaker}
use Rattle.cnf_core.specs.declared.literal.Lit.{Lit}
use Rattle.cnf_core.specs.Formula.{lit_true, clause_true, Satisfies, IsLitOf, AreOver}
use Rattle.cnf_core.specs.Counter.{count_true, Extends, HasExtension, SayAtMost, at_most_clauses, at_most_vars, at_most_size}
use Rattle.cycle_encoding.specs.Shapes.{numbered, positive, vars_of, shown, counters, counters_vars}
use Rattle.cycle_encoding.proofs.Shown.{both, left, right, none}

-- ---- extensions

pub extends-trans : (n m : ℕ) (u v w : ℕ → Bool) → n ≤ m → Extends n u v → Extends m v w → Extends n u w
extends-trans n m u v w le a b x l = b x (omega arith) ∙ a x l

pub extends-refl : (n : ℕ) (v : ℕ → Bool) → Extends n v v
extends-refl n v x l = refl

-- what is shown stays where the variables do
module _ {X : Type 0} (v w : ℕ → Bool) where
  front : (n : ℕ) (x : X) (ps qs : List (ℕ × X)) (b c : Bool) → b ≡ c → map (λ p. p.1) ps ≡ map (λ p. p.1) qs → map (λ p. p.1) (cond b ((n, x) ∷ ps) ps) ≡ map (λ p. p.1) (cond c ((n, x) ∷ qs) qs)
  front n x ps qs true true e h = ap (λ xs. x ∷ xs) h
  front n x ps qs false false e h = h
  front n x ps qs true false e h = absurd (false≢true (sym e))
  front n x ps qs false true e h = absurd (false≢true e)

  pub shown-extends : (n m : ℕ) (xs : List X) → n + length xs ≤ m → Extends m v w → shown w (numbered n xs) ≡ shown v (numbered n xs)
  shown-extends n m [] le e = refl
  shown-extends n m (x ∷ xs) le e =
      let size : length (x ∷ xs) ≡ suc (length xs) = refl in
      front (n + 1) x (filter (λ p. w p.0) (numbered (n + 1) xs)) (filter (λ p. v p.0) (numbered (n + 1) xs)) (w (n + 1)) (v (n + 1))
      (e (n + 1) (omega (arith, size))) (shown-extends (n + 1) m xs (omega (arith, size)) e)

-- ---- a block

-- v, but with the things of a block true where they pass
pub chosen : {X : Type 0} → (X → Bool) → ℕ → List X → (ℕ → Bool) → ℕ → Bool
chosen test n [] v = v
chosen test n (x ∷ xs) v = chosen test (n + 1) xs (λ y. cond (eqb y (n + 1)) (test x) (v y))

module _ {X : Type 0} (test : X → Bool) where
  pub chosen-old : (n : ℕ) (xs : List X) (v : ℕ → Bool) (y : ℕ) → y ≤ n → chosen test n xs v y ≡ v y
  unfolding chosen
  chosen-old n [] v y l = refl
  chosen-old n (x ∷ xs) v y l =
      chosen-old (n + 1) xs (λ y. cond (eqb y (n + 1)) (test x) (v y)) y (omega arith)
      ∙ cond-false (eqb y (n + 1)) (test x) (v y) (ne_eqb y (n + 1) (λ e. absurd (omega arith)))

  pub chosen-extends : (n : ℕ) (xs : List X) (v : ℕ → Bool) → Extends n v (chosen test n xs v)
  chosen-extends n xs v y l = chosen-old n xs v y l

  shown_front : (n : ℕ) (x : X) (ps : List (ℕ × X)) (ys : List X) (b c : Bool) → b ≡ c → map (λ p. p.1) ps ≡ ys → map (λ p. p.1) (cond b ((n, x) ∷ ps) ps) ≡ cond c (x ∷ ys) ys
  shown_front n x ps ys true true e h = ap (λ xs. x ∷ xs) h
  shown_front n x ps ys false false e h = h
  shown_front n x ps ys true false e h = absurd (false≢true (sym e))
  shown_front n x ps ys false true e h = absurd (false≢true e)

  -- it shows those that pass
  pub chosen-shown : (n : ℕ) (xs : List X) (v : ℕ → Bool) → shown (chosen test n xs v) (numbered n xs) ≡ filter test xs
  unfolding chosen
  chosen-shown n [] v = refl
  chosen-shown n (x ∷ xs) v =
      let u : ℕ → Bool = λ y. cond (eqb y (n + 1)) (test x) (v y) in
      let w : ℕ → Bool = chosen test (n + 1) xs u in
      shown_front (n + 1) x (filter (λ p. w p.0) (numbered (n + 1) xs)) (filter test xs) (w (n + 1)) (test x)
      (chosen-old (n + 1) xs u (n + 1) (omega arith) ∙ cond-true (eqb (n + 1) (n + 1)) (test x) (v (n + 1)) (eq-eqb (n + 1) (n + 1) refl))
      (chosen-shown (n + 1) xs u)

  -- and hides those that don't
  pub chosen-hidden : (n : ℕ) (xs : List X) (v : ℕ → Bool) → shown (λ y. not (chosen test n xs v y)) (numbered n xs) ≡ filter (λ x. not (test x)) xs
  unfolding chosen
  chosen-hidden n [] v = refl
  chosen-hidden n (x ∷ xs) v =
      let u : ℕ → Bool = λ y. cond (eqb y (n + 1)) (test x) (v y) in
      let w : ℕ → Bool = chosen test (n + 1) xs u in
      shown_front (n + 1) x (filter (λ p. not (w p.0)) (numbered (n + 1) xs)) (filter (λ x. not (test x)) xs) (not (w (n + 1))) (not (test x))
      (ap not (chosen-old (n + 1) xs u (n + 1) (omega arith) ∙ cond-true (eqb (n + 1) (n + 1)) (test x) (v (n + 1)) (eq-eqb (n + 1) (n + 1) refl)))
      (chosen-hidden (n + 1) xs u)

-- ---- literals of a block

pub lit-more : (n m : ℕ) (l : Lit) → n ≤ m → IsLitOf n l → IsLitOf m l
lit-more n m l le h = (let within = h.within in record { above = h.above; within = omega arith })

pub lits-more : (n m : ℕ) (ls : List Lit) → n ≤ m → All (IsLitOf n) ls → All (IsLitOf m) ls
lits-more n m ls le h = All-weaker (IsLitOf n) (IsLitOf m) (λ l q. lit-more n m l le q) ls h

pub over-more : (n m : ℕ) (cs : List (List Lit)) → n ≤ m → AreOver n cs → AreOver m cs
over-more n m cs le h = All-weaker (All (IsLitOf n)) (All (IsLitOf m)) (λ c p. lits-more n m c le p) cs h

module _ {X : Type 0} (test : X → Bool) where
  var_step : (n m : ℕ) (x : X) (ps : List (ℕ × X)) (b : Bool) → 1 ≤ n → n ≤ m → All (IsLitOf m) (map (λ p. positive p.0) ps) → All (IsLitOf m) (map (λ p. positive p.0) (cond b ((n, x) ∷ ps) ps))
  var_step n m x ps true above within h = All-cons (IsLitOf m) (positive n) (map (λ p. positive p.0) ps) (record { above = above; within = within }) h
  var_step n m x ps false above within h = h

  pub vars-over : (n m : ℕ) (xs : List X) → n + length xs ≤ m → All (IsLitOf m) (vars_of test (numbered n xs))
  vars-over n m [] le = All-nil (IsLitOf m)
  vars-over n m (x ∷ xs) le =
      let size : length (x ∷ xs) ≡ suc (length xs) = refl in
      var_step (n + 1) m x (filter (λ p. test p.1) (numbered (n + 1) xs)) (test x) (omega arith) (omega (arith, size)) (vars-over (n + 1) m xs (omega (arith, size)))

-- ---- clauses stay satisfied

lit-extends : (n : ℕ) (v w : ℕ → Bool) (l : Lit) → Extends n v w → IsLitOf n l → lit_true w l ≡ lit_true v l
lit-extends n v w l e h = ap (λ (b : Bool). cond l.positive b (not b)) (e l.var h.within)

clause-extends : (n : ℕ) (v w : ℕ → Bool) (c : List Lit) → Extends n v w → All (IsLitOf n) c → clause_true w c ≡ clause_true v c
clause-extends n v w [] e h = refl
clause-extends n v w (l ∷ c) e h =
    ap (λ b. b || clause_true w c) (lit-extends n v w l e (All-head (IsLitOf n) l c h))
    ∙ ap (λ b. lit_true v l || b) (clause-extends n v w c e (All-tail (IsLitOf n) l c h))

pub stays : (n : ℕ) (v w : ℕ → Bool) (cs : List (List Lit)) → Extends n v w → AreOver n cs → Satisfies v cs → Satisfies w cs
stays n v w [] e o h = none w
stays n v w (c ∷ cs) e o h =
    All-cons (λ c. clause_true w c ≡ true) c cs
    (clause-extends n v w c e (All-head (All (IsLitOf n)) c cs o) ∙ All-head (λ c. clause_true v c ≡ true) c cs h)
    (stays n v w cs e (All-tail (All (IsLitOf n)) c cs o) (All-tail (λ c. clause_true v c ≡ true) c cs h))

-- ---- counters, one after another

-- what is known of each counter: its meaning, its variables, its size
abbrev pub AreExact : Type 0
AreExact = (old p : ℕ) (lits : List Lit) → All (IsLitOf old) lits → SayAtMost old p lits (at_most_clauses old p lits) × AreOver (old + at_most_vars p (length lits)) (at_most_clauses old p lits) × (length (at_most_clauses old p lits) ≡ at_most_size p (length lits))

module _ (exact : AreExact) (p : ℕ) where
  vars-cons : (c : List Lit) (cs : List (List Lit)) → counters_vars p (c ∷ cs) ≡ at_most_vars p (length c) + counters_vars p cs
  vars-cons c cs = sum_by-cons (λ lits. at_most_vars p (length lits)) c cs

  -- their variables are those up to the last that they add
  pub counters-over : (n m : ℕ) (groups : List (List Lit)) → n ≤ m → AreOver n groups → AreOver (m + counters_vars p groups) (counters m p groups)
  counters-over n m [] le h = All-nil (All (IsLitOf (m + counters_vars p [])))
  counters-over n m (c ∷ cs) le h =
      let next = m + at_most_vars p (length c) in
      let total : next + counters_vars p cs ≡ m + counters_vars p (c ∷ cs) = omega (arith, vars-cons c cs) in
      let now : AreOver next (at_most_clauses m p c) = (exact m p c (lits-more n m c le (All-head (All (IsLitOf n)) c cs h))).1 in
      All-append (All (IsLitOf (m + counters_vars p (c ∷ cs)))) (at_most_clauses m p c) (counters next p cs)
      (over-more next (m + counters_vars p (c ∷ cs)) (at_most_clauses m p c) (omega arith) now)
      (subst (λ k. AreOver k (counters next p cs)) total (counters-over n next cs (omega arith) (All-tail (All (IsLitOf n)) c cs h)))

  -- where they are satisfied, at most p of each list are true
  pub counters-out : (n m : ℕ) (v : ℕ → Bool) (groups : List (List Lit)) → n ≤ m → AreOver n groups → Satisfies v (counters m p groups) → All (λ c. count_true v c ≤ p) groups
  counters-out n m v [] le h s = All-nil (λ c. count_true v c ≤ p)
  counters-out n m v (c ∷ cs) le h s =
      let next = m + at_most_vars p (length c) in
      let say = (exact m p c (lits-more n m c le (All-head (All (IsLitOf n)) c cs h))).0 in
      All-cons (λ c. count_true v c ≤ p) c cs
      ((say v).0 (v, extends-refl m v, left v (at_most_clauses m p c) (counters next p cs) s))
      (counters-out n next v cs (omega arith) (All-tail (All (IsLitOf n)) c cs h) (right v (at_most_clauses m p c) (counters next p cs) s))

  count-extends : (n : ℕ) (v w : ℕ → Bool) (c : List Lit) → Extends n v w → All (IsLitOf n) c → count_true w c ≡ count_true v c
  count-extends n v w [] e h = refl
  count-extends n v w (l ∷ c) e h =
      sum_by-cons (λ x. cond (lit_true w x) 1 0) l c
      ∙ ap (λ (b : Bool). cond b 1 0 + count_true w c) (lit-extends n v w l e (All-head (IsLitOf n) l c h))
      ∙ ap (λ (k : ℕ). cond (lit_true v l) 1 0 + k) (count-extends n v w c e (All-tail (IsLitOf n) l c h))
      ∙ sym (sum_by-cons (λ x. cond (lit_true v x) 1 0) l c)

  counts-extend : (n : ℕ) (v w : ℕ → Bool) (cs : List (List Lit)) → Extends n v w → AreOver n cs → All (λ c. count_true v c ≤ p) cs → All (λ c. count_true w c ≤ p) cs
  counts-extend n v w [] e o h = All-nil (λ c. count_true w c ≤ p)
  counts-extend n v w (c ∷ cs) e o h =
      let same = count-extends n v w c e (All-head (All (IsLitOf n)) c cs o) in
      let few : count_true v c ≤ p = All-head (λ c. count_true v c ≤ p) c cs h in
      All-cons (λ c. count_true w c ≤ p) c cs (omega arith) (counts-extend n v w cs e (All-tail (All (IsLitOf n)) c cs o) (All-tail (λ c. count_true v c ≤ p) c cs h))

  -- where at most p of each list are true, there is an extension that satisfies them
  pub counters-in : (n m : ℕ) (v : ℕ → Bool) (groups : List (List Lit)) → n ≤ m → AreOver n groups → All (λ c. count_true v c ≤ p) groups → HasExtension m v (counters m p groups)
  counters-in n m v [] le h few = (v, extends-refl m v, none v)
  counters-in n m v (c ∷ cs) le h few =
      let next = m + at_most_vars p (length c) in
      let here : All (IsLitOf n) c = All-head (All (IsLitOf n)) c cs h in
      let later : AreOver n cs = All-tail (All (IsLitOf n)) c cs h in
      let is = exact m p c (lits-more n m c le here) in
      let a : HasExtension m v (at_most_clauses m p c) = (is.0 v).1 (All-head (λ c. count_true v c ≤ p) c cs few) in
      let near : Extends n v a.0 = λ x l. a.1 x (omega arith) in
      let b : HasExtension next a.0 (counters next p cs) = counters-in n next a.0 cs (omega arith) later (counts-extend n v a.0 cs near later (All-tail (λ c. count_true v c ≤ p) c cs few)) in
      (b.0, extends-trans m next v a.0 b.0 (omega arith) a.1 b.1, both b.0 (at_most_clauses m p c) (counters next p cs) (stays next a.0 b.0 (at_most_clauses m p c) b.1 is.1 a.2) b.2)
