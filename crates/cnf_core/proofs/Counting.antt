-- The clauses of a counter say that at most so many of the literals are true.
use Rattle.std.proofs.Common.{◌≡◌, ℕ, ◌+◌, ◌-◌, ◌*◌, ◌/◌, ◌%◌, ◌<◌, ◌≤◌, Bool, true, false, not, cond, eqb, ltb, leb, List, [], ◌∷◌, ◌++◌, length, map, take, refl, sym, ap, ◌∙◌, subst, arith, inl, inr, suc, zero}
use Rattle.std.specs.Prelude.{◌||◌, ◌↔◌}
use Rattle.std.specs.List.{All, range_with_len}
use Rattle.std.proofs.lemmas.Bool.{false≢true, cases_Bool, cases_lt, cases_eq, ltb-true, lt-ltb, le-leb, lt-leb, cond-true, cond-false, eq-eqb, ne_eqb}
use Rattle.std.proofs.lemmas.List.{take_all}
use Rattle.std.proofs.lemmas.List.Sums.{count_by_more_yes, count_by_more_no, count_by-le-length, sum_by-cons, sum_by-take-le}
use Rattle.std.proofs.lemmas.List.Elements.{All-append, All-head, All-tail, All-cons, All-nil, All-map, All-get_or}
use Rattle.std.proofs.lemmas.Nat.{div-mul-add, mod-mul-add}
use Rattle.cnf_core.specs.declared.literal.Lit.{Lit}
use Rattle.cnf_core.specs.Formula.{lit_true, clause_true, Satisfies, IsLitOf, negated}
use Rattle.cnf_core.specs.Counter.{counter_rows, lit_at, counter, counts_first, keeps, counts_next, stops, counter_clauses, count_true, Extends, HasExtension, SayAtMost, at_most_clauses}
use Rattle.cnf_core.proofs.Truth.{All-left, All-right, All-to_map, All-from_map, All-to_rows, All-from_rows, All-unmap, lit_true-negated, implies-out, implies-in, implies2-out, implies2-in, excludes-out, excludes-in}

-- what the four rows of clauses say of an assignment, by the literals' values
pub record Counts (w : ℕ → Bool) (old p : ℕ) (lits : List Lit) : Type 0 where
  pub first : (i : ℕ) → i + 1 < length lits → lit_true w (lit_at lits i) ≡ true → lit_true w (counter old p i 0) ≡ true
  pub kept : (i j : ℕ) → i + 2 < length lits → j < p → lit_true w (counter old p i j) ≡ true → lit_true w (counter old p (i + 1) j) ≡ true
  pub next : (i j : ℕ) → i + 2 < length lits → j + 1 < p → lit_true w (lit_at lits (i + 1)) ≡ true → lit_true w (counter old p i j) ≡ true → lit_true w (counter old p (i + 1) (j + 1)) ≡ true
  pub stop : (i : ℕ) → i + 1 < length lits → lit_true w (lit_at lits (i + 1)) ≡ true → lit_true w (counter old p i (p - 1)) ≡ true → ⊥

pub counts-out : (w : ℕ → Bool) (old p : ℕ) (lits : List Lit) → Satisfies w (counter_clauses old p lits) → Counts w old p lits
counts-out w old p lits h =
    let P : List Lit → Type 0 = λ c. clause_true w c ≡ true in
    let a = map (counts_first old p lits) (range_with_len 0 (length lits - 1)) in
    let b = counter_rows (keeps old p) (length lits - 2) p in
    let c = counter_rows (counts_next old p lits) (length lits - 2) (p - 1) in
    let d = map (stops old p lits) (range_with_len 0 (length lits - 1)) in
    let habc = All-left P (a ++ b ++ c) d h in
    let hab = All-left P (a ++ b) c habc in
    record {
      first = λ i l. implies-out w (lit_at lits i) (counter old p i 0) (All-from_map P (counts_first old p lits) (length lits - 1) (All-left P a b hab) i (omega arith));
      kept = λ i j l k. implies-out w (counter old p i j) (counter old p (i + 1) j) (All-from_rows P (keeps old p) (length lits - 2) p (All-right P a b hab) i j (omega arith) k);
      next = λ i j l k. implies2-out w (lit_at lits (i + 1)) (counter old p i j) (counter old p (i + 1) (j + 1)) (All-from_rows P (counts_next old p lits) (length lits - 2) (p - 1) (All-right P (a ++ b) c habc) i j (omega arith) (omega arith));
      stop = λ i l. excludes-out w (lit_at lits (i + 1)) (counter old p i (p - 1)) (All-from_map P (stops old p lits) (length lits - 1) (All-right P (a ++ b ++ c) d h) i (omega arith));
    }

pub counts-in : (w : ℕ → Bool) (old p : ℕ) (lits : List Lit) → Counts w old p lits → Satisfies w (counter_clauses old p lits)
counts-in w old p lits h =
    let P : List Lit → Type 0 = λ c. clause_true w c ≡ true in
    let a = map (counts_first old p lits) (range_with_len 0 (length lits - 1)) in
    let b = counter_rows (keeps old p) (length lits - 2) p in
    let c = counter_rows (counts_next old p lits) (length lits - 2) (p - 1) in
    let d = map (stops old p lits) (range_with_len 0 (length lits - 1)) in
    All-append P (a ++ b ++ c) d
    (All-append P (a ++ b) c
    (All-append P a b
    (All-to_map P (counts_first old p lits) (length lits - 1) (λ i l. implies-in w (lit_at lits i) (counter old p i 0) (h.first i (omega arith))))
    (All-to_rows P (keeps old p) (length lits - 2) p (λ i j l k. implies-in w (counter old p i j) (counter old p (i + 1) j) (h.kept i j (omega arith) k))))
    (All-to_rows P (counts_next old p lits) (length lits - 2) (p - 1) (λ i j l k. implies2-in w (lit_at lits (i + 1)) (counter old p i j) (counter old p (i + 1) (j + 1)) (h.next i j (omega arith) (omega arith)))))
    (All-to_map P (stops old p lits) (length lits - 1) (λ i l. excludes-in w (lit_at lits (i + 1)) (counter old p i (p - 1)) (h.stop i (omega arith))))

-- how many of the first n literals are true
abbrev upto : (ℕ → Bool) → List Lit → ℕ → ℕ
upto w lits n = count_true w (take n lits)

-- one more literal counts one more, or none
data Step (w : ℕ → Bool) (lits : List Lit) (i : ℕ) : Type 0 where
  counted : lit_true w (lit_at lits i) ≡ true → upto w lits (i + 1) ≡ upto w lits i + 1 → Step w lits i
  passed : lit_true w (lit_at lits i) ≡ false → upto w lits (i + 1) ≡ upto w lits i → Step w lits i

step : (w : ℕ → Bool) (lits : List Lit) (i : ℕ) → i < length lits → Step w lits i
step w lits i l =
    elim (cases_Bool (lit_true w (lit_at lits i))) [
      | inl t ↦ counted t (count_by_more_yes (lit_true w) lits i (record { var = 0; positive = false }) l t)
      | inr f ↦ passed f (count_by_more_no (lit_true w) lits i (record { var = 0; positive = false }) l f)
    ]

upto-le : (w : ℕ → Bool) (lits : List Lit) (i : ℕ) → upto w lits i ≤ count_true w lits
upto-le w lits i = sum_by-take-le (λ x. cond (lit_true w x) 1 0) lits i

-- the counter's variables at i are true as far as literals were counted
abbrev Reach : (ℕ → Bool) → ℕ → ℕ → List Lit → ℕ → Type 0
Reach w old p lits i = i + 1 < length lits → (j : ℕ) → j < p → j < upto w lits (i + 1) → lit_true w (counter old p i j) ≡ true

upto_none : (w : ℕ → Bool) (lits : List Lit) → upto w lits 0 ≡ 0
upto_none w lits = refl

reach_first : (w : ℕ → Bool) (old p : ℕ) (lits : List Lit) → Counts w old p lits → Reach w old p lits 0
reach_first w old p lits h l j k more =
    elim (step w lits 0 (omega arith)) [
      | counted t e ↦ (let at : 0 ≡ j = omega (arith, upto_none w lits) in
          subst (λ (m : ℕ). lit_true w (counter old p 0 m) ≡ true) at (h.first 0 l t))
      | passed f e ↦ absurd (omega (arith, upto_none w lits))
    ]

reach_next : (w : ℕ → Bool) (old p : ℕ) (lits : List Lit) → Counts w old p lits → (i : ℕ) → Reach w old p lits i → Reach w old p lits (i + 1)
reach_next w old p lits h i before l j k more =
    elim (cases_lt j (upto w lits (i + 1))) [
      | inl below ↦ h.kept i j (omega arith) k (before (omega arith) j k below)
      | inr above ↦ elim (step w lits (i + 1) (omega arith)) [
        | passed f e ↦ absurd (omega arith)
        | counted t e ↦ elim (cases_eq j 0) [
          | inl none ↦ subst (λ (m : ℕ). lit_true w (counter old p (i + 1) m) ≡ true) (sym none) (h.first (i + 1) l t)
          | inr some ↦ (let more_than : 0 < j = omega arith in
              let one : lit_true w (counter old p i (j - 1)) ≡ true = before (omega arith) (j - 1) (omega arith) (omega arith) in
              let at : j - 1 + 1 ≡ j = omega arith in
              subst (λ (m : ℕ). lit_true w (counter old p (i + 1) m) ≡ true) at (h.next i (j - 1) (omega arith) (omega arith) t one))
        ]
      ]
    ]

reaches : (w : ℕ → Bool) (old p : ℕ) (lits : List Lit) → Counts w old p lits → (i : ℕ) → Reach w old p lits i
reaches w old p lits h zero = reach_first w old p lits h
reaches w old p lits h (suc i) =
    let at : i + 1 ≡ suc i = omega arith in
    subst (λ (m : ℕ). Reach w old p lits m) at (reach_next w old p lits h i (reaches w old p lits h i))

-- so at most p of the first literals are true
few_next : (w : ℕ → Bool) (old p : ℕ) (lits : List Lit) → 1 ≤ p → Counts w old p lits → (i : ℕ) → i < length lits → upto w lits i ≤ p → upto w lits (i + 1) ≤ p
few_next w old p lits pos h i l before =
    elim (step w lits i l) [
      | passed f e ↦ omega arith
      | counted t e ↦ elim (cases_lt (upto w lits i) p) [
        | inl less ↦ omega arith
        | inr full ↦ (let after : 1 ≤ i = elim (cases_eq i 0) [
          | inl none ↦ (let z : upto w lits i ≡ 0 = ap (upto w lits) none ∙ upto_none w lits in absurd (omega arith))
          | inr some ↦ omega arith
        ] in
            let at : i - 1 + 1 ≡ i = omega arith in
            let t' : lit_true w (lit_at lits (i - 1 + 1)) ≡ true = subst (λ (m : ℕ). lit_true w (lit_at lits m) ≡ true) (sym at) t in
            let full' : p ≤ upto w lits (i - 1 + 1) = subst (λ (m : ℕ). p ≤ upto w lits m) (sym at) full in
            absurd (h.stop (i - 1) (omega arith) t' (reaches w old p lits h (i - 1) (omega arith) (p - 1) (omega arith) (omega arith))))
      ]
    ]

few : (w : ℕ → Bool) (old p : ℕ) (lits : List Lit) → 1 ≤ p → Counts w old p lits → (i : ℕ) → i ≤ length lits → upto w lits i ≤ p
few w old p lits pos h zero l = omega (arith, upto_none w lits)
few w old p lits pos h (suc i) l =
    let at : i + 1 ≡ suc i = omega arith in
    subst (λ (m : ℕ). upto w lits m ≤ p) at (few_next w old p lits pos h i (omega arith) (few w old p lits pos h i (omega arith)))

-- at most p of all the literals are true where the clauses are
pub count_true-le : (w : ℕ → Bool) (old p : ℕ) (lits : List Lit) → 1 ≤ p → Counts w old p lits → count_true w lits ≤ p
count_true-le w old p lits pos h =
    let all : upto w lits (length lits) ≡ count_true w lits = ap (count_true w) (take_all (length lits) lits (omega arith)) in
    let bound = few w old p lits pos h (length lits) (omega arith) in
    omega arith

-- the values that an assignment gives to the counter: old variables as before, c(i, j) whether more than j of the first i + 1 are true
pub counted_by : (ℕ → Bool) → ℕ → ℕ → List Lit → ℕ → Bool
counted_by v old p lits x =
    cond (leb x old) (v x) (ltb ((x - old - 1) % p) (upto v lits ((x - old - 1) / p + 1)))

counted_by-old : (v : ℕ → Bool) (old p : ℕ) (lits : List Lit) → Extends old v (counted_by v old p lits)
unfolding counted_by
counted_by-old v old p lits x l = cond-true (leb x old) _ _ (le-leb x old l)

counted_by-new : (v : ℕ → Bool) (old p : ℕ) (lits : List Lit) (i j : ℕ) → j < p → lit_true (counted_by v old p lits) (counter old p i j) ≡ ltb j (upto v lits (i + 1))
unfolding counted_by
counted_by-new v old p lits i j k =
    let x = old + (i * p + j) + 1 in
    let big : leb x old ≡ false = lt-leb x old (omega arith) in
    let e : x - old - 1 ≡ i * p + j = omega arith in
    cond-false (leb x old) _ _ big
    ∙ ap (λ (y : ℕ). ltb (y % p) (upto v lits (y / p + 1))) e
    ∙ ap (λ (y : ℕ). ltb y (upto v lits ((i * p + j) / p + 1))) (mod-mul-add i p j k)
    ∙ ap (λ (y : ℕ). ltb j (upto v lits (y + 1))) (div-mul-add i p j k)

-- a literal of an old variable keeps its value in an extension
pub lit_true-extends : (n : ℕ) (v w : ℕ → Bool) (l : Lit) → Extends n v w → IsLitOf n l → lit_true w l ≡ lit_true v l
lit_true-extends n v w l e h = ap (λ (b : Bool). cond l.positive b (not b)) (e l.var h.within)

pub count_true-extends : (n : ℕ) (v w : ℕ → Bool) (lits : List Lit) → Extends n v w → All (IsLitOf n) lits → count_true w lits ≡ count_true v lits
count_true-extends n v w [] e h = refl
count_true-extends n v w (l ∷ ls) e h =
    let one : lit_true w l ≡ lit_true v l = lit_true-extends n v w l e (All-head (IsLitOf n) l ls h) in
    sum_by-cons (λ x. cond (lit_true w x) 1 0) l ls
    ∙ ap (λ (b : Bool). cond b 1 0 + count_true w ls) one
    ∙ ap (λ (m : ℕ). cond (lit_true v l) 1 0 + m) (count_true-extends n v w ls e (All-tail (IsLitOf n) l ls h))
    ∙ sym (sum_by-cons (λ x. cond (lit_true v x) 1 0) l ls)

-- the counter's clauses, under the values that count
counts-by : (v : ℕ → Bool) (old p : ℕ) (lits : List Lit) → 1 ≤ p → All (IsLitOf old) lits → count_true v lits ≤ p → Counts (counted_by v old p lits) old p lits
counts-by v old p lits pos exist h =
    let w = counted_by v old p lits in
    let same : (i : ℕ) → i < length lits → lit_true w (lit_at lits i) ≡ lit_true v (lit_at lits i) =
    λ i l. lit_true-extends old v w (lit_at lits i) (counted_by-old v old p lits) (All-get_or (IsLitOf old) lits i (record { var = 0; positive = false }) l exist) in
    record {
      first = λ i l t.
          let t' = sym (same i (omega arith)) ∙ t in
          counted_by-new v old p lits i 0 pos ∙ elim (step v lits i (omega arith)) [
            | counted _ e ↦ lt-ltb 0 (upto v lits (i + 1)) (omega arith)
            | passed f _ ↦ absurd (false≢true (sym f ∙ t'))
          ];
      kept = λ i j l k t.
          let less : j < upto v lits (i + 1) = ltb-true j (upto v lits (i + 1)) (sym (counted_by-new v old p lits i j k) ∙ t) in
          counted_by-new v old p lits (i + 1) j k ∙ elim (step v lits (i + 1) (omega arith)) [
            | counted _ e ↦ lt-ltb j (upto v lits (i + 1 + 1)) (omega arith)
            | passed _ e ↦ lt-ltb j (upto v lits (i + 1 + 1)) (omega arith)
          ];
      next = λ i j l k a t.
          let a' = sym (same (i + 1) (omega arith)) ∙ a in
          let less : j < upto v lits (i + 1) = ltb-true j (upto v lits (i + 1)) (sym (counted_by-new v old p lits i j (omega arith)) ∙ t) in
          counted_by-new v old p lits (i + 1) (j + 1) k ∙ elim (step v lits (i + 1) (omega arith)) [
            | counted _ e ↦ lt-ltb (j + 1) (upto v lits (i + 1 + 1)) (omega arith)
            | passed f _ ↦ absurd (false≢true (sym f ∙ a'))
          ];
      stop = λ i l a t.
          let a' = sym (same (i + 1) (omega arith)) ∙ a in
          let less : p - 1 < upto v lits (i + 1) = ltb-true (p - 1) (upto v lits (i + 1)) (sym (counted_by-new v old p lits i (p - 1) (omega arith)) ∙ t) in
          elim (step v lits (i + 1) (omega arith)) [
            | counted _ e ↦ (let more = upto-le v lits (i + 1 + 1) in absurd (omega arith))
            | passed f _ ↦ absurd (false≢true (sym f ∙ a'))
          ];
    }

-- each literal's negation says that none is true
single-out : (x : Bool) → (not x || false) ≡ true → x ≡ false
single-out true h = absurd (false≢true h)
single-out false h = refl

none-out : (w : ℕ → Bool) (lits : List Lit) → All (λ l. clause_true w (negated l ∷ []) ≡ true) lits → count_true w lits ≡ 0
none-out w [] h = refl
none-out w (l ∷ ls) h =
    let P : Lit → Type 0 = λ x. clause_true w (negated x ∷ []) ≡ true in
    let f : lit_true w l ≡ false = single-out (lit_true w l) (rw (lit_true-negated w l) at (All-head P l ls h)) in
    sum_by-cons (λ x. cond (lit_true w x) 1 0) l ls ∙ ap (λ (b : Bool). cond b 1 0 + count_true w ls) f ∙ ap (λ (m : ℕ). 0 + m) (none-out w ls (All-tail P l ls h))

none-in : (w : ℕ → Bool) (lits : List Lit) → count_true w lits ≤ 0 → All (λ l. clause_true w (negated l ∷ []) ≡ true) lits
none-in w [] h = All-nil (λ x. clause_true w (negated x ∷ []) ≡ true)
none-in w (l ∷ ls) h =
    let e : count_true w (l ∷ ls) ≡ cond {A = ℕ} (lit_true w l) 1 0 + count_true w ls = sum_by-cons (λ x. cond (lit_true w x) 1 0) l ls in
    let f : lit_true w l ≡ false = elim (cases_Bool (lit_true w l)) [
      | inl t ↦ (let one : cond {A = ℕ} (lit_true w l) 1 0 ≡ 1 = ap (λ (b : Bool). cond {A = ℕ} b 1 0) t in absurd (omega arith))
      | inr f ↦ f
    ] in
    All-cons (λ x. clause_true w (negated x ∷ []) ≡ true) l ls (rw (lit_true-negated w l, f) refl) (none-in w ls (omega arith))

-- **the clauses say that at most p of the literals are true**
pub at_most_says : (old p : ℕ) (lits : List Lit) → All (IsLitOf old) lits → SayAtMost old p lits (at_most_clauses old p lits)
at_most_says old p lits exist v =
    let Goal : List (List Lit) → Type 0 = λ cs. HasExtension old v cs ↔ (count_true v lits ≤ p) in
    elim (cases_lt p (length lits)) [
      | inr few ↦
          (let e : at_most_clauses old p lits ≡ [] = cond-true (leb (length lits) p) _ _ (le-leb (length lits) p few) in
          subst Goal (sym e) (
            (λ _. omega (arith, count_by-le-length (lit_true v) lits)),
            (λ _. (v, (λ x l. refl), All-nil (λ c. clause_true v c ≡ true))),
          ))
      | inl many ↦ elim (cases_eq p 0) [
        | inl zero' ↦
            (let e : at_most_clauses old p lits ≡ map (λ l. negated l ∷ []) lits =
            cond-false (leb (length lits) p) _ _ (lt-leb (length lits) p many) ∙ cond-true (eqb p 0) _ _ (eq-eqb p 0 zero') in
            subst Goal (sym e) (
              (λ (w, ext, sat).
                  let none = none-out w lits (All-unmap (λ c. clause_true w c ≡ true) (λ l. negated l ∷ []) lits sat) in
                  omega (arith, count_true-extends old v w lits ext exist)),
              (λ h. (v, (λ x l. refl), All-map (λ c. clause_true v c ≡ true) (λ l. negated l ∷ []) lits (none-in v lits (omega arith)))),
            ))
        | inr pos ↦
            (let e : at_most_clauses old p lits ≡ counter_clauses old p lits =
            cond-false (leb (length lits) p) _ _ (lt-leb (length lits) p many) ∙ cond-false (eqb p 0) _ _ (ne_eqb p 0 pos) in
            subst Goal (sym e) (
              (λ (w, ext, sat).
                  let le = count_true-le w old p lits (omega arith) (counts-out w old p lits sat) in
                  omega (arith, count_true-extends old v w lits ext exist)),
              (λ h. (counted_by v old p lits, counted_by-old v old p lits, counts-in (counted_by v old p lits) old p lits (counts-by v old p lits (omega arith) exist h))),
            ))
      ]
    ]
