-- How many clauses a counter has, and that its variables are those up to the last one that it adds.
use Rattle.std.proofs.Common.{◌≡◌, ℕ, suc, ◌+◌, ◌*◌, ◌-◌, ◌<◌, ◌≤◌, false, eqb, leb, List, [], ◌∷◌, ◌++◌, length, map, refl, sym, ap, ◌∙◌, subst, arith, inl, inr}
use Rattle.std.specs.List.{All, range_with_len}
use Rattle.std.proofs.lemmas.Bool.{cases_eq, cases_lt, cond-true, cond-false, eq-eqb, ne_eqb, le-leb, lt-leb}
use Rattle.std.proofs.lemmas.List.Elements.{All-nil, All-cons, All-append, All-map, All-weaker, All-get_or}
use Rattle.std.proofs.Math.Nat.{mul-le-mul_right}
use Rattle.cnf_core.specs.declared.literal.Lit.{Lit}
use Rattle.cnf_core.specs.Formula.{IsLitOf, AreOver, negated}
use Rattle.cnf_core.specs.Counter.{counter_rows, lit_at, counter, counts_first, keeps, counts_next, stops, counter_clauses, at_most_clauses, at_most_size, at_most_vars}
use Rattle.cnf_core.proofs.Truth.{All-to_map, All-to_rows}
use Rattle.cnf_core.proofs.Rows.{length_counter_clauses}

-- a literal of fewer variables is one of more
pub lit-more : (n m : ℕ) (l : Lit) → n ≤ m → IsLitOf n l → IsLitOf m l
lit-more n m l le h = (let within = h.within in record { above = h.above; within = omega arith })

pub over-more : (n m : ℕ) (clauses : List (List Lit)) → n ≤ m → AreOver n clauses → AreOver m clauses
over-more n m clauses le h =
    All-weaker (All (IsLitOf n)) (All (IsLitOf m)) (λ c p. All-weaker (IsLitOf n) (IsLitOf m) (λ l q. lit-more n m l le q) c p) clauses h

-- a counter's variable is among those that it adds
counter-within : (old p rows i j : ℕ) → i < rows → j < p → IsLitOf (old + rows * p) (counter old p i j)
counter-within old p rows i j few less =
    let all : (i + 1) * p ≤ rows * p = mul-le-mul_right p (omega arith) in
    let next : (i + 1) * p ≡ i * p + p = omega arith in
    record { above = omega arith; within = omega arith }

-- the opposite of a literal is of the same variable
negated-within : (n : ℕ) (l : Lit) → IsLitOf n l → IsLitOf n (negated l)
negated-within n l h = record { above = h.above; within = h.within }

two : (n : ℕ) (a b : Lit) → IsLitOf n a → IsLitOf n b → All (IsLitOf n) (a ∷ b ∷ [])
two n a b p q = All-cons (IsLitOf n) a (b ∷ []) p (All-cons (IsLitOf n) b [] q (All-nil (IsLitOf n)))

-- the clauses of a counter are over the old variables and those that it adds
counter-over : (old p : ℕ) (lits : List Lit) → 1 ≤ p → p < length lits → All (IsLitOf old) lits → AreOver (old + (length lits - 1) * p) (counter_clauses old p lits)
counter-over old p lits some more exist =
    let n = old + (length lits - 1) * p in
    let P : List Lit → Type 0 = All (IsLitOf n) in
    let at : (i : ℕ) → i < length lits → IsLitOf n (negated (lit_at lits i)) =
    λ i few. negated-within n (lit_at lits i) (lit-more old n (lit_at lits i) (omega arith) (All-get_or (IsLitOf old) lits i (record { var = 0; positive = false }) few exist)) in
    let counted : (i j : ℕ) → i < length lits - 1 → j < p → IsLitOf n (counter old p i j) = counter-within old p (length lits - 1) in
    let denied : (i j : ℕ) → i < length lits - 1 → j < p → IsLitOf n (negated (counter old p i j)) = λ i j few less. negated-within n (counter old p i j) (counted i j few less) in
    let a = map (counts_first old p lits) (range_with_len 0 (length lits - 1)) in
    let b = counter_rows (keeps old p) (length lits - 2) p in
    let c = counter_rows (counts_next old p lits) (length lits - 2) (p - 1) in
    let d = map (stops old p lits) (range_with_len 0 (length lits - 1)) in
    All-append P (a ++ b ++ c) d
    (All-append P (a ++ b) c
    (All-append P a b
    (All-to_map P (counts_first old p lits) (length lits - 1) (λ i few. two n (negated (lit_at lits i)) (counter old p i 0) (at i (omega arith)) (counted i 0 few (omega arith))))
    (All-to_rows P (keeps old p) (length lits - 2) p (λ i j few less. two n (negated (counter old p i j)) (counter old p (i + 1) j) (denied i j (omega arith) less) (counted (i + 1) j (omega arith) less))))
    (All-to_rows P (counts_next old p lits) (length lits - 2) (p - 1) (λ i j few less.
    All-cons (IsLitOf n) (negated (lit_at lits (i + 1))) (negated (counter old p i j) ∷ counter old p (i + 1) (j + 1) ∷ []) (at (i + 1) (omega arith))
    (two n (negated (counter old p i j)) (counter old p (i + 1) (j + 1)) (denied i j (omega arith) (omega arith)) (counted (i + 1) (j + 1) (omega arith) (omega arith))))))
    (All-to_map P (stops old p lits) (length lits - 1) (λ i few. two n (negated (lit_at lits (i + 1))) (negated (counter old p i (p - 1))) (at (i + 1) (omega arith)) (denied i (p - 1) few (omega arith))))

-- which of its three forms the list of clauses has
pub at_most-none : (old p : ℕ) (lits : List Lit) → length lits ≤ p → at_most_clauses old p lits ≡ []
at_most-none old p lits few = cond-true (leb (length lits) p) _ _ (le-leb (length lits) p few)

pub at_most-denied : (old p : ℕ) (lits : List Lit) → p < length lits → p ≡ 0 → at_most_clauses old p lits ≡ map (λ l. negated l ∷ []) lits
at_most-denied old p lits many none = cond-false (leb (length lits) p) _ _ (lt-leb (length lits) p many) ∙ cond-true (eqb p 0) _ _ (eq-eqb p 0 none)

pub at_most-counted : (old p : ℕ) (lits : List Lit) → p < length lits → 1 ≤ p → at_most_clauses old p lits ≡ counter_clauses old p lits
at_most-counted old p lits many some = cond-false (leb (length lits) p) _ _ (lt-leb (length lits) p many) ∙ cond-false (eqb p 0) _ _ (ne_eqb p 0 (λ e. absurd (omega arith)))

size-none : (p n : ℕ) → n ≤ p → at_most_size p n ≡ 0
size-none p n few = cond-true (leb n p) _ _ (le-leb n p few)

size-denied : (p n : ℕ) → p < n → p ≡ 0 → at_most_size p n ≡ n
size-denied p n many none = cond-false (leb n p) _ _ (lt-leb n p many) ∙ cond-true (eqb p 0) _ _ (eq-eqb p 0 none)

size-counted : (p n : ℕ) → p < n → 1 ≤ p → at_most_size p n ≡ (n - 1) + (n - 2) * p + (n - 2) * (p - 1) + (n - 1)
size-counted p n many some = cond-false (leb n p) _ _ (lt-leb n p many) ∙ cond-false (eqb p 0) _ _ (ne_eqb p 0 (λ e. absurd (omega arith)))

vars-more : (p n : ℕ) → p < n → at_most_vars p n ≡ (n - 1) * p
vars-more p n many = cond-false (leb n p) _ _ (lt-leb n p many)

length_denied : (lits : List Lit) → length (map (λ (l : Lit). negated l ∷ []) lits) ≡ length lits
length_denied [] = refl
length_denied (l ∷ ls) = ap suc (length_denied ls)

-- how many clauses there are
pub length_at_most : (old p : ℕ) (lits : List Lit) → length (at_most_clauses old p lits) ≡ at_most_size p (length lits)
length_at_most old p lits =
    elim (cases_lt p (length lits)) [
      | inr few ↦ ap length (at_most-none old p lits few) ∙ sym (size-none p (length lits) few)
      | inl many ↦ elim (cases_eq p 0) [
        | inl none ↦ ap length (at_most-denied old p lits many none) ∙ length_denied lits ∙ sym (size-denied p (length lits) many none)
        | inr some ↦ ap length (at_most-counted old p lits many (omega arith)) ∙ length_counter_clauses old p lits ∙ sym (size-counted p (length lits) many (omega arith))
      ]
    ]

-- their variables exist
pub at_most-over : (old p : ℕ) (lits : List Lit) → All (IsLitOf old) lits → AreOver (old + at_most_vars p (length lits)) (at_most_clauses old p lits)
at_most-over old p lits exist =
    elim (cases_lt p (length lits)) [
      | inr few ↦ subst (AreOver (old + at_most_vars p (length lits))) (sym (at_most-none old p lits few)) (All-nil (All (IsLitOf (old + at_most_vars p (length lits)))))
      | inl many ↦
          (let vars = vars-more p (length lits) many in
          subst (λ (m : ℕ). AreOver (old + m) (at_most_clauses old p lits)) (sym vars)
          (elim (cases_eq p 0) [
            | inl none ↦
                (let n = old + (length lits - 1) * p in
                subst (AreOver n) (sym (at_most-denied old p lits many none))
                (All-map (All (IsLitOf n)) (λ (l : Lit). negated l ∷ []) lits
                (All-weaker (IsLitOf old) (λ (l : Lit). All (IsLitOf n) (negated l ∷ []))
                (λ l h. All-cons (IsLitOf n) (negated l) [] (negated-within n l (lit-more old n l (omega arith) h)) (All-nil (IsLitOf n))) lits exist)))
            | inr some ↦
                (let pos : 1 ≤ p = omega arith in
                subst (AreOver (old + (length lits - 1) * p)) (sym (at_most-counted old p lits many pos)) (counter-over old p lits pos many exist))
          ]))
    ]
