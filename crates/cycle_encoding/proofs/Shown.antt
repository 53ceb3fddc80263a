-- What clauses say, by the things whose variables are true.
use Rattle.std.proofs.Common.{◌≡◌, ℕ, ◌+◌, Bool, true, false, not, cond, List, [], ◌∷◌, ◌++◌, map, refl, sym, ap, ◌∙◌, subst, arith, inl, inr}
use Rattle.std.specs.Prelude.{◌||◌}
use Rattle.std.specs.List.{All, filter, flat_map, list_any, count_by}
use Rattle.std.proofs.lemmas.Bool.{false≢true, cases_Bool}
use Rattle.std.proofs.lemmas.List.Sums.{sum_by-cons}
use Rattle.std.proofs.lemmas.List.Elements.{All-append, All-head, All-tail, All-cons, All-nil}
use Rattle.cnf_core.specs.declared.literal.Lit.{Lit}
use Rattle.cnf_core.specs.Formula.{lit_true, clause_true, Satisfies}
use Rattle.cnf_core.specs.Counter.{count_true}
use Rattle.cycle_encoding.specs.Shapes.{numbered, positive, negative, vars_of, shown, implied, when}

-- ---- parts of a list of clauses

pub both : (v : ℕ → Bool) (xs ys : List (List Lit)) → Satisfies v xs → Satisfies v ys → Satisfies v (xs ++ ys)
both v xs ys p q = All-append (λ c. clause_true v c ≡ true) xs ys p q

pub left : (v : ℕ → Bool) (xs ys : List (List Lit)) → Satisfies v (xs ++ ys) → Satisfies v xs
left v [] ys h = All-nil (λ c. clause_true v c ≡ true)
left v (x ∷ xs) ys h = All-cons (λ c. clause_true v c ≡ true) x xs (All-head (λ c. clause_true v c ≡ true) x (xs ++ ys) h) (left v xs ys (All-tail (λ c. clause_true v c ≡ true) x (xs ++ ys) h))

pub right : (v : ℕ → Bool) (xs ys : List (List Lit)) → Satisfies v (xs ++ ys) → Satisfies v ys
right v [] ys h = h
right v (x ∷ xs) ys h = right v xs ys (All-tail (λ c. clause_true v c ≡ true) x (xs ++ ys) h)

pub none : (v : ℕ → Bool) → Satisfies v []
none v = All-nil (λ c. clause_true v c ≡ true)

pub first : (v : ℕ → Bool) (c : List Lit) (cs : List (List Lit)) → Satisfies v (c ∷ cs) → clause_true v c ≡ true
first v c cs h = All-head (λ c. clause_true v c ≡ true) c cs h

pub rest : (v : ℕ → Bool) (c : List Lit) (cs : List (List Lit)) → Satisfies v (c ∷ cs) → Satisfies v cs
rest v c cs h = All-tail (λ c. clause_true v c ≡ true) c cs h

pub add : (v : ℕ → Bool) (c : List Lit) (cs : List (List Lit)) → clause_true v c ≡ true → Satisfies v cs → Satisfies v (c ∷ cs)
add v c cs p q = All-cons (λ c. clause_true v c ≡ true) c cs p q

pub one : (v : ℕ → Bool) (c : List Lit) → clause_true v c ≡ true → Satisfies v (c ∷ [])
one v c p = add v c [] p (none v)

pub when-out : (v : ℕ → Bool) (b : Bool) (cs : List (List Lit)) → Satisfies v (when b cs) → b ≡ true → Satisfies v cs
when-out v true cs h e = h
when-out v false cs h e = absurd (false≢true e)

pub when-in : (v : ℕ → Bool) (b : Bool) (cs : List (List Lit)) → (b ≡ true → Satisfies v cs) → Satisfies v (when b cs)
when-in v true cs h = h refl
when-in v false cs h = none v

-- ---- literals of things

module _ {X : Type 0} (v : ℕ → Bool) (test : X → Bool) where
  any_step : (n : ℕ) (x : X) (ps qs : List (ℕ × X)) (a b : Bool) → test x ≡ a → v n ≡ b → clause_true v (map (λ p. positive p.0) ps) ≡ list_any test (map (λ p. p.1) qs) → clause_true v (map (λ p. positive p.0) (cond a ((n, x) ∷ ps) ps)) ≡ list_any test (map (λ p. p.1) (cond b ((n, x) ∷ qs) qs))
  any_step n x ps qs true true et ev ih = ap (λ c. c || clause_true v (map (λ p. positive p.0) ps)) ev ∙ sym (ap (λ c. c || list_any test (map (λ p. p.1) qs)) et)
  any_step n x ps qs true false et ev ih = ap (λ c. c || clause_true v (map (λ p. positive p.0) ps)) ev ∙ ih
  any_step n x ps qs false true et ev ih = ih ∙ sym (ap (λ c. c || list_any test (map (λ p. p.1) qs)) et)
  any_step n x ps qs false false et ev ih = ih

  -- one of the variables is true exactly where a thing that is shown passes
  pub any_of : (ps : List (ℕ × X)) → clause_true v (vars_of test ps) ≡ list_any test (shown v ps)
  any_of [] = refl
  any_of (p ∷ ps) = any_step p.0 p.1 (filter (λ p. test p.1) ps) (filter (λ p. v p.0) ps) (test p.1) (v p.0) refl refl (any_of ps)

  one_if : Bool → ℕ
  one_if b = cond b 1 0

  count_step : (n : ℕ) (x : X) (ps qs : List (ℕ × X)) (a b : Bool) → test x ≡ a → v n ≡ b → count_true v (map (λ p. positive p.0) ps) ≡ count_by test (map (λ p. p.1) qs) → count_true v (map (λ p. positive p.0) (cond a ((n, x) ∷ ps) ps)) ≡ count_by test (map (λ p. p.1) (cond b ((n, x) ∷ qs) qs))
  count_step n x ps qs true true et ev ih =
      sum_by-cons (λ l. cond (lit_true v l) 1 0) (positive n) (map (λ p. positive p.0) ps)
      ∙ ap (λ c. cond c 1 0 + count_true v (map (λ p. positive p.0) ps)) ev
      ∙ ap (λ m. 1 + m) ih
      ∙ ap (λ c. cond c 1 0 + count_by test (map (λ p. p.1) qs)) (sym et)
      ∙ sym (sum_by-cons (λ x. cond (test x) 1 0) x (map (λ p. p.1) qs))
  count_step n x ps qs true false et ev ih =
      sum_by-cons (λ l. cond (lit_true v l) 1 0) (positive n) (map (λ p. positive p.0) ps)
      ∙ ap (λ c. cond c 1 0 + count_true v (map (λ p. positive p.0) ps)) ev
      ∙ (let z : 0 + count_true v (map (λ p. positive p.0) ps) ≡ count_true v (map (λ p. positive p.0) ps) = omega arith in z) ∙ ih
  count_step n x ps qs false true et ev ih =
      ih ∙ (let z : count_by test (map (λ p. p.1) qs) ≡ 0 + count_by test (map (λ p. p.1) qs) = omega arith in z)
      ∙ ap (λ c. cond c 1 0 + count_by test (map (λ p. p.1) qs)) (sym et)
      ∙ sym (sum_by-cons (λ x. cond (test x) 1 0) x (map (λ p. p.1) qs))
  count_step n x ps qs false false et ev ih = ih

  -- as many of the variables are true as things that are shown pass
  pub count_of : (ps : List (ℕ × X)) → count_true v (vars_of test ps) ≡ count_by test (shown v ps)
  count_of [] = refl
  count_of (p ∷ ps) = count_step p.0 p.1 (filter (λ p. test p.1) ps) (filter (λ p. v p.0) ps) (test p.1) (v p.0) refl refl (count_of ps)

-- ---- implied clauses

module _ (v : ℕ → Bool) (n : ℕ) where
  front-out : (cs : List (List Lit)) → v n ≡ true → Satisfies v (map (λ c. negative n ∷ c) cs) → Satisfies v cs
  front-out [] e h = none v
  front-out (c ∷ cs) e h =
      let p : (not (v n) || clause_true v c) ≡ true = first v (negative n ∷ c) (map (λ c. negative n ∷ c) cs) h in
      add v c cs (subst (λ b. (not b || clause_true v c) ≡ true) e p) (front-out cs e (rest v (negative n ∷ c) (map (λ c. negative n ∷ c) cs) h))

  front-in : (cs : List (List Lit)) → (v n ≡ true → Satisfies v cs) → Satisfies v (map (λ c. negative n ∷ c) cs)
  front-in [] h = none v
  front-in (c ∷ cs) h =
      let p : (not (v n) || clause_true v c) ≡ true = elim (cases_Bool (v n)) [
        | inl t ↦ subst (λ b. (not b || clause_true v c) ≡ true) (sym t) (first v c cs (h t))
        | inr f ↦ ap (λ b. not b || clause_true v c) f
      ] in
      add v (negative n ∷ c) (map (λ c. negative n ∷ c) cs) p (front-in cs (λ t. rest v c cs (h t)))

module _ {X : Type 0} (v : ℕ → Bool) (f : X → List (List Lit)) where
  abbrev Holds : X → Type 0
  Holds x = Satisfies v (f x)

  shown_step : (n : ℕ) (x : X) (qs : List (ℕ × X)) (b : Bool) → (b ≡ true → Holds x) → All Holds (map (λ p. p.1) qs) → All Holds (map (λ p. p.1) (cond b ((n, x) ∷ qs) qs))
  shown_step n x qs true h t = All-cons Holds x (map (λ p. p.1) qs) (h refl) t
  shown_step n x qs false h t = t

  shown_back : (n : ℕ) (x : X) (qs : List (ℕ × X)) (b : Bool) → All Holds (map (λ p. p.1) (cond b ((n, x) ∷ qs) qs)) → (b ≡ true → Holds x) × All Holds (map (λ p. p.1) qs)
  shown_back n x qs true h = ((λ e. All-head Holds x (map (λ p. p.1) qs) h), All-tail Holds x (map (λ p. p.1) qs) h)
  shown_back n x qs false h = ((λ e. absurd (false≢true e)), h)

  -- implied clauses hold exactly where those of each thing that is shown do
  pub implied-out : (ps : List (ℕ × X)) → Satisfies v (implied ps f) → All Holds (shown v ps)
  implied-out [] h = All-nil Holds
  implied-out (p ∷ ps) h =
      shown_step p.0 p.1 (filter (λ p. v p.0) ps) (v p.0)
      (λ e. front-out v p.0 (f p.1) e (left v (map (λ c. negative p.0 ∷ c) (f p.1)) (implied ps f) h))
      (implied-out ps (right v (map (λ c. negative p.0 ∷ c) (f p.1)) (implied ps f) h))

  pub implied-in : (ps : List (ℕ × X)) → All Holds (shown v ps) → Satisfies v (implied ps f)
  implied-in [] h = none v
  implied-in (p ∷ ps) h =
      let b = shown_back p.0 p.1 (filter (λ p. v p.0) ps) (v p.0) h in
      both v (map (λ c. negative p.0 ∷ c) (f p.1)) (implied ps f) (front-in v p.0 (f p.1) b.0) (implied-in ps b.1)

-- ---- clauses of each number or thing of a list

module _ {X : Type 0} (v : ℕ → Bool) (f : X → List Lit) where
  pub map-out : (xs : List X) → Satisfies v (map f xs) → All (λ x. clause_true v (f x) ≡ true) xs
  map-out [] h = All-nil (λ x. clause_true v (f x) ≡ true)
  map-out (x ∷ xs) h = All-cons (λ x. clause_true v (f x) ≡ true) x xs (first v (f x) (map f xs) h) (map-out xs (rest v (f x) (map f xs) h))

  pub map-in : (xs : List X) → All (λ x. clause_true v (f x) ≡ true) xs → Satisfies v (map f xs)
  map-in [] h = none v
  map-in (x ∷ xs) h = add v (f x) (map f xs) (All-head (λ x. clause_true v (f x) ≡ true) x xs h) (map-in xs (All-tail (λ x. clause_true v (f x) ≡ true) x xs h))

module _ {X : Type 0} (v : ℕ → Bool) (f : X → List (List Lit)) where
  pub flat-out : (xs : List X) → Satisfies v (flat_map f xs) → All (λ x. Satisfies v (f x)) xs
  flat-out [] h = All-nil (λ x. Satisfies v (f x))
  flat-out (x ∷ xs) h = All-cons (λ x. Satisfies v (f x)) x xs (left v (f x) (flat_map f xs) h) (flat-out xs (right v (f x) (flat_map f xs) h))

  pub flat-in : (xs : List X) → All (λ x. Satisfies v (f x)) xs → Satisfies v (flat_map f xs)
  flat-in [] h = none v
  flat-in (x ∷ xs) h = both v (f x) (flat_map f xs) (All-head (λ x. Satisfies v (f x)) x xs h) (flat-in xs (All-tail (λ x. Satisfies v (f x)) x xs h))

-- what holds of all things holds of those that are shown
module _ {X : Type 0} (v : ℕ → Bool) (P : X → Type 0) where
  among_step : (n : ℕ) (x : X) (qs : List (ℕ × X)) (b : Bool) → P x → All P (map (λ p. p.1) qs) → All P (map (λ p. p.1) (cond b ((n, x) ∷ qs) qs))
  among_step n x qs true h t = All-cons P x (map (λ p. p.1) qs) h t
  among_step n x qs false h t = t

  pub all_shown : (n : ℕ) (xs : List X) → All P xs → All P (shown v (numbered n xs))
  all_shown n [] h = All-nil P
  all_shown n (x ∷ xs) h = among_step (n + 1) x (filter (λ p. v p.0) (numbered (n + 1) xs)) (v (n + 1)) (All-head P x xs h) (all_shown (n + 1) xs (All-tail P x xs h))
