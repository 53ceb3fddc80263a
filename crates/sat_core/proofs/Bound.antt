-- There are fewer than 3 ^ n fresh lemmas over n variables: each has its own number.
use Rattle.std.proofs.Common.{◌≡◌, ◌≢◌, ℕ, ◌+◌, ◌*◌, ◌^◌, ◌<◌, ◌≤◌, Bool, true, false, not, eqb, List, [], ◌∷◌, ◌++◌, length, map, take, get_or, refl, sym, ap, ◌∙◌, subst, arith, inl, inr, suc, zero, Option, Some, None}
use Rattle.std.specs.List.{All, AllPairs, Contains, IsDistinct, list_any}
use Rattle.std.proofs.lemmas.Bool.{cases_eq, ne_eqb, eq-eqb, eqb-true, cases_Bool, cond-true, cond-false, or_cases, false≢true}
use Rattle.std.proofs.lemmas.List.{length-map, get_or-map, get_or-take, get_or_default, length-take}
use Rattle.std.proofs.lemmas.List.Elements.{All-contains, recursion_from_All, Contains-append_right}
use Rattle.std.proofs.lemmas.Map.Steps.{length-le_from_distinct_below}
use Rattle.cnf_core.specs.declared.literal.Lit.{Lit}
use Rattle.cnf_core.specs.Formula.{IsLitOf}
use Rattle.cnf_core.specs.Values.{partial_of, IsFalse, IsHeld, IsOpenClause}
use Rattle.cnf_core.specs.Refutation.{HaveDifferentVars, IsFresh}
use Rattle.sat_core.proofs.Holding.{none≢some}

-- each lemma is fresh for the clauses and the lemmas before it, and of the variables 1 to n
abbrev pub AreFresh : ℕ → List (List Lit) → List (List Lit) → Type 0
AreFresh n clauses lemmas =
    (k : ℕ) (d : List Lit) → k < length lemmas
    → IsFresh (clauses ++ take k lemmas) (get_or lemmas k d) × All (IsLitOf n) (get_or lemmas k d)

-- how a lemma has a variable: not, positive or negated
digit : Option Bool → ℕ
digit None = 0
digit (Some true) = 1
digit (Some false) = 2

digit-few : (o : Option Bool) → digit o < 3
unfolding digit
digit-few None = omega arith
digit-few (Some true) = omega arith
digit-few (Some false) = omega arith

digit-same : (a b : Option Bool) → digit a ≡ digit b → a ≡ b
unfolding digit
digit-same None None e = refl
digit-same None (Some true) e = absurd (omega arith)
digit-same None (Some false) e = absurd (omega arith)
digit-same (Some true) None e = absurd (omega arith)
digit-same (Some true) (Some true) e = refl
digit-same (Some true) (Some false) e = absurd (omega arith)
digit-same (Some false) None e = absurd (omega arith)
digit-same (Some false) (Some true) e = absurd (omega arith)
digit-same (Some false) (Some false) e = refl

-- the number of a lemma over the variables 1 to n
code : ℕ → List Lit → ℕ
code zero c = 0
code (suc n) c = 3 * code n c + digit (partial_of c (n + 1))

code-few : (n : ℕ) (c : List Lit) → code n c < 3 ^ n
unfolding code
code-few zero c = omega arith
code-few (suc n) c =
    let d = digit-few (partial_of c (n + 1)) in
    let before = code-few n c in
    let e : 3 ^ suc n ≡ 3 * 3 ^ n = grind arith in
    omega arith

code-same : (n : ℕ) (a b : List Lit) → code n a ≡ code n b → (x : ℕ) → 1 ≤ x → x ≤ n → partial_of a x ≡ partial_of b x
unfolding code
code-same zero a b e x low high = absurd (omega arith)
code-same (suc n) a b e x low high =
    let da = digit-few (partial_of a (n + 1)) in
    let db = digit-few (partial_of b (n + 1)) in
    let digits : digit (partial_of a (n + 1)) ≡ digit (partial_of b (n + 1)) = omega arith in
    let rest : code n a ≡ code n b = omega arith in
    elim (cases_eq x (n + 1)) [
      | inl same ↦ subst (λ (y : ℕ). partial_of a y ≡ partial_of b y) (sym same) (digit-same (partial_of a (n + 1)) (partial_of b (n + 1)) digits)
      | inr other ↦ code-same n a b rest x low (omega arith)
    ]

-- a member of a clause of different variables has its value there
member-value : (c : List Lit) (k : ℕ) (d : Lit) → HaveDifferentVars c → k < length c → partial_of c (get_or c k d).var ≡ Some (get_or c k d).positive
member-value [] k d apart few = absurd (omega arith)
member-value (l ∷ ls) zero d apart few = cond-true (eqb l.var l.var) (Some l.positive) (partial_of ls l.var) (eq-eqb l.var l.var refl)
member-value (l ∷ ls) (suc k) d apart few =
    let m = get_or ls k d in
    let other : l.var ≡ m.var → ⊥ = apart 0 (suc k) d (omega arith) few in
    cond-false (eqb l.var m.var) (Some l.positive) (partial_of ls m.var) (ne_eqb l.var m.var other)
    ∙ member-value ls k d (λ i j e less few'. apart (suc i) (suc j) e (omega arith) (omega arith)) (omega arith)

contains-value : (c : List Lit) (l : Lit) → HaveDifferentVars c → Contains c l → partial_of c l.var ≡ Some l.positive
contains-value c l apart there =
    subst (λ (m : Lit). partial_of c m.var ≡ Some m.positive) there.2 (member-value c there.0 l apart there.1)

lit-same : (m l : Lit) → m.var ≡ l.var → m.positive ≡ l.positive → m ≡ l
lit-same m l v b =
    ap (λ (x : ℕ). let k : Lit = record { var = x; positive = m.positive } in k) v
    ∙ ap (λ (y : Bool). let k : Lit = record { var = l.var; positive = y } in k) b

-- and a variable with a value has a literal
value-member : (c : List Lit) (l : Lit) → partial_of c l.var ≡ Some l.positive → Contains c l
value-member [] l e = absurd (none≢some e)
value-member (m ∷ ms) l e =
    elim (cases_Bool (eqb m.var l.var)) [
      | inl same ↦
          (let p : Some m.positive ≡ Some l.positive = sym (cond-true (eqb m.var l.var) (Some m.positive) (partial_of ms l.var) same) ∙ e in
          let v = eqb-true m.var l.var same in
          let b : m.positive ≡ l.positive = cc in
          let is : m ≡ l = lit-same m l v b in
          (0, (omega arith), is))
      | inr other ↦
          (let (k, few, at) = value-member ms l (sym (cond-false (eqb m.var l.var) (Some m.positive) (partial_of ms l.var) other) ∙ e) in
          (suc k, (omega arith), at))
    ]

-- a fresh lemma has another number than each earlier clause of different variables
fresh-other : (n : ℕ) (clauses : List (List Lit)) (c lemma : List Lit) → IsFresh clauses lemma → Contains clauses c → HaveDifferentVars c → All (IsLitOf n) c → code n c ≡ code n lemma → ⊥
fresh-other n clauses c lemma fresh there apart exist same =
    let values = code-same n c lemma same in
    let s = fresh.values in
    let member : (l : Lit) → Contains c l → Contains lemma l = λ l in-c.
    (let at = All-contains (IsLitOf n) c l exist in-c in
    value-member lemma l (sym (values l.var at.above at.within) ∙ contains-value c l apart in-c)) in
    let false' : (l : Lit) → Contains c l → (l ≢ fresh.last) → IsFalse s l = λ l in-c other.
    All-contains (λ m. (m ≢ fresh.last) → IsFalse s m) lemma l fresh.others (member l in-c) other in
    elim (All-contains (IsOpenClause s) clauses c fresh.closed there) [
      | inl one ↦
          (let (l, in-c, trail_values) = one in
          let not_last : l ≢ fresh.last = λ e. fresh.open' (subst (IsHeld s) e trail_values) in
          opposite l.positive (sym trail_values ∙ false' l in-c not_last))
      | inr two ↦
          (let (l, m, in-l, in-m, differ, free-l, free-m) = two in
          let l-last : (l ≢ fresh.last) → ⊥ = λ ne. none≢some (sym free-l ∙ false' l in-l ne) in
          let m-last : (m ≢ fresh.last) → ⊥ = λ ne. none≢some (sym free-m ∙ false' m in-m ne) in
          l-last (λ l-is. m-last (λ m-is. differ (l-is ∙ sym m-is))))
    ]
  where
    opposite : (b : Bool) → Some b ≡ Some (not b) → ⊥
    opposite true e = cc
    opposite false e = cc

-- and it isn't 0
fresh-some : (n : ℕ) (clauses : List (List Lit)) (lemma : List Lit) → IsFresh clauses lemma → All (IsLitOf n) lemma → code n lemma ≡ code n [] → ⊥
fresh-some n clauses lemma fresh exist same =
    let l = fresh.last in
    let at = All-contains (IsLitOf n) lemma l exist fresh.among in
    none≢some (sym (code-same n lemma [] same l.var at.above at.within) ∙ contains-value lemma l fresh.differ fresh.among)

-- numbers of which no two are equal
distinct-from_pairs : (xs : List ℕ) → AllPairs (λ (a b : ℕ). a ≡ b → ⊥) xs → IsDistinct eqb xs
unfolding IsDistinct
distinct-from_pairs [] p = tt
distinct-from_pairs (x ∷ xs) p = (
  recursion_from_All (λ y. eqb x y ≡ false) xs (λ k d few. ne_eqb x (get_or xs k d) (p 0 (suc k) d (omega arith) (omega arith))),
  distinct-from_pairs xs (λ i j d l k. p (suc i) (suc j) d (omega arith) (omega arith)),
)

-- the numbers of the empty lemma and of fresh ones are different
fresh-pairs : (n : ℕ) (clauses lemmas : List (List Lit)) → AreFresh n clauses lemmas → AllPairs (λ (a b : ℕ). a ≡ b → ⊥) (code n [] ∷ map (code n) lemmas)
fresh-pairs n clauses lemmas fresh i zero d l k = absurd (omega arith)
fresh-pairs n clauses lemmas fresh zero (suc j) d l k =
    let few : j < length lemmas = omega (arith, length-map lemmas (code n)) in
    let f = fresh j [] few in
    λ same. fresh-some n (clauses ++ take j lemmas) (get_or lemmas j []) f.0 f.1 (sym (same ∙ get_or-map (code n) lemmas j [] d few))
fresh-pairs n clauses lemmas fresh (suc i) (suc j) d l k =
    let few : j < length lemmas = omega (arith, length-map lemmas (code n)) in
    let few' : i < length lemmas = omega arith in
    let f = fresh j [] few in
    let g = fresh i [] few' in
    let short : i < length (take j lemmas) = (let e = length-take j lemmas in omega arith) in
    let there : Contains (clauses ++ take j lemmas) (get_or lemmas i []) =
    Contains-append_right clauses (take j lemmas) (get_or lemmas i [])
    (i, short, get_or-take j lemmas i (get_or lemmas i []) (omega arith) ∙ get_or_default lemmas i (get_or lemmas i []) [] few') in
    λ same. fresh-other n (clauses ++ take j lemmas) (get_or lemmas i []) (get_or lemmas j []) f.0 there g.0.differ g.1
    (sym (get_or-map (code n) lemmas i [] d few') ∙ same ∙ get_or-map (code n) lemmas j [] d few)

codes-few : (n : ℕ) (ls : List (List Lit)) (q : ℕ) → list_any (eqb q) (map (code n) ls) ≡ true → q < 3 ^ n
codes-few n [] q e = absurd (false≢true e)
codes-few n (c ∷ cs) q e =
    elim (or_cases (eqb q (code n c)) (list_any (eqb q) (map (code n) cs)) e) [
      | inl here ↦ (let is = eqb-true q (code n c) here in let few = code-few n c in omega arith)
      | inr rest ↦ codes-few n cs q rest
    ]

-- **there are fewer than 3 ^ n fresh lemmas over n variables**
pub fresh-few : (n : ℕ) (clauses lemmas : List (List Lit)) → AreFresh n clauses lemmas → length lemmas < 3 ^ n
fresh-few n clauses lemmas fresh =
    let bound = length-le_from_distinct_below (map (code n) ([] ∷ lemmas)) (3 ^ n) (distinct-from_pairs (map (code n) ([] ∷ lemmas)) (fresh-pairs n clauses lemmas fresh)) (codes-few n ([] ∷ lemmas)) in
    omega (arith, length-map lemmas (code n))
