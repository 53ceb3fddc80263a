-- How many things lists have: one whose things go to different things of another is no longer than that, and lists of
-- numbers below a limit can be listed where it can be told which of them are meant.
use Rattle.std.proofs.Common.{◌≡◌, ℕ, zero, suc, ◌<◌, ◌≤◌, List, [], ◌∷◌, ◌++◌, map, length, get_or, All, AllPairs, Contains, refl, sym, ap, ◌∙◌, subst, inl, inr, ◌⊎◌, arith}
use Rattle.std.proofs.lemmas.Bool.{cases_lt}
use Rattle.std.proofs.lemmas.List.{get_or_default, get_or-map, length-map}
use Rattle.std.proofs.lemmas.List.Kept.{AllPairs-cons}
use Rattle.std.proofs.lemmas.List.Elements.{All-append, All-contains, All-cons, All-head, All-tail, Contains-append_left, Contains-append_right, Contains-append_cases, Contains-get_or}
use Rattle.pattern_match.specs.Listing.{Lists}
use Rattle.saturation.proofs.AskSteps.{all_from, cases_in, here_in, later_in}
use Rattle.saturation.proofs.Mapped.{some_at, contains_map, contains_map_back}

-- ---- as long at most

-- the list without the thing at the place
abbrev without : {X : Type 0} → ℕ → List X → List X
without k [] = []
without zero (x ∷ xs) = xs
without (suc k) (x ∷ xs) = x ∷ without k xs

length-without : {X : Type 0} (k : ℕ) (xs : List X) → k < length xs → suc (length (without k xs)) ≡ length xs
length-without k [] l = absurd (omega arith)
length-without zero (x ∷ xs) l = refl
length-without (suc k) (x ∷ xs) l = let e = length-without k xs (omega (arith, l)) in omega (arith, e)

in_without : {X : Type 0} (k : ℕ) (xs : List X) (y : X) (n : ℕ) → n < length xs → get_or xs n y ≡ y → (n ≡ k → ⊥) → Contains (without k xs) y
in_without k [] y n l e other = absurd (omega arith)
in_without zero (x ∷ xs) y zero l e other = absurd (other refl)
in_without zero (x ∷ xs) y (suc n) l e other = (n, omega (arith, l), e)
in_without (suc k) (x ∷ xs) y zero l e other = (0, omega arith, e)
in_without (suc k) (x ∷ xs) y (suc n) l e other = later_in x y (without k xs) (in_without k xs y n (omega (arith, l)) e (λ q. other (ap suc q)))

pub no_longer :
    {X Y : Type 0} (R : X → Y → Type 0) (xs : List X) (ys : List Y) →
    ((x : X) → Contains xs x → (y : Y) × Contains ys y × R x y) →
    AllPairs (λ x z. (y : Y) → R x y → R z y → ⊥) xs →
    length xs ≤ length ys
no_longer R [] ys to apart = omega arith
no_longer {X} {Y} R (x ∷ xs) ys to apart =
    let a = to x (here_in x xs) in
    let rest = no_longer R xs (without a.1.0 ys)
    (λ z m. let b = to z (later_in x z xs m) in (b.0, in_without a.1.0 ys b.0 b.1.0 b.1.1 b.1.2 (other z m), b.2))
    (λ i j d l k. apart (suc i) (suc j) d (omega (arith, l)) (omega (arith, k))) in
    let one = length-without a.1.0 ys a.1.1 in
    omega (arith, rest, one)
  where
    other : (z : X) (m : Contains xs z) → (to z (later_in x z xs m)).1.0 ≡ (to x (here_in x xs)).1.0 → ⊥
    other z m e =
        let a = to x (here_in x xs) in
        let b = to z (later_in x z xs m) in
        let is : a.0 ≡ b.0 = sym a.1.2 ∙ get_or_default ys a.1.0 a.0 b.0 a.1.1 ∙ ap (λ k. get_or ys k b.0) (sym e) ∙ b.1.2 in
        let l = m.1 in
        apart 0 (suc m.0) z (omega arith) (omega (arith, l)) b.0 (subst (R x) is a.2) (subst (λ w. R w b.0) (sym m.2) b.2)

-- ---- lists of all that have something

pub lists_same : {X : Type 0} (P Q : X → Type 0) (xs : List X) → ((x : X) → P x → Q x) → ((x : X) → Q x → P x) → Lists P xs → Lists Q xs
lists_same P Q xs there back h = record { each = λ k d l. there (get_or xs k d) (h.each k d l); all = λ x q. h.all x (back x q); once = h.once }

lists_none : {X : Type 0} (P : X → Type 0) → ((x : X) → P x → ⊥) → Lists P []
lists_none P none = record { each = λ k d l. absurd (omega (arith, l)); all = λ x p. absurd (none x p); once = λ i j d a l. absurd (omega (arith, l)) }

lists_one : {X : Type 0} (P : X → Type 0) (x : X) → P x → ((y : X) → P y → x ≡ y) → Lists P (x ∷ [])
lists_one P x p one = record {
  each = all_from P (x ∷ []) (λ y m. elim (cases_in x y [] m) [ inl e ↦ subst P e p | inr n ↦ absurd (let b = n.1 in omega (arith, b)) ]);
  all = λ y q. (0, omega arith, one y q);
  once = λ i j d a l. absurd (omega (arith, a, l));
}

pairs_append : {X : Type 0} (R : X → X → Type 0) (xs ys : List X) → AllPairs R xs → AllPairs R ys → ((x y : X) → Contains xs x → Contains ys y → R x y) → AllPairs R (xs ++ ys)
pairs_append R [] ys p q r = q
pairs_append R (x ∷ xs) ys p q r =
    AllPairs-cons R x (xs ++ ys)
    (All-append (R x) xs ys (λ k d l. p 0 (suc k) d (omega arith) (omega (arith, l))) (λ k d l. r x (get_or ys k d) (here_in x xs) (Contains-get_or ys k d l)))
    (pairs_append R xs ys (λ i j d a b. p (suc i) (suc j) d (omega (arith, a)) (omega (arith, b))) q (λ a b h k. r a b (later_in x a xs h) k))

lists_both : {X : Type 0} (P Q : X → Type 0) (xs ys : List X) → ((x : X) → P x → Q x → ⊥) → Lists P xs → Lists Q ys → Lists (λ x. P x ⊎ Q x) (xs ++ ys)
lists_both P Q xs ys never h k = record {
  each = all_from (λ x. P x ⊎ Q x) (xs ++ ys) (λ x m. elim (Contains-append_cases xs ys x m) [ inl i ↦ inl (All-contains P xs x h.each i) | inr i ↦ inr (All-contains Q ys x k.each i) ]);
  all = λ x o. elim o [ inl p ↦ Contains-append_left xs ys x (h.all x p) | inr q ↦ Contains-append_right xs ys x (k.all x q) ];
  once = pairs_append (λ x y. ¬ (x ≡ y)) xs ys h.once k.once (λ x y a b e. never x (All-contains P xs x h.each a) (subst Q (sym e) (All-contains Q ys y k.each b)));
}

lists_mapped : {X Y : Type 0} (P : X → Type 0) (f : X → Y) (xs : List X) → ((x z : X) → f x ≡ f z → x ≡ z) → Lists P xs → Lists (λ y. (x : X) × P x × (y ≡ f x)) (map f xs)
lists_mapped {X} {Y} P f xs back h = record {
  each = all_from (λ y. (x : X) × P x × (y ≡ f x)) (map f xs) (λ y m. let k = contains_map_back f xs y m in (k.0, All-contains P xs k.0 h.each k.1, k.2));
  all = λ y k. subst (Contains (map f xs)) (sym k.2) (contains_map f xs k.0 (h.all k.0 k.1));
  once = λ i j d a l e.
      let m : j < length xs = omega (arith, l, length-map xs f) in
      let q = (some_at xs j m).0 in
      h.once i j q a m (back (get_or xs i q) (get_or xs j q) (sym (get_or-map f xs i q d (omega (arith, a, m))) ∙ e ∙ get_or-map f xs j q d m));
}

-- ---- lists of so many numbers

-- k numbers below m with P
abbrev pub BelowWith : ℕ → ℕ → (List ℕ → Type 0) → List ℕ → Type 0
BelowWith m k P xs = (length xs ≡ k) × All (λ x. x < m) xs × P xs

-- the first of them is below n
abbrev BeginsBelow : ℕ → ℕ → (List ℕ → Type 0) → ℕ → List ℕ → Type 0
BeginsBelow m k P n xs = (x : ℕ) × (ys : List ℕ) × (x < n) × BelowWith m k (λ zs. P (x ∷ zs)) ys × (xs ≡ x ∷ ys)

abbrev BeginsWith : ℕ → ℕ → (List ℕ → Type 0) → ℕ → List ℕ → Type 0
BeginsWith m k P x xs = (ys : List ℕ) × BelowWith m k (λ zs. P (x ∷ zs)) ys × (xs ≡ x ∷ ys)

tails_same : (n : ℕ) (xs ys : List ℕ) → n ∷ xs ≡ n ∷ ys → xs ≡ ys
tails_same n xs ys e = ap rest e
  where
    rest : List ℕ → List ℕ
    rest [] = []
    rest (z ∷ zs) = zs

nil_of : (xs : List ℕ) → length xs ≡ 0 → [] ≡ xs
nil_of [] e = refl
nil_of (x ∷ xs) e = absurd (omega (arith, e))

begin : (m k : ℕ) (P : List ℕ → Type 0) → ((x : ℕ) → (list : List (List ℕ)) × Lists (BelowWith m k (λ ys. P (x ∷ ys))) list) → (n : ℕ) → (list : List (List ℕ)) × Lists (BeginsBelow m k P n) list
begin m k P inner zero = ([], lists_none (BeginsBelow m k P zero) (λ xs h. let l = h.2 in omega (arith, l)))
begin m k P inner (suc n) =
    let before = begin m k P inner n in
    let here = inner n in
    let heads = map (λ ys. n ∷ ys) here.0 in (
      before.0 ++ heads,
      lists_same (λ xs. BeginsBelow m k P n xs ⊎ BeginsWith m k P n xs) (BeginsBelow m k P (suc n)) (before.0 ++ heads)
          (λ xs o. elim o [ inl b ↦ (b.0, b.1, (let l = b.2 in omega (arith, l)), b.3, b.4) | inr q ↦ (n, q.0, omega arith, q.1, q.2) ])
          (λ xs b. elim (cases_lt b.0 n) [
            | inl l ↦ inl (b.0, b.1, l, b.3, b.4)
            | inr l ↦ (let u = b.2 in let e : b.0 ≡ n = omega (arith, l, u) in inr (subst (λ x. BeginsWith m k P x xs) e (b.1, b.3, b.4)))
          ])
          (lists_both (BeginsBelow m k P n) (BeginsWith m k P n) before.0 heads
          (λ xs b q. let l = b.2 in let e : b.0 ≡ n = ap (λ zs. get_or zs 0 0) (sym b.4 ∙ q.2) in omega (arith, l, e))
          before.1
          (lists_mapped (BelowWith m k (λ ys. P (n ∷ ys))) (λ ys. n ∷ ys) here.0 (tails_same n) here.1)),
    )

pub listed : (m k : ℕ) (P : List ℕ → Type 0) → ((xs : List ℕ) → P xs ⊎ (¬ P xs)) → (list : List (List ℕ)) × Lists (BelowWith m k P) list
listed m zero P tell =
    elim (tell []) [
      | inl p ↦ ([] ∷ [], lists_one (BelowWith m 0 P) [] (refl, (λ i d l. absurd (omega (arith, l))), p) (λ ys h. nil_of ys h.0))
      | inr n ↦ ([], lists_none (BelowWith m 0 P) (λ xs h. n (subst P (sym (nil_of xs h.0)) h.2)))
    ]
listed m (suc k) P tell =
    let all = begin m k P (λ x. listed m k (λ ys. P (x ∷ ys)) (λ ys. tell (x ∷ ys))) m in
    (all.0, lists_same (BeginsBelow m k P m) (BelowWith m (suc k) P) all.0 there back all.1)
  where
    there : (xs : List ℕ) → BeginsBelow m k P m xs → BelowWith m (suc k) P xs
    there xs b = subst (BelowWith m (suc k) P) (sym b.4) (ap suc b.3.0, All-cons (λ x. x < m) b.0 b.1 b.2 b.3.1, b.3.2)

    back : (xs : List ℕ) → BelowWith m (suc k) P xs → BeginsBelow m k P m xs
    back [] h = absurd (let e = h.0 in omega (arith, e))
    back (x ∷ ys) h = (x, ys, All-head (λ z. z < m) x ys h.1, ((let e = h.0 in omega (arith, e)), All-tail (λ z. z < m) x ys h.1, h.2), refl)
