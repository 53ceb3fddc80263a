-- Steps of the calls that find what a round asks for.
use Rattle.std.proofs.Common.{◌≡◌, ℕ, zero, suc, ◌+◌, ◌*◌, List, [], ◌∷◌, ◌++◌, length, get_or, Contains, All, refl, sym, ap, ◌∙◌, subst, inl, inr, ◌⊎◌, arith}
use Rattle.std.specs.List.{AllZip}
use Rattle.std.proofs.lemmas.List.Elements.{Contains-append_left, Contains-append_right, Contains-append_cases, Contains-get_or, All-contains}
use Rattle.word_ops.specs.declared.sorts.Op.{Op}
use Rattle.word_terms.specs.Tree.{Tree, operands_of}
use Rattle.axiom_base.specs.Rewrites.{Rewrite}
use Rattle.word_terms.specs.OperatorsIn.{operators_in, operators_in_all}
use Rattle.axiom_base.specs.Schemes.{Scheme, IsOf, weight}
use Rattle.egraph.specs.Graph.{Graph}
use Rattle.pattern_match.specs.Listing.{Lists}
use Rattle.pattern_match.specs.Matches.{IsUnmetOf, IsNeed, AreNeeds, no_need, one_need}
use Rattle.saturation.specs.Trace.{Asked, operators_asked}
use Rattle.saturation.specs.Asking.{IsAskedOf, AreAsked}

-- ---- lists

pub all_from : {X : Type 0} (P : X → Type 0) (xs : List X) → ((x : X) → Contains xs x → P x) → All P xs
all_from P xs f = λ n d l. f (get_or xs n d) (Contains-get_or xs n d l)

pub here_in : {X : Type 0} (x : X) (xs : List X) → Contains (x ∷ xs) x
here_in x xs = (0, omega arith, refl)

pub later_in : {X : Type 0} (x y : X) (xs : List X) → Contains xs y → Contains (x ∷ xs) y
later_in x y xs h = (suc h.0, omega (arith, h.1), h.2)

pub cases_in : {X : Type 0} (x y : X) (xs : List X) → Contains (x ∷ xs) y → (x ≡ y) ⊎ Contains xs y
cases_in x y xs (zero, l, e) = inl e
cases_in x y xs (suc n, l, e) = inr (n, omega (arith, l), e)

none_in : {X : Type 0} (y : X) → Contains [] y → ⊥
none_in y h = omega (arith, h.1)

only_in : {X : Type 0} (x y : X) → Contains (x ∷ []) y → x ≡ y
only_in x y h = elim (cases_in x y [] h) [ inl e ↦ e | inr k ↦ absurd (none_in y k) ]

module _ {A B : Type 0} (R : A → B → Type 0) where
  pub zip_push : (xs : List A) (ys : List B) (x : A) (y : B) → AllZip R xs ys → R x y → AllZip R (xs ++ x ∷ []) (ys ++ y ∷ [])
  zip_push [] [] x y h r = (r, tt)
  zip_push [] (b ∷ ys) x y h r = absurd h
  zip_push (a ∷ xs) [] x y h r = absurd h
  zip_push (a ∷ xs) (b ∷ ys) x y h r = (h.0, zip_push xs ys x y h.1 r)

  pub zip_right : (xs : List A) (ys : List B) (x : A) → AllZip R xs ys → Contains xs x → (y : B) × Contains ys y × R x y
  zip_right [] ys x h k = absurd (none_in x k)
  zip_right (a ∷ xs) [] x h k = absurd h
  zip_right (a ∷ xs) (b ∷ ys) x h k = elim (cases_in a x xs k) [
    | inl e ↦ (b, here_in b ys, subst (λ z. R z b) e h.0)
    | inr m ↦ (let n = zip_right xs ys x h.1 m in (n.0, later_in b n.0 ys n.1, n.2))
  ]

  pub zip_left : (xs : List A) (ys : List B) (y : B) → AllZip R xs ys → Contains ys y → (x : A) × Contains xs x × R x y
  zip_left [] [] y h k = absurd (none_in y k)
  zip_left [] (b ∷ ys) y h k = absurd h
  zip_left (a ∷ xs) [] y h k = absurd h
  zip_left (a ∷ xs) (b ∷ ys) y h k = elim (cases_in b y ys k) [
    | inl e ↦ (a, here_in a xs, subst (λ z. R a z) e h.0)
    | inr m ↦ (let n = zip_left xs ys y h.1 m in (n.0, later_in a n.0 xs n.1, n.2))
  ]

-- ---- what is asked for by several schemes

pub operators_append : (xs ys : List Asked) → operators_asked (xs ++ ys) ≡ operators_asked xs + operators_asked ys
operators_append [] ys = omega arith
operators_append (x ∷ xs) ys = let e = operators_append xs ys in omega (arith, e)

pub needs_append : {g : Graph Op} {ss ts : List Scheme} {m n : ℕ} → AreNeeds g ss m → AreNeeds g ts n → AreNeeds g (ss ++ ts) (m + n)
needs_append {g} {ts = ts} {n = n} no_need k = let e : n ≡ 0 + n = omega arith in subst (AreNeeds g ts) e k
needs_append {g} {ts = ts} {n = n} (one_need {s} {ss} {m = a} {n = b} h t) k =
    let e : a + (b + n) ≡ a + b + n = omega arith in
    subst (AreNeeds g (s ∷ (ss ++ ts))) e (one_need h (needs_append t k))

pub nothing_asked : (g : Graph Op) → AreAsked g [] []
nothing_asked g = record {
  each = λ n d l. absurd (omega (arith, l));
  all = λ s places h u. absurd (none_in s h);
  needs = no_need;
}

abbrev IsOfOne : Graph Op → List Scheme → Asked → Type 0
IsOfOne g ss a = (s : Scheme) × Contains ss s × ((places : List ℕ) × IsAskedOf g s places a)

pub both_asked : (g : Graph Op) (ss ts : List Scheme) (xs ys : List Asked) → AreAsked g ss xs → AreAsked g ts ys → AreAsked g (ss ++ ts) (xs ++ ys)
both_asked g ss ts xs ys h k = record {
  each = all_from (IsOfOne g (ss ++ ts)) (xs ++ ys) (λ a m. elim (Contains-append_cases xs ys a m) [
    | inl i ↦ (let q = All-contains (IsOfOne g ss) xs a h.each i in (q.0, Contains-append_left ss ts q.0 q.1, q.2))
    | inr i ↦ (let q = All-contains (IsOfOne g ts) ys a k.each i in (q.0, Contains-append_right ss ts q.0 q.1, q.2))
  ]);
  all = λ s places m u. elim (Contains-append_cases ss ts s m) [
    | inl i ↦ (let q = h.all s places i u in (q.0, Contains-append_left xs ys q.0 q.1, q.2))
    | inr i ↦ (let q = k.all s places i u in (q.0, Contains-append_right xs ys q.0 q.1, q.2))
  ];
  needs = subst (AreNeeds g (ss ++ ts)) (sym (operators_append xs ys)) (needs_append h.needs k.needs);
}

-- ---- what is asked for by one scheme

abbrev pub HaveWeights : Type 0
HaveWeights = (scheme : Scheme) (r : Rewrite) → IsOf scheme r → operators_in r.right ≡ weight scheme

module _ (weights : HaveWeights) (g : Graph Op) (s : Scheme) where
  zip_operators : (ps : List (List ℕ)) (asked : List Asked) → AllZip (IsAskedOf g s) ps asked → operators_asked asked ≡ length ps * weight s
  zip_operators [] [] h = omega arith
  zip_operators [] (a ∷ asked) h = absurd h
  zip_operators (p ∷ ps) [] h = absurd h
  zip_operators (p ∷ ps) (a ∷ asked) h =
      let e = zip_operators ps asked h.1 in
      let w : operators_in a.right ≡ weight s = ap operators_in h.0.asks.right ∙ weights s h.0.rule h.0.of in
      let k : suc (length ps) * weight s ≡ weight s + length ps * weight s = omega arith in
      omega (arith, e, w, k)

  pub scheme_asked : (ps : List (List ℕ)) (asked : List Asked) → Lists (IsUnmetOf g s) ps → AllZip (IsAskedOf g s) ps asked → AreAsked g (s ∷ []) asked
  scheme_asked ps asked lists h = record {
    each = all_from (IsOfOne g (s ∷ [])) asked (λ a m. let k = zip_left (IsAskedOf g s) ps asked a h m in (s, here_in s [], (k.0, k.2)));
    all = λ t places m u.
        let e = only_in s t m in
        let k = zip_right (IsAskedOf g s) ps asked places h (lists.all places (subst (λ x. IsUnmetOf g x places) (sym e) u)) in
        (k.0, k.1, subst (λ x. IsAskedOf g x places k.0) e k.2);
    needs =
        let one : IsNeed g s (length ps * weight s) = record { matches = length ps; count = record { list = ps; lists = lists; length_is = refl }; is = refl } in
        let z : length ps * weight s + 0 ≡ operators_asked asked = let e = zip_operators ps asked h in omega (arith, e) in
        subst (AreNeeds g (s ∷ [])) z (one_need one no_need);
  }

-- ---- numbers of operators

pub operators_more : (ts : List (Tree Op)) (p : Tree Op) → operators_in_all (operands_of (ts ++ p ∷ [])) ≡ operators_in_all (operands_of ts) + operators_in p
operators_more [] p = omega arith
operators_more (t ∷ ts) p = let e = operators_more ts p in omega (arith, e)
