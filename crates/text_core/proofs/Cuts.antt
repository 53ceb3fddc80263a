-- Lists that are cut in two at one place.
use Rattle.std.proofs.Common.{◌≡◌, ℕ, ◌<◌, ◌≤◌, List, [], ◌∷◌, ◌++◌, length, length-append, refl, sym, ap, ◌∙◌, arith, true, false, Bool, ◌&&◌}
use Rattle.std.specs.List.{list_all}
use Rattle.std.proofs.lemmas.Bool.{true≢false}
use Rattle.text_core.specs.Pieces.{IsStopped}

pub both_true : (a b : Bool) → (a && b) ≡ true → (a ≡ true) × (b ≡ true)
both_true true b both = (refl, both)
both_true false b both = absurd (true≢false (sym both))

apart : (test : ℕ → Bool) (x y : ℕ) → x ≡ y → test x ≡ true → test y ≡ false → ⊥
apart test x y same passes stops = true≢false (sym passes ∙ ap test same ∙ stops)

-- what passes a test at the front of a list, as far as it goes, is one thing
pub run_once : (test : ℕ → Bool) (xs ys rest other : List ℕ) → list_all test xs ≡ true → IsStopped test rest → list_all test ys ≡ true → IsStopped test other → xs ++ rest ≡ ys ++ other → (xs ≡ ys) × (rest ≡ other)
run_once test [] [] rest other each stopped each' stopped' same = (refl, same)
run_once test [] (y ∷ ys) [] other each stopped each' stopped' same = cc
run_once test [] (y ∷ ys) (r ∷ rest) other each stopped each' stopped' same =
    let head : y ≡ r = cc in
    absurd (apart test y r head (both_true (test y) (list_all test ys) each').0 stopped)
run_once test (x ∷ xs) [] rest [] each stopped each' stopped' same = cc
run_once test (x ∷ xs) [] rest (o ∷ other) each stopped each' stopped' same =
    let head : x ≡ o = cc in
    absurd (apart test x o head (both_true (test x) (list_all test xs) each).0 stopped')
run_once test (x ∷ xs) (y ∷ ys) rest other each stopped each' stopped' same =
    let head : x ≡ y = cc in
    let tail : xs ++ rest ≡ ys ++ other = cc in
    let more = run_once test xs ys rest other (both_true (test x) (list_all test xs) each).1 stopped (both_true (test y) (list_all test ys) each').1 stopped' tail in
    (cc (head, more.0), more.1)

-- one element of two lists joined: it is in the first, or in the second
module _ {A : Type 0} where
  pub cut_inside : (w m b r : List A) (t : A) → w ++ m ≡ b ++ t ∷ r → length b < length w → (n : List A) × (w ≡ b ++ t ∷ n) × (r ≡ n ++ m)
  cut_inside [] m b r t same less = absurd (omega arith)
  cut_inside (x ∷ w) m [] r t same less = (w, cc, cc)
  cut_inside (x ∷ w) m (y ∷ b) r t same less =
      let tail : w ++ m ≡ b ++ t ∷ r = cc in
      let head : x ≡ y = cc in
      let more = cut_inside w m b r t tail (omega arith) in
      (more.0, cc (head, more.1), more.2)

  pub cut_outside : (w m b r : List A) (t : A) → w ++ m ≡ b ++ t ∷ r → length w ≤ length b → (n : List A) × (b ≡ w ++ n) × (m ≡ n ++ t ∷ r)
  cut_outside [] m b r t same less = (b, refl, same)
  cut_outside (x ∷ w) m [] r t same less = absurd (omega arith)
  cut_outside (x ∷ w) m (y ∷ b) r t same less =
      let tail : w ++ m ≡ b ++ t ∷ r = cc in
      let head : x ≡ y = cc in
      let more = cut_outside w m b r t tail (omega arith) in
      (more.0, cc (head, more.1), more.2)

  pub cut_same : (b r b' r' : List A) (t t' : A) → b ++ t ∷ r ≡ b' ++ t' ∷ r' → length b ≡ length b' → (b ≡ b') × (t ≡ t') × (r ≡ r')
  cut_same [] r [] r' t t' same long = (refl, cc, cc)
  cut_same [] r (y ∷ b') r' t t' same long = absurd (omega arith)
  cut_same (x ∷ b) r [] r' t t' same long = absurd (omega arith)
  cut_same (x ∷ b) r (y ∷ b') r' t t' same long =
      let tail : b ++ t ∷ r ≡ b' ++ t' ∷ r' = cc in
      let head : x ≡ y = cc in
      let more = cut_same b r b' r' t t' tail (omega arith) in
      (cc (head, more.0), more.1, more.2)

  pub cut_one : (c t : A) (b r : List A) → c ∷ [] ≡ b ++ t ∷ r → (b ≡ []) × (c ≡ t) × (r ≡ [])
  cut_one c t [] r same = (refl, cc, cc)
  cut_one c t (x ∷ b) r same = absurd (omega (arith, ap length same, length-append b (t ∷ r)))

  pub cut_none : (t : A) (b r : List A) → [] ≡ b ++ t ∷ r → ⊥
  cut_none t b r same = omega (arith, ap length same, length-append b (t ∷ r))
