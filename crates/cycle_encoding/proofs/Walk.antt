-- The launches that are shown, one more at a time.
use Rattle.std.proofs.Common.{◌≡◌, ℕ, suc, ◌+◌, ◌-◌, ◌<◌, Bool, true, false, cond, List, [], ◌∷◌, ◌++◌, length, map, take, get_or, refl, ap, ◌∙◌, arith}
use Rattle.std.specs.List.{filter}
use Rattle.std.proofs.lemmas.List.{take_more, length-take, append-nil}
use Rattle.std.proofs.lemmas.List.Elements.{filter-append}
use Rattle.cnf_core.specs.Formula.{assigned}
use Rattle.cycle_encoding.specs.Shapes.{numbered, shown, vars_of, positive}

module _ {X : Type 0} where
  pub numbered-append : (n : ℕ) (xs ys : List X) → numbered n (xs ++ ys) ≡ numbered n xs ++ numbered (n + length xs) ys
  numbered-append n [] ys = (let z : n ≡ n + length {A = X} [] = omega arith in ap (λ m. numbered m ys) z)
  numbered-append n (x ∷ xs) ys =
      let z : n + 1 + length xs ≡ n + length (x ∷ xs) = (let s : length (x ∷ xs) ≡ suc (length xs) = refl in omega (arith, s)) in
      ap (λ ps. (n + 1, x) ∷ ps) (numbered-append (n + 1) xs ys ∙ ap (λ m. numbered (n + 1) xs ++ numbered m ys) z)

  map-append : {A : Type 0} (f : A → X) (xs ys : List A) → map f (xs ++ ys) ≡ map f xs ++ map f ys
  map-append f [] ys = refl
  map-append f (x ∷ xs) ys = ap (λ zs. f x ∷ zs) (map-append f xs ys)

  pub shown-append : (v : ℕ → Bool) (n : ℕ) (xs ys : List X) → shown v (numbered n (xs ++ ys)) ≡ shown v (numbered n xs) ++ shown v (numbered (n + length xs) ys)
  shown-append v n xs ys =
      ap (shown v) (numbered-append n xs ys)
      ∙ ap (map (λ p. p.1)) (filter-append (λ p. v p.0) (numbered n xs) (numbered (n + length xs) ys))
      ∙ map-append (λ p. p.1) (filter (λ p. v p.0) (numbered n xs)) (filter (λ p. v p.0) (numbered (n + length xs) ys))

  one_shown : (v : ℕ → Bool) (n : ℕ) (x : X) (b : Bool) → v (n + 1) ≡ b → shown v (numbered n (x ∷ [])) ≡ cond b (x ∷ []) []
  one_shown v n x true e = ap (λ c. map {A = ℕ × X} (λ p. p.1) (cond c ((n + 1, x) ∷ []) [])) e
  one_shown v n x false e = ap (λ c. map {A = ℕ × X} (λ p. p.1) (cond c ((n + 1, x) ∷ []) [])) e

  more : (values : List Bool) (xs : List X) (i : ℕ) (d : X) (b : Bool) → i < length xs → get_or values i false ≡ b → shown (assigned values) (numbered 0 (take (i + 1) xs)) ≡ shown (assigned values) (numbered 0 (take i xs)) ++ cond b (get_or xs i d ∷ []) []
  more values xs i d b lt e =
      let v = assigned values in
      let size : 0 + length (take i xs) ≡ i = omega (arith, length-take i xs) in
      let at : i + 1 - 1 ≡ i = omega arith in
      let value : v (i + 1) ≡ b = ap (λ j. get_or values j false) at ∙ e in
      ap (λ ys. shown v (numbered 0 ys)) (take_more xs i d lt)
      ∙ shown-append v 0 (take i xs) (get_or xs i d ∷ [])
      ∙ ap (λ m. shown v (numbered 0 (take i xs)) ++ shown v (numbered m (get_or xs i d ∷ []))) size
      ∙ ap (λ ys. shown v (numbered 0 (take i xs)) ++ ys) (one_shown v i (get_or xs i d) b value)

  pub more_yes : (values : List Bool) (xs : List X) (i : ℕ) (d : X) → i < length xs → get_or values i false ≡ true → shown (assigned values) (numbered 0 (take (i + 1) xs)) ≡ shown (assigned values) (numbered 0 (take i xs)) ++ get_or xs i d ∷ []
  more_yes values xs i d lt e = more values xs i d true lt e

  pub more_no : (values : List Bool) (xs : List X) (i : ℕ) (d : X) → i < length xs → get_or values i false ≡ false → shown (assigned values) (numbered 0 (take (i + 1) xs)) ≡ shown (assigned values) (numbered 0 (take i xs))
  more_no values xs i d lt e = more values xs i d false lt e ∙ append-nil (shown (assigned values) (numbered 0 (take i xs)))

-- the variables of those that pass, one more at a time
module _ {X : Type 0} (test : X → Bool) where
  lits-append : {A B : Type 0} (f : A → B) (xs ys : List A) → map f (xs ++ ys) ≡ map f xs ++ map f ys
  lits-append f [] ys = refl
  lits-append f (x ∷ xs) ys = ap (λ zs. f x ∷ zs) (lits-append f xs ys)

  pub vars-append : (n : ℕ) (xs ys : List X) → vars_of test (numbered n (xs ++ ys)) ≡ vars_of test (numbered n xs) ++ vars_of test (numbered (n + length xs) ys)
  vars-append n xs ys =
      ap (vars_of test) (numbered-append n xs ys)
      ∙ ap (map (λ p. positive p.0)) (filter-append (λ p. test p.1) (numbered n xs) (numbered (n + length xs) ys))
      ∙ lits-append (λ p. positive p.0) (filter (λ p. test p.1) (numbered n xs)) (filter (λ p. test p.1) (numbered (n + length xs) ys))
