-- Lists of lines that are equal, part by part.
use Rattle.std.proofs.Common.{◌≡◌, ℕ, List, [], ◌∷◌, ◌++◌, length, map, get_or, refl, ap, ◌∙◌, arith}
use Rattle.std.specs.Prelude.{All}
use Rattle.std.proofs.lemmas.List.Elements.{All-head, All-tail}
use Rattle.text_core.specs.LineTexts.{Words}

pub head_same : {X : Type 0} (x y : X) (xs ys : List X) → x ∷ xs ≡ y ∷ ys → x ≡ y
head_same x y xs ys e = cc

pub rest_same : {X : Type 0} (x y : X) (xs ys : List X) → x ∷ xs ≡ y ∷ ys → xs ≡ ys
rest_same x y xs ys e = cc

pub cons_same : {X : Type 0} (x y : X) (xs ys : List X) → x ∷ xs ≡ y ∷ ys → (x ≡ y) × (xs ≡ ys)
cons_same x y xs ys e = (head_same x y xs ys e, rest_same x y xs ys e)

-- a byte of words that are equal, or of the first words of lines that are
pub byte_same : (k : ℕ) (a b : List ℕ) → a ≡ b → get_or a k 0 ≡ get_or b k 0
byte_same k a b e = ap (λ w. get_or w k 0) e

pub begin_same : (k : ℕ) (a b : List ℕ) (ws vs : Words) → a ∷ ws ≡ b ∷ vs → get_or a k 0 ≡ get_or b k 0
begin_same k a b ws vs e = byte_same k a b (head_same a b ws vs e)

pub append_same : {X : Type 0} (xs ys zs : List X) → xs ++ ys ≡ xs ++ zs → ys ≡ zs
append_same [] ys zs e = e
append_same (x ∷ xs) ys zs e = append_same xs ys zs (rest_same x x (xs ++ ys) (xs ++ zs) e)

-- equally many lines, and then others
pub counted_same : {X : Type 0} (f : X → Words) (xs ys : List X) (r q : List Words) → length xs ≡ length ys
    → map f xs ++ r ≡ map f ys ++ q → (map f xs ≡ map f ys) × (r ≡ q)
counted_same f [] [] r q n e = (refl, e)
counted_same f [] (y ∷ ys) r q n e = absurd (omega (arith, n))
counted_same f (x ∷ xs) [] r q n e = absurd (omega (arith, n))
counted_same f (x ∷ xs) (y ∷ ys) r q n e =
    let both = cons_same (f x) (f y) (map f xs ++ r) (map f ys ++ q) e in
    let more = counted_same f xs ys r q (omega (arith, n)) both.1 in
    (ap (λ l. l ∷ map f xs) both.0 ∙ ap (λ ls. f y ∷ ls) more.0, more.1)

-- items whose lines are equal, where each line is one item's
pub each_once : {X : Type 0} (f : X → Words) (Fine : X → Type 0)
    (one : (x y : X) → Fine x → Fine y → f x ≡ f y → x ≡ y) (xs ys : List X) → All Fine xs → All Fine ys
    → map f xs ≡ map f ys → xs ≡ ys
each_once f Fine one [] [] a b e = refl
each_once f Fine one [] (y ∷ ys) a b e = cc
each_once f Fine one (x ∷ xs) [] a b e = cc
each_once f Fine one (x ∷ xs) (y ∷ ys) a b e =
    let both = cons_same (f x) (f y) (map f xs) (map f ys) e in
    ap (λ z. z ∷ xs) (one x y (All-head Fine x xs a) (All-head Fine y ys b) both.0)
    ∙ ap (λ zs. y ∷ zs) (each_once f Fine one xs ys (All-tail Fine x xs a) (All-tail Fine y ys b) both.1)
