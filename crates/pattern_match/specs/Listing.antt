-- Lists that have each thing of a kind once, and counts by them. From this project.
use Rattle.std.specs.Prelude.{◌≡◌, ℕ, ◌≤◌, List, [], ◌∷◌, length, All, AllPairs, Contains}

-- the list has each x with P, once, and nothing else
pub record Lists {X : Type 0} (P : X → Type 0) (xs : List X) : Type 0 where
  pub each : All P xs
  pub all : (x : X) → P x → Contains xs x
  pub once : AllPairs (λ x y. ¬ (x ≡ y)) xs

-- the list has things with P, each once, and all of them where it isn't longer than `most`
pub record ListsUpTo {X : Type 0} (P : X → Type 0) (most : ℕ) (xs : List X) : Type 0 where
  pub each : All P xs
  pub all : length xs ≤ most → (x : X) → P x → Contains xs x
  pub once : AllPairs (λ x y. ¬ (x ≡ y)) xs

-- there are n of them
pub record Count {X : Type 0} (P : X → Type 0) (n : ℕ) : Type 0 where
  pub list : List X
  pub lists : Lists P list
  pub length_is : length list ≡ n

-- ys has, in the order of xs, something that R relates to each x to which it relates anything
pub data Chosen {X Y : Type 0} (R : X → Y → Type 0) : List X → List Y → Type 0 where
  nothing : Chosen R [] []
  taken : {x : X} {y : Y} {xs : List X} {ys : List Y} → R x y → Chosen R xs ys → Chosen R (x ∷ xs) (y ∷ ys)
  left_out : {x : X} {xs : List X} {ys : List Y} → ((y : Y) → ¬ R x y) → Chosen R xs ys → Chosen R (x ∷ xs) ys
