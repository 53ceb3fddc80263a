-- A fact of each row of a list, row by row.
use Rattle.std.proofs.Common.{List, [], ◌∷◌, ◌++◌}
use Rattle.std.proofs.lemmas.List.Elements.{All-nil, All-cons}
use Rattle.std.specs.Prelude.{All}

infixr 5 ◌▸◌
pub data Each {X : Type 0} (P : X → Type 0) : List X → Type 0 where
  done : Each P []
  ◌▸◌ : {x : X} {xs : List X} → P x → Each P xs → Each P (x ∷ xs)

pub All-Each : {X : Type 0} (P : X → Type 0) (xs : List X) → Each P xs → All P xs
All-Each P _ done = All-nil P
All-Each P _ (h ▸ hs) = All-cons P _ _ h (All-Each P _ hs)

pub joined : {X : Type 0} {P : X → Type 0} {xs ys : List X} → Each P xs → Each P ys → Each P (xs ++ ys)
joined done k = k
joined (h ▸ hs) k = h ▸ joined hs k
