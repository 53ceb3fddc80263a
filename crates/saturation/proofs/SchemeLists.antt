-- Lists of rules and kinds, one more at a time.
use Rattle.std.proofs.Common.{◌≡◌, ℕ, ◌+◌, ◌<◌, List, [], ◌∷◌, ◌++◌, map, length, take, get_or, All, sym, ap, ◌∙◌, subst, inl, inr, arith}
use Rattle.std.proofs.lemmas.List.{take_more, map-append}
use Rattle.std.proofs.lemmas.List.Elements.{All-contains, Contains-append_cases}
use Rattle.saturation.proofs.AskSteps.{all_from, cases_in}

module _ {X : Type 0} (xs : List X) (k : ℕ) (x : X) (l : k < length xs) (is : x ≡ get_or xs k x) where
  pub taken_more : take (k + 1) xs ≡ take k xs ++ x ∷ []
  taken_more = take_more xs k x l ∙ ap (λ y. take k xs ++ y ∷ []) (sym is)

pub mapped_more : {X Y : Type 0} (f : X → Y) (xs : List X) (k : ℕ) (x : X) → k < length xs → x ≡ get_or xs k x → map f (take (k + 1) xs) ≡ map f (take k xs) ++ f x ∷ []
mapped_more f xs k x l is = ap (map f) (taken_more xs k x l is) ∙ map-append f (take k xs) (x ∷ [])

pub all_more : {X : Type 0} (P : X → Type 0) (xs : List X) (x : X) → All P xs → P x → All P (xs ++ x ∷ [])
all_more P xs x h p = all_from P (xs ++ x ∷ []) (λ y m. elim (Contains-append_cases xs (x ∷ []) y m) [
  | inl k ↦ All-contains P xs y h k
  | inr k ↦ elim (cases_in x y [] k) [
    | inl e ↦ subst P e p
    | inr n ↦ absurd (let b = n.1 in omega (arith, b))
  ]
])
