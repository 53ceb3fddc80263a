-- Lists: maps, and rows that agree.
use Rattle.std.proofs.Common.{◌≡◌, ℕ, suc, List, [], ◌∷◌, map, get_or, Contains, AllPairs, All, refl, sym, ap, ◌∙◌, inl, inr, arith}
use Rattle.std.proofs.lemmas.List.{get_or_default}
use Rattle.std.proofs.lemmas.Bool.{cases_lt}
use Rattle.egraph.specs.declared.rows.Row.{Row}
use Rattle.egraph.specs.Graph.{Agree}

-- two rows of a list without rows that agree are one where they agree
pub one_row : {O : Type 0} (rows : List (Row O)) (r s : Row O) → AllPairs (λ x y. ¬ Agree x y) rows → Contains rows r → Contains rows s → Agree r s → r ≡ s
one_row rows r s apart h k e =
    let f : get_or rows k.0 r ≡ s = get_or_default rows k.0 r s k.1 ∙ k.2 in
    let g : get_or rows h.0 s ≡ r = get_or_default rows h.0 s r h.1 ∙ h.2 in
    elim (cases_lt h.0 k.0) [
      | inl b ↦ absurd (apart h.0 k.0 r b k.1 (rw (h.2, f) e))
      | inr b ↦ elim (cases_lt k.0 h.0) [
        | inl d ↦ absurd (apart k.0 h.0 s d h.1 (rw (k.2, g) (record { op = sym e.op; operands = sym e.operands })))
        | inr d ↦ (let m : h.0 ≡ k.0 = omega arith in sym h.2 ∙ ap (λ y. get_or rows y r) m ∙ f)
      ]
    ]

pub map_at_same : (f : ℕ → ℕ) (xs : List ℕ) → All (λ x. f x ≡ x) xs → map f xs ≡ xs
map_at_same f [] h = refl
map_at_same f (x ∷ xs) h = let e = h 0 x (omega arith) in let t = map_at_same f xs (λ k d l. h (suc k) d (omega arith)) in cc

pub map_agree : {V : Type 0} (f g : ℕ → V) (xs : List ℕ) → All (λ x. f x ≡ g x) xs → map f xs ≡ map g xs
map_agree f g [] h = refl
map_agree f g (x ∷ xs) h = let e = h 0 x (omega arith) in let t = map_agree f g xs (λ k d l. h (suc k) d (omega arith)) in cc

pub map-map : {V : Type 0} (f : ℕ → V) (g : ℕ → ℕ) (xs : List ℕ) → map f (map g xs) ≡ map (λ x. f (g x)) xs
map-map f g [] = refl
map-map f g (x ∷ xs) = let t = map-map f g xs in cc
